-- Names of a file of changes, which their types may refuse, and what is made of several of them.
use Rattle.std.specs.Prelude.{ℕ, ◌&&◌, ◌==◌, Bool, List, length, nat_lt, Option, Some, Result, Ok, Err, [], ◌∷◌, if◌then◌else◌}
use Rattle.common_types.specs.Names.{name_of, is_field, is_word, is_url}
use Rattle.common_types.specs.declared.refused.Refused.{Refused}
use Rattle.common_types.specs.declared.refused.Refused.TheVariants.{BadName}
use Rattle.toml.specs.Data.{Members}
use Rattle.change_file.specs.Tables.{◌>>=◌, text_at, number_at}

-- What is made of one name after another: the first that is refused counts.
infixl 10 ◌◂◌
abbrev pub ◌◂◌ : {A B : Type 0} → Result (A → B) Refused → Result A Refused → Result B Refused
Err refused ◂ name = Err refused
Ok made ◂ Err refused = Err refused
Ok made ◂ Ok name = Ok (made name)

-- a title of at least one byte
abbrev pub is_prompt : List ℕ → Bool
is_prompt bytes = nat_lt 0 (length bytes) && is_field bytes

abbrev pub selector_named : List ℕ → Result (List ℕ) Refused
selector_named = name_of is_field 255

abbrev pub title_named : List ℕ → Result (List ℕ) Refused
title_named = name_of is_field 69

abbrev pub prompt_named : List ℕ → Result (List ℕ) Refused
prompt_named = name_of is_prompt 69

abbrev pub admin_named : List ℕ → Result (List ℕ) Refused
admin_named = name_of is_field 100

abbrev pub host_named : List ℕ → Result (List ℕ) Refused
host_named = name_of is_word 100

abbrev pub url_named : List ℕ → Result (List ℕ) Refused
url_named = name_of is_url 251

abbrev pub port_named : ℕ → Result ℕ Refused
port_named port = if port == 0 then Err BadName else Ok port

-- the name that the string at a key says, as its type takes it
abbrev pub name_at : (List ℕ → Result (List ℕ) Refused) → List ℕ → Members → Option (Result (List ℕ) Refused)
name_at named key table = do
  text ← text_at key table
  Some (named text)

abbrev pub port_at : List ℕ → Members → Option (Result ℕ Refused)
port_at key table = do
  number ← number_at key table
  Some (port_named number)

-- all of them, or the first refusal
abbrev pub all_named : {A : Type 0} → List (Result A Refused) → Result (List A) Refused
all_named [] = Ok []
all_named (one ∷ others) = Ok (λ x xs. x ∷ xs) ◂ one ◂ all_named others
