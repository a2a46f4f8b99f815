-- The questions of a form, as a file of changes writes them.
use Rattle.std.specs.Prelude.{ℕ, List, [], ◌∷◌, Option, Some, None, Result, Ok, codes, if◌then◌else◌}
use Rattle.common_types.specs.declared.refused.Refused.{Refused}
use Rattle.host_types.specs.declared.form.Question.{Question}
use Rattle.host_types.specs.declared.form.Question.TheVariants.{Ask, AskL, AskP, Choose}
use Rattle.toml.specs.Data.{Data, Members, as_table, as_str}
use Rattle.change_file.specs.Tables.{◌>>=◌, has_only, text_at, values_at, each}
use Rattle.change_file.specs.Named.{◌◂◌, name_at, prompt_named}

-- ---- questions of their prompts

abbrev pub ask : Result (List ℕ) Refused → Result Question Refused
ask prompt = Ok (λ p. Ask p) ◂ prompt

abbrev pub ask_lines : Result (List ℕ) Refused → Result Question Refused
ask_lines prompt = Ok (λ p. AskL p) ◂ prompt

abbrev pub ask_word : Result (List ℕ) Refused → List ℕ → Result Question Refused
ask_word prompt word = Ok (λ p. AskP p word) ◂ prompt

abbrev pub choose : Result (List ℕ) Refused → List (List ℕ) → Result Question Refused
choose prompt choices = Ok (λ p. Choose p choices) ◂ prompt

-- ---- questions of their tables

abbrev pub ask_in : Members → Option (Result Question Refused)
ask_in table = do
  prompt ← name_at prompt_named (codes "ask") table
  Some (ask prompt)

abbrev pub askl_in : Members → Option (Result Question Refused)
askl_in table = do
  prompt ← name_at prompt_named (codes "askl") table
  Some (ask_lines prompt)

abbrev pub askp_in : Members → Option (Result Question Refused)
askp_in table = do
  prompt ← name_at prompt_named (codes "askp") table
  word ← text_at (codes "word") table
  Some (ask_word prompt word)

abbrev pub choose_in : Members → Option (Result Question Refused)
choose_in table = do
  prompt ← name_at prompt_named (codes "choose") table
  values ← values_at (codes "choices") table
  choices ← each as_str values
  Some (choose prompt choices)

-- one of the four forms, by the keys that there are
abbrev pub question_in : Members → Option (Result Question Refused)
question_in table =
    if has_only (codes "ask" ∷ []) table then ask_in table
    else if has_only (codes "askl" ∷ []) table then askl_in table
    else if has_only (codes "askp" ∷ codes "word" ∷ []) table then askp_in table
    else if has_only (codes "choose" ∷ codes "choices" ∷ []) table then choose_in table
    else None

abbrev pub question_of : Data → Option (Result Question Refused)
question_of value = do
  table ← as_table value
  question_in table
