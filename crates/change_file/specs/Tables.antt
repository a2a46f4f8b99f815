-- What a table of a file of changes has at its keys.
use Rattle.std.specs.Prelude.{ℕ, ◌^◌, ℤ, pos, negsuc, Bool, true, ◌&&◌, List, [], ◌∷◌, Option, Some, None, bytes_eq, nat_lt, if◌then◌else◌}
use Rattle.std.specs.List.{list_any}
use Rattle.std.specs.Result.{result_ok}
use Rattle.common_types.specs.Names.{stamp_of}
use Rattle.toml.specs.Data.{Data, Items, no_items, item, Members, no_members, member, get_member, as_str, as_integer, as_array, as_table}

-- what follows from something, where it is there
infixl 10 ◌>>=◌
abbrev pub ◌>>=◌ : {A B : Type 0} → Option A → (A → Option B) → Option B
None >>= f = None
Some x >>= f = f x

abbrev pub is_among : List (List ℕ) → List ℕ → Bool
is_among keys key = list_any (λ k. bytes_eq k key) keys

-- the table has no key but these
abbrev pub has_only : List (List ℕ) → Members → Bool
has_only keys no_members = true
has_only keys (member key value others) = is_among keys key && has_only keys others

-- the string at a key
abbrev pub text_at : List ℕ → Members → Option (List ℕ)
text_at key table = do
  value ← get_member key table
  as_str value

-- a string that may be left out, and is empty then
abbrev pub text_or_none : Option Data → Option (List ℕ)
text_or_none None = Some []
text_or_none (Some value) = as_str value

abbrev pub optional_text_at : List ℕ → Members → Option (List ℕ)
optional_text_at key table = text_or_none (get_member key table)

-- a number from 0 to 65,535
abbrev pub small_number : ℤ → Option ℕ
small_number (pos n) = if nat_lt n (2 ^ 16) then Some n else None
small_number (negsuc n) = None

abbrev pub number_at : List ℕ → Members → Option ℕ
number_at key table = do
  value ← get_member key table
  number ← as_integer value
  small_number number

-- a moment: a number of seconds that a stamp takes
abbrev pub moment : ℤ → Option ℕ
moment (pos n) = result_ok (stamp_of n)
moment (negsuc n) = None

-- a moment that may be left out, and isn't there then
abbrev pub moment_or_none : Option Data → Option (Option ℕ)
moment_or_none None = Some None
moment_or_none (Some value) = do
  number ← as_integer value
  stamp ← moment number
  Some (Some stamp)

abbrev pub optional_moment_at : List ℕ → Members → Option (Option ℕ)
optional_moment_at key table = moment_or_none (get_member key table)

-- values in their order
abbrev pub values_of : Items → List Data
values_of no_items = []
values_of (item value others) = value ∷ values_of others

-- the values of the array at a key
abbrev pub values_at : List ℕ → Members → Option (List Data)
values_at key table = do
  value ← get_member key table
  array ← as_array value
  Some (values_of array)

-- the table at a key
abbrev pub table_at : List ℕ → Members → Option Members
table_at key table = do
  value ← get_member key table
  as_table value

-- what each of some values gives, where each gives something
abbrev pub each : {A : Type 0} → (Data → Option A) → List Data → Option (List A)
each f [] = Some []
each f (value ∷ others) = do
  one ← f value
  rest ← each f others
  Some (one ∷ rest)
