-- The form of tree pages.
use Rattle.std.specs.Prelude.{ℕ, zero, suc, Bool, true, false, List, [], ◌∷◌, drop, map, Option, Some, nat_lt, nat_le, ◌==◌, ◌&&◌, bytes_eq}
use Rattle.std.specs.List.{list_all}
use Rattle.std.specs.Int.{w16, w32, w64}
use Rattle.page_store.specs.Sizes.{longest_key, longest_value}
use Rattle.page_store.specs.Reading.{◌>>=◌, where_true, piece_at, number_at}
use Rattle.page_store.specs.Keys.{rises, is_between}
use Rattle.page_store.specs.Roots.{is_zero}

-- a key and its value
abbrev pub Pair : Type 0
Pair = List ℕ × List ℕ

-- an entry of a branch
pub record Child : Type 0 where
  pub key : List ℕ
  pub page : ℕ

abbrev pub key_of : Pair → List ℕ
key_of pair = pair.0

abbrev pub child_key : Child → List ℕ
child_key child = child.key

pub record Head : Type 0 where
  pub number : ℕ
  pub generation : ℕ
  pub level : ℕ
  pub count : ℕ

-- what a page is tested against: its number, its level, the pages of the image and the current seal
pub record Place : Type 0 where
  pub page : ℕ
  pub level : ℕ
  pub pages : ℕ
  pub seal : ℕ

-- GOPHPAGE
abbrev pub page_word : List ℕ
page_word = 71 ∷ 79 ∷ 80 ∷ 72 ∷ 80 ∷ 65 ∷ 71 ∷ 69 ∷ []

-- what stands before the entries of a page with a magic word
unfoldable pub head_at : List ℕ → List ℕ → Option (Head × List ℕ)
head_at magic bytes = do
  word ← piece_at 8 bytes
  number ← number_at w32 word.1
  generation ← number_at w64 number.1
  level ← number_at w16 generation.1
  count ← number_at w16 level.1
  where_true (bytes_eq word.0 magic) (Some (record { number = number.0; generation = generation.0; level = level.0; count = count.0 }, count.1))

abbrev pub fits_place : Place → Head → Bool
fits_place place head = head.number == place.page && (head.level == place.level && (nat_le 1 head.generation && (nat_le head.generation place.seal && nat_le 1 head.count)))

unfoldable pub pair_at : List ℕ → Option (Pair × List ℕ)
pair_at bytes = do
  key_length ← number_at w16 bytes
  value_length ← number_at w16 key_length.1
  key ← piece_at key_length.0 value_length.1
  value ← piece_at value_length.0 key.1
  where_true (nat_le 1 key_length.0 && (nat_le key_length.0 longest_key && nat_le value_length.0 longest_value)) (Some ((key.0, value.0), value.1))

unfoldable pub child_at : List ℕ → Option (Child × List ℕ)
child_at bytes = do
  key_length ← number_at w16 bytes
  page ← number_at w32 key_length.1
  key ← piece_at key_length.0 page.1
  where_true (nat_le key_length.0 longest_key) (Some (record { key = key.0; page = page.0 }, key.1))

-- so many entries, and the bytes after them
abbrev pub entries_at : {E : Type 0} → (List ℕ → Option (E × List ℕ)) → ℕ → List ℕ → Option (List E × List ℕ)
entries_at entry_at zero bytes = Some ([], bytes)
entries_at entry_at (suc n) bytes = do
  entry ← entry_at bytes
  others ← entries_at entry_at n entry.1
  Some (entry.0 ∷ others.0, others.1)

-- the entries of a page that has its form
unfoldable pub entries_of : {E : Type 0} → (List ℕ → Option (E × List ℕ)) → Place → List ℕ → Option (List E)
entries_of entry_at place bytes = do
  head ← head_at page_word bytes
  entries ← entries_at entry_at head.0.count head.1
  where_true (fits_place place head.0 && list_all is_zero entries.1) (Some entries.0)

-- keys that rise, between two keys
abbrev pub are_leaf : List ℕ → Option (List ℕ) → List Pair → Bool
are_leaf low high pairs = rises (map key_of pairs) && list_all (is_between low high) (map key_of pairs)

-- the pairs of a leaf between two keys
unfoldable pub leaf_of : Place → List ℕ → Option (List ℕ) → List ℕ → Option (List Pair)
leaf_of place low high bytes = do
  pairs ← entries_of pair_at place bytes
  where_true (are_leaf low high pairs) (Some pairs)

abbrev pub is_inside : ℕ → Child → Bool
is_inside pages child = nat_le 2 child.page && nat_lt child.page pages

abbrev pub starts_empty : List (List ℕ) → Bool
starts_empty ([] ∷ keys) = true
starts_empty keys = false

-- keys that rise, the first empty, the others between two keys; children inside the image
abbrev pub are_branch : ℕ → List ℕ → Option (List ℕ) → List Child → Bool
are_branch pages low high children =
    starts_empty (map child_key children) && (rises (map child_key children) && (list_all (is_between low high) (drop 1 (map child_key children)) && list_all (is_inside pages) children))

-- the children of a branch between two keys
unfoldable pub branch_of : Place → List ℕ → Option (List ℕ) → List ℕ → Option (List Child)
branch_of place low high bytes = do
  children ← entries_of child_at place bytes
  where_true (are_branch place.pages low high children) (Some children)
