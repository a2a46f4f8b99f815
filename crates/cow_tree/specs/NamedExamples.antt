-- Worked examples: which page of a small tree is named. The pages are written without the zeros behind their entries.
use Rattle.std.specs.Prelude.{◌≡◌, ℕ, List, [], ◌∷◌, ◌++◌, length, codes, slice_index_or, Ok, Err}
use Rattle.page_store.specs.Pages.{Pair, Child}
use Rattle.page_store.specs.Encoding.{entries_bytes}
use Rattle.page_store.specs.declared.slot.Slot.{Slot}
use Rattle.tree_nodes.specs.PageBytes.{head_bytes, children_bytes}
use Rattle.cow_tree.specs.NamedWalks.{tree_or_name}

abbrev pub pair : List ℕ → Pair
pair key = (key, codes "v")

abbrev pub child : List ℕ → ℕ → Child
child key page = record { key = key; page = page }

-- a leaf of a number and a generation
abbrev pub leaf_at : ℕ → ℕ → List Pair → List ℕ
leaf_at n generation pairs = head_bytes n generation 0 (length pairs) ++ entries_bytes pairs

-- a branch of a number and a level, of generation 1
abbrev pub branch_at : ℕ → ℕ → List Child → List ℕ
branch_at n level children = head_bytes n 1 level (length children) ++ children_bytes children

-- the pages 2 and on, and nothing anywhere else
abbrev pub from_two : List (List ℕ) → ℕ → List ℕ
from_two pages n = slice_index_or ([] ∷ [] ∷ pages) n []

-- slot 1 of generation 1 in an image of 16 pages: its root, and how many pairs it counts
abbrev pub slot : ℕ → ℕ → ℕ → Slot
slot tree height keys = record { number = 1; seal = 1; root = record { pages = 16; tree = tree; height = height; keys = keys; banner = record { version = 2; host = codes "host"; port = 70; admin = codes "Ada" } } }

-- a root of two leaves: keys below m, and from m on
abbrev pub root : List ℕ
root = branch_at 2 1 (child [] 3 ∷ child (codes "m") 4 ∷ [])

abbrev pub left : List ℕ
left = leaf_at 3 1 (pair (codes "a") ∷ [])

abbrev pub right : List ℕ
right = leaf_at 4 1 (pair (codes "m") ∷ pair (codes "z") ∷ [])

pub record NamedExamples : Type 0 where
  pub whole : tree_or_name (slot 2 2 3) (from_two (root ∷ left ∷ right ∷ [])) ≡ Ok (record { pages = 2 ∷ 3 ∷ 4 ∷ []; pairs = pair (codes "a") ∷ pair (codes "m") ∷ pair (codes "z") ∷ [] })
  pub no_pairs : tree_or_name (slot 0 0 0) (from_two []) ≡ Ok (record { pages = []; pairs = [] })
  -- the record names no root as it may, or another count of pairs
  pub root_slot : tree_or_name (slot 1 2 3) (from_two (root ∷ left ∷ right ∷ [])) ≡ Err 1
  pub root_behind : tree_or_name (slot 16 2 3) (from_two (root ∷ left ∷ right ∷ [])) ≡ Err 1
  pub too_high : tree_or_name (slot 2 17 3) (from_two (root ∷ left ∷ right ∷ [])) ≡ Err 1
  pub root_of_nothing : tree_or_name (slot 2 0 0) (from_two (root ∷ left ∷ right ∷ [])) ≡ Err 1
  pub other_count : tree_or_name (slot 2 2 4) (from_two (root ∷ left ∷ right ∷ [])) ≡ Err 1
  -- a page that has not the form, or isn't in its place
  pub no_page : tree_or_name (slot 2 2 3) (from_two (root ∷ left ∷ [])) ≡ Err 4
  pub another_page : tree_or_name (slot 2 2 3) (from_two (root ∷ left ∷ left ∷ [])) ≡ Err 4
  pub later_generation : tree_or_name (slot 2 2 3) (from_two (root ∷ left ∷ leaf_at 4 2 (pair (codes "m") ∷ pair (codes "z") ∷ []) ∷ [])) ≡ Err 4
  pub level_of_the_root : tree_or_name (slot 2 3 3) (from_two (root ∷ left ∷ right ∷ [])) ≡ Err 2
  pub key_below : tree_or_name (slot 2 2 2) (from_two (root ∷ left ∷ leaf_at 4 1 (pair (codes "l") ∷ []) ∷ [])) ≡ Err 4
  pub key_above : tree_or_name (slot 2 2 3) (from_two (root ∷ leaf_at 3 1 (pair (codes "m") ∷ []) ∷ right ∷ [])) ≡ Err 3
  pub child_behind : tree_or_name (slot 2 2 3) (from_two (branch_at 2 1 (child [] 3 ∷ child (codes "m") 16 ∷ []) ∷ left ∷ right ∷ [])) ≡ Err 2
  -- the first that is wrong, before the count of pairs
  pub first_of_two : tree_or_name (slot 2 2 3) (from_two (root ∷ [])) ≡ Err 3
  pub before_the_count : tree_or_name (slot 2 2 9) (from_two (root ∷ left ∷ [])) ≡ Err 4
  -- page 4 stands under page 3, and page 5 beside that
  pub under_the_first : tree_or_name (slot 2 3 2) (from_two (branch_at 2 2 (child [] 3 ∷ child (codes "m") 5 ∷ []) ∷ branch_at 3 1 (child [] 4 ∷ []) ∷ [])) ≡ Err 4
  -- the page that was reached before, and not the leaf under it
  pub reached_twice : tree_or_name (slot 2 3 2) (from_two (branch_at 2 2 (child [] 3 ∷ child (codes "m") 3 ∷ []) ∷ branch_at 3 1 (child [] 4 ∷ []) ∷ leaf_at 4 1 (pair (codes "a") ∷ []) ∷ [])) ≡ Err 3
