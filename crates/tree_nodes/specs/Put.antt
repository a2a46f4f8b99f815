-- A pair put into a tree.
use Rattle.std.specs.Prelude.{ℕ, zero, suc, ◌+◌, ◌-◌, List, [], ◌∷◌, length, take, drop, nat_le, if◌then◌else◌}
use Rattle.std.specs.BTreeMap.{insert_entry}
use Rattle.common_types.specs.ByteOrder.{byte_cmp}
use Rattle.page_store.specs.Pages.{Pair}
use Rattle.page_store.specs.Flat.{entry_size}
use Rattle.tree_nodes.specs.Splits.{leaf_place, branch_place}
use Rattle.tree_nodes.specs.Tree.{Tree, Others, page, leaf, branch, none, other, goes_first, entry_room, leaf_bytes, other_bytes}

-- one tree, or two and the key from which on the second begins
pub data Grown : Type 0 where
  one : Tree → Grown
  two : Tree → List ℕ → Tree → Grown

-- the longest front of so many bytes, and what is left
abbrev pub front_pairs : ℕ → List Pair → List Pair
front_pairs room [] = []
front_pairs room (pair ∷ pairs) = if nat_le (entry_size pair) room then pair ∷ front_pairs (room - entry_size pair) pairs else []

abbrev pub back_pairs : ℕ → List Pair → List Pair
back_pairs room [] = []
back_pairs room (pair ∷ pairs) = if nat_le (entry_size pair) room then back_pairs (room - entry_size pair) pairs else pair ∷ pairs

abbrev pub leaves : List Pair → List Pair → Grown
leaves front [] = one (leaf front)
leaves front (pair ∷ pairs) = two (leaf front) pair.0 (leaf (pair ∷ pairs))

-- in two where they don't fit a page, and only there
abbrev pub split_leaf : List Pair → Grown
split_leaf pairs = if nat_le (leaf_bytes pairs) entry_room then one (leaf pairs) else leaves (take (leaf_place pairs) pairs) (drop (leaf_place pairs) pairs)

abbrev pub front_others : ℕ → Others → Others
front_others room none = none
front_others room (other key tree others) = if nat_le (6 + length key) room then other key tree (front_others (room - (6 + length key)) others) else none

abbrev pub back_others : ℕ → Others → Others
back_others room none = none
back_others room (other key tree others) = if nat_le (6 + length key) room then back_others (room - (6 + length key)) others else other key tree others

-- the first so many children, and those after them
abbrev pub take_others : ℕ → Others → Others
take_others zero others = none
take_others (suc n) none = none
take_others (suc n) (other key tree others) = other key tree (take_others n others)

abbrev pub drop_others : ℕ → Others → Others
drop_others zero others = others
drop_others (suc n) none = none
drop_others (suc n) (other key tree others) = drop_others n others

abbrev pub branches : Tree → Others → Others → Grown
branches first front none = one (branch first front)
branches first front (other key tree others) = two (branch first front) key (branch tree others)

abbrev pub split_branch : Tree → Others → Grown
split_branch first others = if nat_le (6 + other_bytes others) entry_room then one (branch first others) else branches first (take_others (branch_place others) others) (drop_others (branch_place others) others)

-- a branch whose first child is replaced
abbrev pub grown_first : Grown → Others → Grown
grown_first (one tree) others = split_branch tree others
grown_first (two tree key next) others = split_branch tree (other key next others)

-- a child in front of those after it, replaced
abbrev pub grown_other : List ℕ → Grown → Others → Others
grown_other first (one tree) others = other first tree others
grown_other first (two tree key next) others = other first tree (other key next others)

abbrev mutual
  pub put : List ℕ → List ℕ → Tree → Grown
  put key value (page n) = one (page n)
  put key value (leaf pairs) = split_leaf (insert_entry byte_cmp pairs key value)
  put key value (branch tree others) = if goes_first key others then grown_first (put key value tree) others else split_branch tree (put_row key value others)

  pub put_row : List ℕ → List ℕ → Others → Others
  put_row key value none = none
  put_row key value (other first tree others) = if goes_first key others then grown_other first (put key value tree) others else other first tree (put_row key value others)

-- a new root over two
abbrev pub rooted : Grown → Tree
rooted (one tree) = tree
rooted (two tree key next) = branch tree (other key next none)

-- a row with what one of its children has grown to
abbrev pub others_with : Others → ℕ → Grown → Others
others_with none at g = none
others_with (other key tree others) zero g = grown_other key g others
others_with (other key tree others) (suc at) g = other key tree (others_with others at g)
