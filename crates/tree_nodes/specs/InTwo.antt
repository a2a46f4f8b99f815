-- What a split leaves of the entries of one page: the entries of two, whichever they are.
use Rattle.std.specs.Prelude.{◌≡◌, ◌≤◌, ◌+◌, ℕ, true, List, ◌∷◌, ◌++◌}
use Rattle.page_store.specs.Pages.{Pair}
use Rattle.page_store.specs.Batch.{is_key}
use Rattle.tree_nodes.specs.Tree.{Tree, Others, leaf, branch, none, other, entry_room, leaf_bytes, other_bytes, other_count}
use Rattle.tree_nodes.specs.Put.{Grown, two}
use Rattle.tree_nodes.specs.Valid.{IsFilledLeaf}

-- bytes of an entry of a leaf and of a branch at most: 4 and 6 with a key of 300 and a value of 1,024
abbrev pub greatest_pair : ℕ
greatest_pair = 1328

abbrev pub greatest_child : ℕ
greatest_child = 306

abbrev pub others_joined : Others → Others → Others
others_joined none back = back
others_joined (other key tree front) back = other key tree (others_joined front back)

abbrev pub AreKeys : Others → Type 0
AreKeys none = Unit {0}
AreKeys (other key tree others) = (is_key key ≡ true) × AreKeys others

-- Two leaves that fit their pages, with these pairs in their order, and none without pairs.
pub record IsLeafInTwo (pairs : List Pair) (grown : Grown) : Type 0 where
  pub front : List Pair
  pub middle : Pair
  pub back : List Pair
  pub is : grown ≡ two (leaf front) middle.0 (leaf (middle ∷ back))
  pub all : front ++ (middle ∷ back) ≡ pairs
  pub filled : IsFilledLeaf front
  pub first_fits : leaf_bytes front ≤ entry_room
  pub second_fits : leaf_bytes (middle ∷ back) ≤ entry_room

-- Two branches that fit their pages, with these children in their order, and none of fewer than seven.
pub record IsBranchInTwo (first : Tree) (others : Others) (grown : Grown) : Type 0 where
  pub front : Others
  pub key : List ℕ
  pub middle : Tree
  pub back : Others
  pub is : grown ≡ two (branch first front) key (branch middle back)
  pub all : others_joined front (other key middle back) ≡ others
  pub first_fits : 6 + other_bytes front ≤ entry_room
  pub second_fits : 6 + other_bytes back ≤ entry_room
  pub first_has_seven : 7 ≤ 1 + other_count front
  pub second_has_seven : 7 ≤ 1 + other_count back
