-- Trees whose keys rise between two keys, and whose nodes fit their pages.
use Rattle.std.specs.Prelude.{◌≡◌, ℕ, zero, suc, ◌+◌, ◌≤◌, true, false, List, [], ◌∷◌, ◌++◌, map, Option, Some, None}
use Rattle.std.specs.List.{list_all}
use Rattle.page_store.specs.Keys.{precedes, is_below, is_between}
use Rattle.page_store.specs.Pages.{Pair, key_of, are_leaf}
use Rattle.page_store.specs.Batch.{is_key, is_pair}
use Rattle.tree_nodes.specs.Tree.{Tree, Others, page, leaf, branch, none, other, OldPages, pairs_of, pages_of, owned_at, entry_room, leaf_bytes, other_bytes, other_count}
use Rattle.tree_nodes.specs.Put.{Grown, one, two}

-- up to which key
abbrev pub others_high : Others → Option (List ℕ) → Option (List ℕ)
others_high none high = high
others_high (other key tree others) high = Some key

abbrev pub IsFilledLeaf : List Pair → Type 0
IsFilledLeaf [] = ⊥
IsFilledLeaf (pair ∷ pairs) = Unit {0}

abbrev pub IsValidLeaf : List Pair → List ℕ → Option (List ℕ) → Type 0
IsValidLeaf pairs low high = (are_leaf low high pairs ≡ true) × (list_all is_pair pairs ≡ true) × IsFilledLeaf pairs × (leaf_bytes pairs ≤ entry_room)

-- a tree of a level, from a key on and up to another
abbrev mutual
  pub IsValid : OldPages → ℕ → Tree → List ℕ → Option (List ℕ) → Type 0
  IsValid old level (page n) low high = old.stands level n low high ≡ true
  IsValid old zero (leaf pairs) low high = IsValidLeaf pairs low high
  IsValid old (suc level) (leaf pairs) low high = ⊥
  IsValid old zero (branch tree others) low high = ⊥
  IsValid old (suc level) (branch tree others) low high = IsValid old level tree low (others_high others high) × IsValidRow old level others low high × (6 + other_bytes others ≤ entry_room)

  pub IsValidRow : OldPages → ℕ → Others → List ℕ → Option (List ℕ) → Type 0
  IsValidRow old level none low high = Unit {0}
  IsValidRow old level (other key tree others) low high =
      (precedes low key ≡ true) × (is_below high key ≡ true) × (is_key key ≡ true) × IsValid old level tree key (others_high others high) × IsValidRow old level others key high

abbrev pub IsGrown : OldPages → ℕ → Grown → List ℕ → Option (List ℕ) → Type 0
IsGrown old level (one tree) low high = IsValid old level tree low high
IsGrown old level (two tree key next) low high = (precedes low key ≡ true) × (is_below high key ≡ true) × (is_key key ≡ true) × IsValid old level tree low (Some key) × IsValid old level next key high

abbrev pub grown_pairs : OldPages → Grown → List Pair
grown_pairs old (one tree) = pairs_of old tree
grown_pairs old (two tree key next) = pairs_of old tree ++ pairs_of old next

-- what is left of a tree
abbrev pub IsLeft : OldPages → ℕ → Option Tree → List ℕ → Option (List ℕ) → Type 0
IsLeft old level None low high = Unit {0}
IsLeft old level (Some tree) low high = IsValid old level tree low high

abbrev pub left_pairs : OldPages → Option Tree → List Pair
left_pairs old None = []
left_pairs old (Some tree) = pairs_of old tree

abbrev pub grown_pages : Grown → List ℕ
grown_pages (one tree) = pages_of tree
grown_pages (two tree key next) = pages_of tree ++ pages_of next

abbrev pub left_pages : Option Tree → List ℕ
left_pages None = []
left_pages (Some tree) = pages_of tree

abbrev pub grown_owned_at : ℕ → Grown → ℕ
grown_owned_at depth (one tree) = owned_at depth tree
grown_owned_at depth (two tree key next) = owned_at depth tree + owned_at depth next

abbrev pub left_owned_at : ℕ → Option Tree → ℕ
left_owned_at depth None = 0
left_owned_at depth (Some tree) = owned_at depth tree

-- the level of the root over what a tree of a level has grown to
abbrev pub rooted_level : ℕ → Grown → ℕ
rooted_level level (one tree) = level
rooted_level level (two tree key next) = suc level

-- one branch, of at most one entry more than before
abbrev pub GainsOneEntry : Others → Grown → Type 0
GainsOneEntry others (one (page n)) = ⊥
GainsOneEntry others (one (leaf pairs)) = ⊥
GainsOneEntry others (one (branch tree after)) = other_count after ≤ other_count others + 1
GainsOneEntry others (two tree key next) = ⊥

-- nothing, or a branch of no more entries than before
abbrev pub GainsNoEntry : Others → Option Tree → Type 0
GainsNoEntry others None = Unit {0}
GainsNoEntry others (Some (page n)) = ⊥
GainsNoEntry others (Some (leaf pairs)) = ⊥
GainsNoEntry others (Some (branch tree after)) = other_count after ≤ other_count others

-- the second bound is no lower
abbrev pub IsUpTo : Option (List ℕ) → Option (List ℕ) → Type 0
IsUpTo high higher = (key : List ℕ) → is_below high key ≡ true → is_below higher key ≡ true

-- one owned node, and pages under it
abbrev pub IsOneNode : Tree → Type 0
IsOneNode tree = (owned_at 0 tree ≡ 1) × ((depth : ℕ) → owned_at (suc depth) tree ≡ 0)

-- What is known of the old pages: their keys stand between the bounds, they may stand between wider ones too, and what a page says is a node of its level with the same pairs.
pub record IsOld (old : OldPages) : Type 0 where
  pub within : (level n : ℕ) (low : List ℕ) (high : Option (List ℕ)) → old.stands level n low high ≡ true → list_all (is_between low high) (map key_of (old.pairs n)) ≡ true
  pub widens : (level n : ℕ) (low lower : List ℕ) (high higher : Option (List ℕ)) → precedes low lower ≡ false → IsUpTo high higher → old.stands level n low high ≡ true → old.stands level n lower higher ≡ true
  pub opens : (level n : ℕ) (low : List ℕ) (high : Option (List ℕ)) → old.stands level n low high ≡ true
      → (tree : Tree) × (old.opened level n ≡ Some tree) × IsValid old level tree low high × (pairs_of old tree ≡ old.pairs n) × IsOneNode tree
