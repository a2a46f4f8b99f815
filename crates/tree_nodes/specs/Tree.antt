-- A tree of pages as its callers see it: owned nodes, and pages that stay as they were.
use Rattle.std.specs.Prelude.{ℕ, zero, suc, ◌+◌, Bool, true, List, [], ◌∷◌, ◌++◌, length, Option, Some, None, if◌then◌else◌}
use Rattle.page_store.specs.Keys.{precedes}
use Rattle.page_store.specs.Pages.{Pair}
use Rattle.page_store.specs.Flat.{entry_size}

mutual
  pub data Tree : Type 0 where
    page : ℕ → Tree
    leaf : List Pair → Tree
    branch : Tree → Others → Tree

  -- the children of a branch after its first, each with its key
  pub data Others : Type 0 where
    none : Others
    other : List ℕ → Tree → Others → Others

-- The pages that were there before: the pairs at and under each, at which level and between which keys it may stand, and what a page of a level says.
pub record OldPages : Type 0 where
  pub pairs : ℕ → List Pair
  pub stands : ℕ → ℕ → List ℕ → Option (List ℕ) → Bool
  pub opened : ℕ → ℕ → Option Tree

-- the pairs of a tree, from left to right
abbrev mutual
  pub pairs_of : OldPages → Tree → List Pair
  pairs_of old (page n) = old.pairs n
  pairs_of old (leaf pairs) = pairs
  pairs_of old (branch tree others) = pairs_of old tree ++ row_pairs old others

  pub row_pairs : OldPages → Others → List Pair
  row_pairs old none = []
  row_pairs old (other key tree others) = pairs_of old tree ++ row_pairs old others

-- the pages that a tree names, from left to right
abbrev mutual
  pub pages_of : Tree → List ℕ
  pages_of (page n) = n ∷ []
  pages_of (leaf pairs) = []
  pages_of (branch tree others) = pages_of tree ++ row_pages others

  pub row_pages : Others → List ℕ
  row_pages none = []
  row_pages (other key tree others) = pages_of tree ++ row_pages others

-- a key is below the key of the next child, where there is one
abbrev pub goes_first : List ℕ → Others → Bool
goes_first key none = true
goes_first key (other next tree others) = precedes key next

-- the page that a key's way ends at, where the nodes on it aren't all owned
abbrev mutual
  pub way : List ℕ → Tree → Option ℕ
  way key (page n) = Some n
  way key (leaf pairs) = None
  way key (branch tree others) = if goes_first key others then way key tree else row_way key others

  pub row_way : List ℕ → Others → Option ℕ
  row_way key none = None
  row_way key (other first tree others) = if goes_first key others then way key tree else row_way key others

-- how many of these children a key's way passes over: those before the first whose key is above it
abbrev pub place : List ℕ → Others → ℕ
place key none = 0
place key (other next tree others) = if precedes key next then 0 else 1 + place key others

-- bytes of a page for its entries
abbrev pub entry_room : ℕ
entry_room = 4072

-- bytes of a leaf's entries
abbrev pub leaf_bytes : List Pair → ℕ
leaf_bytes [] = 0
leaf_bytes (pair ∷ pairs) = entry_size pair + leaf_bytes pairs

-- bytes of a branch's entries after the first, which has 6 bytes
abbrev pub other_bytes : Others → ℕ
other_bytes none = 0
other_bytes (other key tree others) = (6 + length key) + other_bytes others

abbrev pub other_count : Others → ℕ
other_count none = 0
other_count (other key tree others) = 1 + other_count others

-- How many nodes are owned at so many levels below the tree's own: the pages that a commit would write there.
abbrev mutual
  pub owned_at : ℕ → Tree → ℕ
  owned_at depth (page n) = 0
  owned_at zero (leaf pairs) = 1
  owned_at (suc depth) (leaf pairs) = 0
  owned_at zero (branch tree others) = 1
  owned_at (suc depth) (branch tree others) = owned_at depth tree + row_owned_at depth others

  pub row_owned_at : ℕ → Others → ℕ
  row_owned_at depth none = 0
  row_owned_at depth (other key tree others) = owned_at depth tree + row_owned_at depth others

-- how many nodes of a tree are owned
abbrev mutual
  pub owned_nodes : Tree → ℕ
  owned_nodes (page n) = 0
  owned_nodes (leaf pairs) = 1
  owned_nodes (branch tree others) = owned_nodes tree + row_owned_nodes others + 1

  pub row_owned_nodes : Others → ℕ
  row_owned_nodes none = 0
  row_owned_nodes (other key tree others) = owned_nodes tree + row_owned_nodes others
