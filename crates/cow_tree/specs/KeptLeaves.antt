-- Leaves of a tree whose pairs are kept, and what they tell of the next pair.
use Rattle.std.specs.Prelude.{◌≡◌, ◌⊎◌, ℕ, Bool, false, IsTrue, ◌≤◌, List, [], ◌∷◌, ◌++◌, ◌&&◌, not, Option, Some, None, IfSome, Ok, option_map, take, drop, if◌then◌else◌}
use Rattle.std.specs.Option.{is_some}
use Rattle.page_store.specs.Sizes.{longest_key, longest_value}
use Rattle.page_store.specs.Keys.{precedes}
use Rattle.page_store.specs.Pages.{Pair, leaf_of}
use Rattle.page_store.specs.Batch.{pair_after}
use Rattle.page_store.specs.Content.{Found, Bounds, place_in, is_among}
use Rattle.page_store.specs.StoreState.{IsFilled}
use Rattle.tree_nodes.specs.PageViews.{pairs_in}
use Rattle.cow_tree.specs.declared.kept_leaf.Place.{Place}
use Rattle.cow_tree.specs.declared.page_fault.PageFault.{PageFault}

-- Pairs that stand one after another among others.
pub record IsRun (run pairs : List Pair) : Type 0 where
  pub front : List Pair
  pub rest : List Pair
  pub is : pairs ≡ front ++ (run ++ rest)

-- Some of the pages of a tree, and a run of its pairs.
pub record IsPart (part whole : Found) : Type 0 where
  pub pages : (n : ℕ) → IsTrue (is_among n part.pages) → IsTrue (is_among n whole.pages)
  pub run : IsRun part.pairs whole.pairs

-- The pairs of a leaf on a page of a tree, which are a run of the tree's.
pub record IsLeaf (bytes : ℕ → List ℕ) (bounds : Bounds) (tree : Found) (leaf : List Pair) : Type 0 where
  pub page : ℕ
  pub reached : IsTrue (is_among page tree.pages)
  pub pairs_are : leaf_of (place_in bounds 0 page) [] None (bytes page) ≡ Some leaf
  pub run : IsRun leaf tree.pairs

-- The leaf of a tree that tells what pair is after a key.
pub record IsNextLeaf (bytes : ℕ → List ℕ) (bounds : Bounds) (key : List ℕ) (tree : Found) (leaf : List Pair) : Type 0 where
  pub is_leaf : IsLeaf bytes bounds tree leaf
  pub after : pair_after tree.pairs key ≡ pair_after leaf key

-- Nothing is kept, or a leaf of a tree.
abbrev pub IsKeptLeaf : (ℕ → List ℕ) → Bounds → Found → List Pair → Type 0
IsKeptLeaf bytes bounds tree kept = ∥ (kept ≡ []) ⊎ IsLeaf bytes bounds tree kept ∥₁

-- The first of these pairs isn't above a key, and another is: the first that is above is the next one of all pairs that rise and have these as a run.
abbrev pub has_next : List Pair → List ℕ → Bool
has_next [] key = false
has_next (first ∷ others) key = not (precedes key first.0) && is_some (pair_after others key)

-- So many pairs from a place of a page on, as far as they have the form.
abbrev pub pairs_from : List ℕ → ℕ → ℕ → List Pair
pairs_from bytes at left = pairs_in left (drop at bytes)

-- The first of these pairs isn't above a key.
abbrev pub begins_by : List ℕ → List Pair → Bool
begins_by key [] = false
begins_by key (first ∷ others) = not (precedes key first.0)

-- The pair after a key, where the first of these pairs isn't above it.
abbrev pub next_in : List Pair → List ℕ → Option Pair
next_in pairs key = if begins_by key pairs then pair_after pairs key else None

-- Later ones of these pairs tell what pair is after a key, as all do, where the first of the later ones isn't above it.
abbrev pub TellsAsAll : List Pair → List Pair → Type 0
TellsAsAll later pairs = (key : List ℕ) → IsTrue (begins_by key later) → IsTrue (begins_by key pairs) × (pair_after pairs key ≡ pair_after later key)

-- These pairs without some in front that aren't above a key: the later ones tell as all do what is after that key, and after each above it.
pub record IsWalkedPast (key : List ℕ) (later pairs : List Pair) : Type 0 where
  pub tells : (other : List ℕ) → precedes other key ≡ false → pair_after pairs other ≡ pair_after later other
  pub begins : (other : List ℕ) → precedes other key ≡ false → IsTrue (begins_by other later) → IsTrue (begins_by other pairs)

-- The first of these pairs isn't above a key, and the later ones are those behind it.
abbrev pub IsBehind : List ℕ → List Pair → List Pair → Type 0
IsBehind key later pairs = IsTrue (begins_by key pairs) × (later ≡ drop 1 pairs)

-- the same of the pairs from two places of a page on
abbrev pub IsPlaceBehind : List ℕ → List ℕ → Place → Place → Type 0
IsPlaceBehind bytes key later place = IsBehind key (pairs_from bytes later.at later.left) (pairs_from bytes place.at place.left)

-- The later ones begin with the pair after the key.
pub record IsReachedAfter (key : List ℕ) (found : Pair) (later pairs : List Pair) : Type 0 where
  pub walked : IsWalkedPast key later pairs
  pub others : List Pair
  pub first : later ≡ found ∷ others
  pub above : IsTrue (precedes key found.0)

-- The key and the value of a pair stand in front of two buffers, and their sizes are told; what stands behind them stays. Where there is no pair, both stay.
pub record CopiesPair (pair : Option Pair) (sizes : Option (ℕ × ℕ)) (key_old key_new value_old value_new : List ℕ) : Type 0 where
  pub within : IfSome sizes (λ n. (n.0 ≤ longest_key) × (n.1 ≤ longest_value))
  pub is : option_map (λ n. (take n.0 key_new, take n.1 value_new)) sizes ≡ pair
  pub key : IsFilled {E = PageFault} (λ n. n.0) (Ok sizes) key_old key_new
  pub value : IsFilled {E = PageFault} (λ n. n.1) (Ok sizes) value_old value_new
