-- Where the entries of a page begin, kept so that the page is searched by halves.
use Rattle.std.specs.Prelude.{◌≡◌, ◌≤◌, ◌<◌, ◌-◌, ℕ, zero, suc, List, [], ◌∷◌, length, take, drop, Option, Some, None, Result, OnOk, IfSome, option_map, slice_get, slice_index_or, if◌then◌else◌}
use Rattle.page_store.specs.Keys.{precedes}
use Rattle.page_store.specs.Pages.{key_of, child_key, pair_at, child_at}
use Rattle.page_store.specs.Batch.{value_at}
use Rattle.page_store.specs.Content.{Found, Bounds, walk}
use Rattle.tree_nodes.specs.PageViews.{pairs_in, children_in, entries_by_head}
use Rattle.cow_tree.specs.KeptLeaves.{IsPart}
use Rattle.cow_tree.specs.PinnedTrees.{bounds_at, tree_at}
use Rattle.cow_tree.specs.Ways.{AnswersBy, IsOnWay}
use Rattle.cow_tree.specs.declared.kept_places.KeptPlaces.{KeptPlaces}
use Rattle.cow_tree.specs.declared.kept_places.PagePlaces.{PagePlaces}
use Rattle.cow_tree.specs.declared.page_fault.PageFault.{PageFault}
use Rattle.cow_tree.specs.declared.tree_root.TreeRoot.{TreeRoot}

-- the entry that begins at a place of a page, where one has the form there
abbrev pub entry_from : {E : Type 0} → (List ℕ → Option (E × List ℕ)) → List ℕ → ℕ → Option E
entry_from entry_at bytes place = option_map (λ e. e.0) (entry_at (drop place bytes))

-- the key of the entry of a page of a level that begins at a place
abbrev pub key_from : ℕ → List ℕ → ℕ → Option (List ℕ)
key_from zero bytes place = option_map key_of (entry_from pair_at bytes place)
key_from (suc level) bytes place = option_map child_key (entry_from child_at bytes place)

-- These are so many, and each is what is found at the place of its number.
pub record AreFoundAt {E : Type 0} (found_at : ℕ → Option E) (all : List E) (count : ℕ) (at : List ℕ) : Type 0 where
  pub many : length all ≡ count
  pub few : count ≤ length at
  pub each : (i : ℕ) → i < count → found_at (slice_index_or at i 0) ≡ slice_get all i

-- The first of these are found at the places so far, and the others are left.
pub record AreFoundSoFar {E : Type 0} (found_at : ℕ → Option E) (all left : List E) (placed : ℕ) (at : List ℕ) : Type 0 where
  pub few : placed ≤ length at
  pub inside : placed ≤ length all
  pub each : (i : ℕ) → i < placed → found_at (slice_index_or at i 0) ≡ slice_get all i
  pub rest : left ≡ drop placed all

-- The entries of a page of a level, as its head counts them, begin at these places.
pub record ArePlaces (level : ℕ) (bytes : List ℕ) (count : ℕ) (at : List ℕ) : Type 0 where
  pub pairs : level ≡ 0 → AreFoundAt (entry_from pair_at bytes) (entries_by_head pair_at bytes) count at
  pub children : 0 < level → AreFoundAt (entry_from child_at bytes) (entries_by_head child_at bytes) count at

-- By the bytes of a page and the places of its entries the way of a key from there is answered, in any image that has the page so.
abbrev pub AnswersWayBy : List ℕ → PagePlaces → Bounds → ℕ → ℕ → List ℕ → Result (ℕ × Option ℕ) PageFault → Type 0
AnswersWayBy bytes places bounds level page key result = (view : ℕ → List ℕ) (found : Found) → view page ≡ bytes → ArePlaces level bytes places.count places.at → walk view bounds level page [] None ≡ Some found → AnswersBy result (IsOnWay view bounds (level - 1) key found)

-- likewise the size of a key's value, which stands in front of a buffer
abbrev pub AnswersValueBy : List ℕ → PagePlaces → Bounds → ℕ → List ℕ → List ℕ → Result (Option ℕ) PageFault → Type 0
AnswersValueBy bytes places bounds page key buffer result = (view : ℕ → List ℕ) (found : Found) → view page ≡ bytes → ArePlaces 0 bytes places.count places.at → walk view bounds 0 page [] None ≡ Some found → AnswersBy result (λ size. option_map (λ n. take n buffer) size ≡ value_at found.pairs key)

-- so many entries stand behind the head of a page of a level, and they are those that the head counts
abbrev pub HasSoManyEntries : ℕ → List ℕ → ℕ → Type 0
HasSoManyEntries zero bytes count = pairs_in count (drop 24 bytes) ≡ entries_by_head pair_at bytes
HasSoManyEntries (suc level) bytes count = children_in count (drop 24 bytes) ≡ entries_by_head child_at bytes

-- how many of these keys come before the first that is above a key
abbrev pub count_upto : List ℕ → List (List ℕ) → ℕ
count_upto key [] = 0
count_upto key (first ∷ keys) = if precedes key first then 0 else suc (count_upto key keys)

-- What is kept of a page, where anything is, is true of it.
abbrev pub IsKeptOf : (ℕ → List ℕ) → PagePlaces → Type 0
IsKeptOf view kept = 0 < kept.count → ArePlaces kept.level (view kept.page) kept.count kept.at

-- What is kept of pages is true of them.
abbrev pub AreKeptOf : (ℕ → List ℕ) → List PagePlaces → Type 0
AreKeptOf view pages = (n : ℕ) (other : PagePlaces) → n < length pages → IsKeptOf view (slice_index_or pages n other)

-- A page is a leaf, and what stands there is a part of a tree.
pub record IsLeafUnder (bytes : ℕ → List ℕ) (bounds : Bounds) (page : ℕ) (tree : Found) : Type 0 where
  pub leaf : Found
  pub stands : walk bytes bounds 0 page [] None ≡ Some leaf
  pub part : IsPart leaf tree

-- The page that is named is such a leaf of what stands at another page.
abbrev pub NamesLeafUnder : {T : Type 0} → (ℕ → List ℕ) → Bounds → ℕ → ℕ → ℕ → Result T PageFault → Type 0
NamesLeafUnder bytes bounds level page leaf result = (found : Found) → walk bytes bounds level page [] None ≡ Some found → OnOk result (IsLeafUnder bytes bounds leaf found)

-- A page is a leaf of the tree at a root, where such a tree stands.
abbrev pub IsLeafAt : (ℕ → List ℕ) → TreeRoot → ℕ → Type 0
IsLeafAt bytes root page = (tree : Found) → tree_at root bytes ≡ Some tree → ∥ IsLeafUnder bytes (bounds_at root) page tree ∥₁

-- What is kept of pages is true of them, and the page that was looked into last is a leaf of the tree that is named with it, if any is.
pub record IsKeptTruly (view : ℕ → List ℕ) (places : KeptPlaces) : Type 0 where
  pub pages : AreKeptOf view places.pages.items
  pub leaf : IfSome places.tree (λ root. IsLeafAt view root places.leaf)
