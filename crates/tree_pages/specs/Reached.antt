-- Which pages a walk reaches.
use Rattle.std.specs.Prelude.{◌≡◌, ℕ, ◌+◌, ◌<◌, ◌≤◌, ◌^◌, List, [], ◌∷◌, ◌++◌, Option, Some, None, ◌==◌, if◌then◌else◌}
use Rattle.page_store.specs.Content.{Found, Bounds, walk, content_under}
use Rattle.page_store.specs.declared.slot.Slot.{Slot}
use Rattle.page_store.specs.Same.{Agree}
use Rattle.page_store.specs.Commit.{numbers}
use Rattle.page_store.specs.declared.commit.NewPage.{NewPage}
use Rattle.page_store.specs.Pages.{head_at, page_word}
use Rattle.tree_nodes.specs.Tree.{Tree, pairs_of, pages_of}
use Rattle.tree_nodes.specs.Image.{head_level, old_of}
use Rattle.tree_pages.specs.Written.{IsTreePage}

-- how often a number stands in a list
abbrev pub times : ℕ → List ℕ → ℕ
times n [] = 0
times n (m ∷ ms) = (if n == m then 1 else 0) + times n ms

abbrev pub found_pages : Option Found → List ℕ
found_pages None = []
found_pages (Some found) = found.pages

-- the pages at and under a page of an image, which says its level
abbrev pub pages_under : (ℕ → List ℕ) → Bounds → ℕ → List ℕ
pages_under bytes bounds n = found_pages (walk bytes bounds (head_level (head_at page_word (bytes n))) n [] None)

-- the pages at and under each of these
abbrev pub all_under : (ℕ → List ℕ) → Bounds → List ℕ → List ℕ
all_under bytes bounds [] = []
all_under bytes bounds (n ∷ ns) = pages_under bytes bounds n ++ all_under bytes bounds ns

-- the pages of an image that a tree reaches by the pages that it names
abbrev pub reached : (ℕ → List ℕ) → Bounds → Tree → List ℕ
reached bytes bounds tree = all_under bytes bounds (pages_of tree)

-- the pages of an image that a tree reaches, where there is a tree
abbrev pub root_reached : (ℕ → List ℕ) → Bounds → Option Tree → List ℕ
root_reached bytes bounds None = []
root_reached bytes bounds (Some tree) = reached bytes bounds tree

-- bounds for pages of a later generation
abbrev pub until : Bounds → ℕ → Bounds
until bounds generation = record { pages = bounds.pages; seal = generation }

-- A generation in which new pages are written beside those of an image.
pub record IsLater (bounds : Bounds) (generation : ℕ) : Type 0 where
  pub pages : bounds.pages ≤ 2 ^ 32
  pub first : 1 ≤ generation
  pub later : bounds.seal ≤ generation
  pub last : generation < 2 ^ 64

-- a page of the image that is there still, with all that is under it
abbrev pub TreeStays : (ℕ → List ℕ) → (ℕ → List ℕ) → Bounds → ℕ → Type 0
TreeStays old now bounds n = IsTreePage bounds.pages n × Agree (pages_under old bounds n) old now

abbrev pub AreKept : (ℕ → List ℕ) → (ℕ → List ℕ) → Bounds → List ℕ → Type 0
AreKept old now bounds [] = Unit {0}
AreKept old now bounds (n ∷ ns) = TreeStays old now bounds n × AreKept old now bounds ns

-- A walk from a page finds the pairs of a tree, and reaches the new pages and those that the tree reaches, each as often as they have it.
pub record FindsTree (old now : ℕ → List ℕ) (bounds : Bounds) (generation level : ℕ) (tree : Tree) (low : List ℕ) (high : Option (List ℕ)) (n : ℕ) (pages : List NewPage) : Type 0 where
  pub found : Found
  pub walked : walk now (until bounds generation) level n low high ≡ Some found
  pub pairs : found.pairs ≡ pairs_of (old_of old bounds) tree
  pub reaches : (m : ℕ) → times m found.pages ≡ times m (numbers pages) + times m (reached old bounds tree)

-- Under a slot stand the pairs of a tree, and the pages are the new ones and those that the tree reaches.
pub record HoldsTree (old now : ℕ → List ℕ) (bounds : Bounds) (slot : Slot) (tree : Tree) (pages : List NewPage) : Type 0 where
  pub found : Found
  pub content : content_under slot now ≡ Some found
  pub pairs : found.pairs ≡ pairs_of (old_of old bounds) tree
  pub reaches : (m : ℕ) → times m found.pages ≡ times m (numbers pages) + times m (reached old bounds tree)
