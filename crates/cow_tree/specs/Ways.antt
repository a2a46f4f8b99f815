-- The way of a key through a tree of pages, and what reading along it answers.
use Rattle.std.specs.Prelude.{◌≡◌, ◌-◌, ◌&&◌, nat_lt, nat_le, length, drop, ℕ, Bool, true, List, [], ◌∷◌, Option, Some, None, Result, Ok, Err, if◌then◌else◌}
use Rattle.std.specs.Option.{option_or}
use Rattle.page_store.specs.Reading.{◌>>=◌, where_true}
use Rattle.page_store.specs.Keys.{precedes}
use Rattle.page_store.specs.Pages.{Pair, Child, Place, pair_at, child_at}
use Rattle.page_store.specs.Batch.{value_at, pair_after}
use Rattle.page_store.specs.Content.{Found, Bounds, walk}
use Rattle.tree_nodes.specs.PageViews.{children_in, entries_by_head, has_head}
use Rattle.cow_tree.specs.KeptLeaves.{IsPart}
use Rattle.cow_tree.specs.declared.page_fault.PageFault.{PageFault}
use Rattle.cow_tree.specs.declared.page_fault.PageFault.TheVariants.{Device, Damaged}

-- so many children from a place of a page on, as far as they have the form
abbrev pub children_from : List ℕ → ℕ → ℕ → List Child
children_from bytes at left = children_in left (drop at bytes)

-- the page under which a key stands, that of the last child whose key isn't above it, and the page of the child after it
abbrev pub pages_around : List ℕ → List Child → Option (ℕ × Option ℕ)
pages_around key [] = None
pages_around key (child ∷ []) = Some (child.page, None)
pages_around key (child ∷ next ∷ children) = if precedes key next.key then Some (child.page, Some next.page) else pages_around key (next ∷ children)

-- a page of an image of so many, or none
abbrev pub is_page_or_none : ℕ → Option ℕ → Bool
is_page_or_none pages None = true
is_page_or_none pages (Some page) = nat_lt page pages

abbrev pub are_inside : ℕ → ℕ × Option ℕ → Bool
are_inside pages around = nat_lt around.0 pages && is_page_or_none pages around.1

-- the pages around a key by the bytes of a branch's page: nothing where these don't begin with the head of that page, or name no pages of the image there
abbrev pub around_in : Place → List ℕ → List ℕ → Option (ℕ × Option ℕ)
around_in place key bytes = do
  around ← where_true (has_head place bytes) (pages_around key (entries_by_head child_at bytes))
  where_true (are_inside place.pages around) (Some around)

-- whether bytes begin with the head of a leaf in its place, and a pair behind it
abbrev pub begins_leaf : Place → List ℕ → Bool
begins_leaf place bytes = has_head place bytes && nat_le 1 (length (entries_by_head pair_at bytes))

-- An answer from the pages of a tree, of which none is damaged.
abbrev pub AnswersBy : {T : Type 0} → Result T PageFault → (T → Type 0) → Type 0
AnswersBy (Ok x) P = P x
AnswersBy (Err Device) P = Unit {0}
AnswersBy (Err (Damaged page)) P = ⊥

-- the pair after a key that stands at and under a page, which is a part of a tree, or nothing where there is no page
abbrev pub IsNext : (ℕ → List ℕ) → Bounds → ℕ → List ℕ → Option ℕ → Found → Option Pair → Type 0
IsNext bytes bounds level key None whole pair = pair ≡ None
IsNext bytes bounds level key (Some page) whole pair = (found : Found) × (walk bytes bounds level page [] None ≡ Some found) × IsPart found whole × (pair_after found.pairs key ≡ pair) × (pair ≡ None → ⊥)

-- A key's value stands under the first page. The pair after the key stands there too, or else under the second page. What stands under either is a part of the whole.
pub record IsOnWay (bytes : ℕ → List ℕ) (bounds : Bounds) (level : ℕ) (key : List ℕ) (whole : Found) (around : ℕ × Option ℕ) : Type 0 where
  pub here : Found
  pub here_is : walk bytes bounds level around.0 [] None ≡ Some here
  pub part : IsPart here whole
  pub value : value_at whole.pairs key ≡ value_at here.pairs key
  pub rest : Option Pair
  pub after : pair_after whole.pairs key ≡ option_or (pair_after here.pairs key) rest
  pub next : IsNext bytes bounds level key around.1 whole rest

-- Where a tree of these levels stands at a page, the way of a key from there is answered.
abbrev pub AnswersWay : (ℕ → List ℕ) → Bounds → ℕ → ℕ → List ℕ → Result (ℕ × Option ℕ) PageFault → Type 0
AnswersWay bytes bounds level page key result = (found : Found) → walk bytes bounds level page [] None ≡ Some found → AnswersBy result (IsOnWay bytes bounds (level - 1) key found)
