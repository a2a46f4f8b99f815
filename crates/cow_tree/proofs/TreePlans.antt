-- The one plan that a commit writes, and the pages of pinned trees beside it.
use Rattle.std.proofs.Common.{◌≡◌, ◌⊎◌, ◌≤◌, inl, inr, ℕ, zero, suc, Bool, true, false, List, [], ◌∷◌, length, map, Option, Some, None, refl, sym, ap, subst, ◌∙◌, arith, IsTrue}
use Rattle.std.specs.Prelude.{◌||◌, ◌&&◌, not}
use Rattle.std.proofs.lemmas.Bool.{cases_Bool}
use Rattle.common_types.specs.CrashStates.{CrashStates, AddsOnly, AddsNone, may_crash_to, adds_both}
use Rattle.page_alloc.specs.LedgerState.{LedgerState, has_page, is_alive, is_retired, mark_of}
use Rattle.page_store.specs.Sectors.{Image, page_of}
use Rattle.page_store.specs.Pages.{Pair}
use Rattle.page_store.specs.Content.{Found, is_among}
use Rattle.page_store.specs.Commit.{IsBetween, numbers}
use Rattle.page_store.specs.declared.banner.Banner.{Banner}
use Rattle.page_store.specs.declared.commit.NewPage.{NewPage}
use Rattle.page_store.specs.declared.slot.Slot.{Slot}
use Rattle.tree_pages.proofs.Counted.{among_some, among_none}
use Rattle.cow_tree.specs.Drafts.{OnlyMarks, one_if}
use Rattle.cow_tree.specs.PinnedTrees.{bounds_at, found_at, seal_of, keep_page, PinnedTreesAreKept, HeldPagesStay, PinnedPagesStay}
use Rattle.cow_tree.specs.Plans.{tree_commit, IsHeld, IsPlanned}
use Rattle.cow_tree.specs.TreeState.{IsAtRest, IsThere, found_under}
use Rattle.cow_tree.specs.Committed.{TreePlan, WritesOnePlan}
use Rattle.cow_tree.specs.declared.plans.Plan.{Plan}
use Rattle.cow_tree.specs.declared.tree_root.TreeRoot.{TreeRoot}
use Rattle.cow_tree.proofs.Finding.{tree_inside}
use Rattle.cow_tree.proofs.Reaching.{among_within}
use Rattle.cow_tree.proofs.PinnedTrees.{held_again}
use Rattle.cow_tree.proofs.FreePages.{held_is}
use Rattle.cow_tree.proofs.PlansMade.{held_still}

-- no pinned tree has a root slot
pub pinned_low : (image : Image) (ledger : LedgerState) (trees : List (Option TreeRoot)) → PinnedTreesAreKept image ledger trees → (n : ℕ) → IsTrue (keep_page image trees n) → 2 ≤ n
pinned_low image ledger [] kept n keep = absurd (cc keep)
pinned_low image ledger (None ∷ trees) kept n keep = pinned_low image ledger trees (λ number tree is. kept (suc number) tree is) n keep
pinned_low image ledger (Some tree ∷ trees) kept n keep =
    elim (cases_Bool (is_among n (found_at tree image).pages)) [
      | inl among ↦ (among_within tree.pages n (found_at tree image).pages (tree_inside (page_of image) (bounds_at tree) tree.height tree.tree (found_at tree image) (kept zero tree refl).found_is) among).0
      | inr other ↦ pinned_low image ledger trees (λ number t is. kept (suc number) t is) n (sym (ap (λ (b : Bool). b || keep_page image trees n) other) ∙ keep)
    ]

pub one_is : (b : Bool) → 1 ≤ one_if b → b ≡ true
one_is true some = refl
one_is false some = absurd (omega (arith, some))

pub first_of : (a b : Bool) → (a && b) ≡ true → a ≡ true
first_of true b h = refl
first_of false b h = absurd (cc h)

pub neither : (a b : Bool) → (a || b) ≡ false → a ≡ false
neither true b h = absurd (cc h)
neither false b h = refl

module _ (view : Image) (slot : Slot) (ledger : LedgerState) (trees : List (Option TreeRoot)) (rest : IsAtRest slot ledger) (seals : ledger.pins ≡ map seal_of trees) (kept : PinnedTreesAreKept view ledger trees) (there : IsThere view slot ledger) where
  -- what no generation in use loses, no pinned tree loses
  pub pinned_stay : (now : Image) → HeldPagesStay ledger (page_of view) (page_of now) → PinnedPagesStay trees view now
  pinned_stay now stay n keep =
      sym (stay n (pinned_low view ledger trees kept n keep) (held_is view slot ledger trees rest seals kept there n ∙ ap (λ (b : Bool). b || is_among n (found_under slot view).pages) keep))

  abbrev pub tree_plan : (marked : LedgerState) (top : ℕ) (may_need : ℕ → Type 0) (pairs : List Pair) (banner : Banner) (plan : Plan) → OnlyMarks ledger marked → IsHeld view slot top ledger → IsPlanned view slot top pairs marked plan → plan.slot.root.banner ≡ banner → may_need (length plan.pages.items)
      → TreePlan view slot top trees may_need pairs banner
  tree_plan marked top may_need pairs banner plan marks held planned banner_is needed = record {
    pages = plan.pages.items;
    new = plan.slot;
    found = planned.found;
    plan_is = planned.plan_is;
    banner_is = banner_is;
    pairs_are = planned.pairs_are;
    unpinned = λ n new.
        neither (keep_page view trees n) (is_among n (found_under slot view).pages) (sym (held_is view slot ledger trees rest seals kept there n) ∙ sym (held_again ledger marked marks n) ∙ planned.next.unheld n new);
    needed = needed;
    once = λ n. let r = planned.reaches n in omega (arith, r);
    others = λ n among old.
        let some = among_some n planned.found.pages among in
        let none = among_none n (numbers plan.pages.items) old in
        let reach = planned.reaches n in
        let alive = one_is (is_alive marked n) (omega (arith, some, none, reach)) in
        sym ((held_still view slot top ledger marked marks held).held n) ∙ first_of (has_page marked marked.generation n) (not (is_retired (mark_of marked n))) alive;
  }

-- the way of a plan, from an image that was only read
pub way_again : (view mid : Image) (slot new : Slot) (found : Found) (pages : List NewPage) (c : Image) → mid ≡ view → IsBetween (tree_commit slot mid new found) pages mid c → IsBetween (tree_commit slot view new found) pages view c
way_again view mid slot new found pages c same between = subst (λ (v : Image). IsBetween (tree_commit slot v new found) pages v c) same between

-- a plan that was written once pages had been read
pub one_plan : (view mid : Image) (before between after : CrashStates Image) (slot : Slot) (top : ℕ) (trees : List (Option TreeRoot)) (may_need : ℕ → Type 0) (pairs : List Pair) (banner : Banner) (plan : TreePlan view slot top trees may_need pairs banner) → mid ≡ view → AddsNone before between
    → AddsOnly between after (IsBetween (tree_commit slot mid plan.new plan.found) plan.pages mid) → WritesOnePlan before after view slot top trees may_need pairs banner
one_plan view mid before between after slot top trees may_need pairs banner plan same read wrote =
    inr (
      plan,
      adds_both before between after (may_crash_to before) (IsBetween (tree_commit slot mid plan.new plan.found) plan.pages mid) (λ c. may_crash_to before c ⊎ IsBetween (tree_commit slot view plan.new plan.found) plan.pages view c) read wrote
          (λ c left. inl left) (λ c way. inr (way_again view mid slot plan.new plan.found plan.pages c same way)),
    )
