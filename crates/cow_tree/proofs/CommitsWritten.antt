-- What stands once a plan is written, where a write failed, and after a crash in between.
use Rattle.std.proofs.Common.{◌≡◌, ◌⊎◌, ◌≤◌, ◌<◌, ◌+◌, ◌*◌, ◌-◌, inl, inr, ⊎_elim, ℕ, Bool, true, false, List, ◌∷◌, length, sym, ap, subst, arith, IsTrue}
use Rattle.std.specs.Prelude.{◌==◌, ◌||◌}
use Rattle.std.proofs.lemmas.Bool.{cases_Bool, ne_eqb}
use Rattle.common_types.specs.CrashStates.{CrashStates, AddsOnly}
use Rattle.page_alloc.specs.LedgerState.{LedgerState, has_page, has_page_next}
use Rattle.page_alloc.specs.Calls.{advanced}
use Rattle.page_store.specs.Sectors.{Image, sector, page_of}
use Rattle.page_store.specs.Pages.{Pair}
use Rattle.page_store.specs.Same.{Agree}
use Rattle.page_store.specs.Content.{Found, is_among, pairs_and_banner}
use Rattle.page_store.specs.Commit.{numbers, Commit, IsReady, IsBetween, IsDone, ShowsFound}
use Rattle.page_store.proofs.UntouchedPages.{page_of-same}
use Rattle.page_store.specs.declared.banner.Banner.{Banner}
use Rattle.page_store.specs.declared.commit.NewPage.{NewPage}
use Rattle.page_store.specs.declared.slot.Slot.{Slot}
use Rattle.cow_tree.specs.PinnedTrees.{HeldPagesStay}
use Rattle.cow_tree.specs.TreeState.{found_under}
use Rattle.cow_tree.specs.Opening.{bounds_under}
use Rattle.cow_tree.specs.Plans.{tree_commit}
use Rattle.cow_tree.specs.Committed.{TreeHas, MayWritePlan, IsCommitted, is_tree_version}
use Rattle.cow_tree.specs.declared.plans.Plan.{Plan}
use Rattle.cow_tree.proofs.Openings.{tree_is}
use Rattle.cow_tree.proofs.Finding.{tree_inside}
use Rattle.cow_tree.proofs.RootWalks.{found_tree}
use Rattle.cow_tree.proofs.Reaching.{among_within}
use Rattle.cow_tree.proofs.Planned.{is_ready, now_current, now_found, now_there, now_seals}

shows_has : (slot : Slot) (found : Found) (bytes : ℕ → List ℕ) (c : Image) → IsTrue (is_tree_version slot.root.banner.version) → ShowsFound slot found bytes c → TreeHas c found.pairs slot.root.banner
shows_has slot found bytes c version s = (ap pairs_and_banner s.content_is, version)

-- what a crash within a commit leaves has the pairs and the banner from before, or the new ones
pub old_or_new : (view : Image) (slot new : Slot) (found : Found) (pages : List NewPage) (pairs : List Pair) (banner : Banner) (c : Image) → IsTrue (is_tree_version slot.root.banner.version) → IsTrue (is_tree_version new.root.banner.version) → new.root.banner ≡ banner → found.pairs ≡ pairs
    → IsBetween (tree_commit slot view new found) pages view c → TreeHas c (found_under slot view).pairs slot.root.banner ⊎ TreeHas c pairs banner
old_or_new view slot new found pages pairs banner c version next banner_is pairs_are b =
    ⊎_elim (λ s. inl (shows_has slot (found_under slot view) _ c version s))
    (λ s. inr (subst (λ (x : Banner). TreeHas c pairs x) banner_is (subst (λ (l : List Pair). TreeHas c l new.root.banner) pairs_are (shows_has new found _ c next s)))) b.shows

pub adds_weaker : {L : Type 0} (old new : CrashStates L) (P Q : L → Type 0) → ((c : L) → P c → Q c) → AddsOnly old new P → AddsOnly old new Q
adds_weaker old new P Q f a = record {
  later = a.later;
  keeps = a.keeps;
  nothing_else = λ t c le left. ⊎_elim (λ m. inl m) (λ p. inr (f c p)) (a.nothing_else t c le left);
  now = λ c left. f c (a.now c left);
}

module _ (view : Image) (crash_states : CrashStates Image) (slot : Slot) (ledger : LedgerState) (plan : Plan) (w : MayWritePlan view crash_states slot ledger plan) where
  abbrev pub the_commit : Commit
  the_commit = tree_commit slot view plan.slot w.planned.found

  pub ready : IsReady the_commit plan.pages.items view
  ready = is_ready view slot w.top ledger plan.pages.items plan.slot w.planned.found w.held w.planned.plan_is

  old_inside : (n : ℕ) → IsTrue (is_among n (found_under slot view).pages) → 2 ≤ n
  old_inside n among =
      let found = (tree_is view slot (found_under slot view) w.held.content_is w.version).1 in
      (among_within slot.root.pages n (found_under slot view).pages (tree_inside (page_of view) (bounds_under slot) slot.root.height slot.root.tree (found_under slot view) (found_tree slot (page_of view) (found_under slot view) found)) among).0

  outside : (n : ℕ) → IsTrue (is_among n (found_under slot view).pages) → is_among n (plan.slot.number ∷ numbers plan.pages.items) ≡ false
  outside n among =
      let low = old_inside n among in
      let number = w.planned.plan_is.number in
      let other : (n == plan.slot.number) ≡ false = ne_eqb n plan.slot.number (λ e. absurd (omega (arith, e, low, number))) in
      let free : is_among n (numbers plan.pages.items) ≡ false =
      elim (cases_Bool (is_among n (numbers plan.pages.items))) [ inl t ↦ let no = (w.planned.plan_is.free n t).1 in absurd (cc (no, among)) | inr f ↦ f ] in
      none other free
    where
      none : {a b : Bool} → a ≡ false → b ≡ false → (a || b) ≡ false
      none {a = true} f g = absurd (cc f)
      none {a = false} f g = g

  -- no page is written that a generation in use has
  pub held_pages_stay : (c : Image) → IsBetween the_commit plan.pages.items view c → HeldPagesStay ledger (page_of view) (page_of c)
  held_pages_stay c b n low held =
      page_of-same view c n (λ k ge lt.
      let part = k - 8 * n in
      let is : 8 * n + part ≡ k = omega (arith, ge) in
      sym (subst (λ (m : ℕ). sector c m ≡ sector view m) is (b.kept.each n part unwritten (omega (arith, ge, lt)))))
    where
      none : {a b : Bool} → a ≡ false → b ≡ false → (a || b) ≡ false
      none {a = true} f g = absurd (cc f)
      none {a = false} f g = g

      unwritten : is_among n (plan.slot.number ∷ numbers plan.pages.items) ≡ false
      unwritten =
          let number = w.planned.plan_is.number in
          let other : (n == plan.slot.number) ≡ false = ne_eqb n plan.slot.number (λ e. absurd (omega (arith, e, low, number))) in
          none other (elim (cases_Bool (is_among n (numbers plan.pages.items))) [ inl t ↦ let no = w.planned.next.unheld n t in absurd (cc (no, held)) | inr f ↦ f ])

  pub old_pages_stay : (c : Image) → IsBetween the_commit plan.pages.items view c → Agree (found_under slot view).pages (page_of view) (page_of c)
  old_pages_stay c b n among =
      page_of-same view c n (λ k ge lt.
      let part = k - 8 * n in
      let is : 8 * n + part ≡ k = omega (arith, ge) in
      sym (subst (λ (m : ℕ). sector c m ≡ sector view m) is (b.kept.each n part (outside n among) (omega (arith, ge, lt)))))

  pub is_committed : (now : Image) (after : CrashStates Image) → IsDone the_commit plan.pages.items after view now → ((n : ℕ) → n < length ledger.lives → has_page (advanced plan.slot.seal ledger) plan.slot.seal n ≡ has_page_next ledger n)
      → IsCommitted now after plan (advanced plan.slot.seal ledger) w.planned.found
  is_committed now after done advances = record {
    all = done.all;
    current_is = now_current view now slot w.top ledger plan.pages.items plan.slot w.planned.found after w.planned.plan_is done;
    there = now_there view now slot w.top ledger plan.pages.items plan.slot w.planned.found after w.planned.plan_is done w.planned.next advances;
    found_is = now_found view now slot w.top ledger plan.pages.items plan.slot w.planned.found after w.planned.plan_is done;
    seals = let s = now_seals view now slot w.top ledger plan.pages.items plan.slot w.planned.found after w.planned.plan_is done w.held.seals in let e = w.planned.plan_is.seal in omega (arith, s, e);
  }
