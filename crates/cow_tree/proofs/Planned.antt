-- A commit that was planned, before it is made and once it is done.
use Rattle.std.proofs.Common.{◌≡◌, ℕ, ◌+◌, ◌*◌, ◌<◌, ◌≤◌, Bool, true, false, List, [], ◌∷◌, length, Option, Some, refl, sym, ap, ◌∙◌, arith, IsTrue, inl, inr}
use Rattle.std.specs.Prelude.{◌&&◌, not}
use Rattle.std.proofs.lemmas.Bool.{cases_lt, cases_Bool}
use Rattle.std.proofs.lemmas.List.{get_or_past}
use Rattle.common_types.specs.CrashStates.{CrashStates}
use Rattle.page_alloc.specs.declared.life.Life.{Life}
use Rattle.page_alloc.specs.declared.life.Life.TheVariants.{Never}
use Rattle.page_alloc.specs.Lives.{lives_at}
use Rattle.page_alloc.specs.LedgerState.{LedgerState, Mark, is_retired, is_alive, has_page, has_page_next, life_of}
use Rattle.page_alloc.specs.Calls.{advanced, lives_from}
use Rattle.page_alloc.proofs.Marks.{unmarked_get}
use Rattle.page_store.specs.Sectors.{Image, page_of}
use Rattle.page_store.specs.Roots.{greatest_seal, current}
use Rattle.page_store.specs.Commit.{IsReady, IsDone}
use Rattle.page_store.specs.Content.{Found, tree_found, is_among}
use Rattle.page_store.specs.declared.commit.NewPage.{NewPage}
use Rattle.page_store.specs.declared.slot.Slot.{Slot}
use Rattle.page_store.proofs.OtherHalfCommits.{greatest_ge, seals_after}
use Rattle.cow_tree.specs.TreeState.{found_under, IsThere}
use Rattle.cow_tree.specs.Plans.{tree_commit, IsHeld, IsTreePlan, LeadsToNext}
use Rattle.cow_tree.proofs.TreesAreMaps.{found_map}
use Rattle.cow_tree.proofs.Openings.{tree_is, under_is}
use Rattle.cow_tree.proofs.Reaching.{AreWithin, among_within}
use Rattle.cow_tree.proofs.Finding.{tree_inside}
use Rattle.cow_tree.proofs.RootWalks.{found_tree}
use Rattle.cow_tree.specs.Opening.{bounds_under}

pub is_ready : (view : Image) (slot : Slot) (top : ℕ) (ledger : LedgerState) (pages : List NewPage) (new : Slot) (found : Found) → IsHeld view slot top ledger → IsTreePlan view slot top pages new found → IsReady (tree_commit slot view new found) pages view
is_ready view slot top ledger pages new found h p = record {
  content = h.content_is;
  free = p.free;
  number = p.number;
  seal = let a = h.sealed in let b = p.seal in omega (arith, a, b);
  above = record {
    each = λ k old lt is.
        let number = p.number in
        let le = greatest_ge view 16 (8 * new.number + k) old (omega (arith, number, lt)) is in
        let a = h.seals in
        let b = p.seal in
        omega (arith, le, a, b);
  };
  under = p.under;
}

module _ (view now : Image) (slot : Slot) (top : ℕ) (ledger : LedgerState) (pages : List NewPage) (new : Slot) (found : Found) (crash_states : CrashStates Image) (plan : IsTreePlan view slot top pages new found) (done : IsDone (tree_commit slot view new found) pages crash_states view now) where
  -- what a ledger says of the pages of the generation that it goes on to
  abbrev Advances : Type 0
  Advances = (n : ℕ) → n < length ledger.lives → has_page (advanced new.seal ledger) new.seal n ≡ has_page_next ledger n

  pub now_current : current now ≡ Some new
  now_current = (tree_is now new found done.content plan.version).0

  pub now_found : found_under new now ≡ found
  now_found = under_is now new found done.content plan.version

  abbrev some_found : Found → Option Found
  some_found x = Some x

  now_tree : tree_found new (page_of now) ≡ Some (found_under new now)
  now_tree = (tree_is now new found done.content plan.version).1 ∙ ap (λ (x : Found). some_found x) (sym now_found)

  pub now_seals : greatest_seal view 16 ≤ top → greatest_seal now 16 ≤ top + 1
  now_seals seals = seals_after (tree_commit slot view new found) view now top (top + 1) done.content plan.seal seals (omega arith) done.others

  inside : AreWithin new.root.pages found.pages
  inside = tree_inside (page_of now) (bounds_under new) new.root.height new.root.tree found (found_tree new (page_of now) found (tree_is now new found done.content plan.version).1)

  not_among : (n : ℕ) → new.root.pages ≤ n → is_among n found.pages ≡ false
  not_among n le = elim (cases_Bool (is_among n found.pages)) [ inl t ↦ let i = among_within new.root.pages n found.pages inside t in absurd (omega (arith, i.1, le)) | inr f ↦ f ]

  lives_length : (g : ℕ) (lives : List Life) (marks : List Mark) → length (lives_from g lives marks) ≡ length lives
  lives_length g [] [] = refl
  lives_length g [] (mark ∷ marks) = refl
  lives_length g (life ∷ lives) [] = refl
  lives_length g (life ∷ lives) (mark ∷ marks) = omega (arith, lives_length g lives marks)

  and_true : (b : Bool) → (b && true) ≡ b
  and_true true = refl
  and_true false = refl

  has : (n : ℕ) → LeadsToNext view ledger pages new found → Advances → has_page (advanced new.seal ledger) new.seal n ≡ is_among n found.pages
  has n next advances =
      elim (cases_lt n (length ledger.lives)) [
        | inl lt ↦ advances n lt ∙ next.next n
        | inr le ↦
            let none : life_of (advanced new.seal ledger) n ≡ Never = get_or_past (lives_from new.seal ledger.lives ledger.marks) n Never (omega (arith, lives_length new.seal ledger.lives ledger.marks, le)) in
            ap (lives_at new.seal) none ∙ sym (not_among n (let size = next.size in omega (arith, size, le)))
      ]

  now_alive : LeadsToNext view ledger pages new found → Advances → (n : ℕ) → is_alive (advanced new.seal ledger) n ≡ is_among n found.pages
  now_alive next advances n = ap (λ (m : Mark). has_page (advanced new.seal ledger) new.seal n && not (is_retired m)) (unmarked_get ledger.marks n) ∙ and_true (has_page (advanced new.seal ledger) new.seal n) ∙ has n next advances

  pub now_there : LeadsToNext view ledger pages new found → Advances → IsThere now new (advanced new.seal ledger)
  now_there next advances = record {
    found_is = now_tree;
    map = found_map new (page_of now) (found_under new now) now_tree;
    alive = λ n. now_alive next advances n ∙ ap (λ (x : Found). is_among n x.pages) (sym now_found);
    whole = λ n alive.
        let among : IsTrue (is_among n found.pages) = sym (now_alive next advances n) ∙ alive in
        let i = among_within new.root.pages n found.pages inside among in
        ap (λ (l : List ℕ). length l) (done.bytes n i.0) ∙ next.whole n among;
  }
