-- All pages of a generation are given up, and its pairs stand in a filled tree.
use Rattle.std.proofs.Common.{◌≡◌, ◌≢◌, ◌≤◌, ◌<◌, ◌+◌, ◌*◌, inl, inr, ℕ, zero, suc, Bool, true, false, List, [], ◌∷◌, length, Option, None, Some, refl, sym, ap, subst, ◌∙◌, arith, IsTrue, get_or-set_same, get_or-set_other}
use Rattle.std.specs.Prelude.{◌-◌, ◌^◌, min, max, ◌++◌, ◌&&◌, not, Result, Ok, Err, IfErr}
use Rattle.std.proofs.lemmas.Bool.{cases_eq, cases_lt}
use Rattle.std.proofs.lemmas.List.{length-set, get_or_past}
use Rattle.page_alloc.specs.declared.life.Life.{Life}
use Rattle.page_alloc.specs.declared.life.Life.TheVariants.{Never}
use Rattle.page_alloc.specs.Lives.{lives_at}
use Rattle.page_alloc.specs.LedgerState.{LedgerState, Mark, Untouched, Retired, mark_of, has_page, free_count, is_taken, is_retired, is_alive}
use Rattle.page_alloc.specs.Calls.{retiring}
use Rattle.page_store.specs.Sectors.{Image}
use Rattle.page_store.specs.Pages.{Pair}
use Rattle.page_store.specs.Batch.{is_map}
use Rattle.page_store.specs.Commit.{numbers}
use Rattle.page_store.specs.declared.slot.Slot.{Slot}
use Rattle.tree_nodes.specs.Tree.{Tree, Others, OldPages, page, leaf, branch, none, other, pages_of, row_pages}
use Rattle.tree_nodes.specs.Valid.{IsValid, IsValidRow, others_high, left_pages}
use Rattle.tree_nodes.specs.Steps.{RootState, IsValidRoot}
use Rattle.tree_nodes.specs.OwnedTrees.{state_of}
use Rattle.tree_nodes.specs.Growth.{owned_under, AreBranches, AreRowBranches, edits_in, edits_for_levels, HasGrown, MayHaveGrown}
use Rattle.tree_pages.specs.Reached.{times}
use Rattle.tree_loading.specs.Filled.{filled}
use Rattle.tree_loading.proofs.RootsMade.{filled_pages, filled_reaches, filled_owned, filled_valid, filled_pairs}
use Rattle.cow_tree.specs.Opening.{bounds_under}
use Rattle.page_store.specs.declared.fault.KeeperFault.{KeeperFault}
use Rattle.page_store.specs.declared.fault.KeeperFault.TheVariants as faults
use Rattle.cow_tree.specs.Drafts.{bytes_in, old_under, one_if, IsDraft, IsCounted, OnlyRetires, TellsDraft}
use Rattle.cow_tree.specs.declared.drafts.Draft.{Draft}
use Rattle.cow_tree.specs.TreeState.{found_under}
use Rattle.cow_tree.specs.Plans.{levels_under, levels_of, IsPlanned, IsRoomFault}
use Rattle.cow_tree.specs.declared.plans.Plan.{Plan}
use Rattle.cow_tree.specs.Compacting.{most_pairs, NeedsFilled, IsFillPlan, IsPairsFault, IsFillFault}
use Rattle.cow_tree.proofs.DraftSteps.{no_pages}
use Rattle.cow_tree.proofs.PageCounts.{numbers_length, same_length}
use Rattle.cow_tree.proofs.PlansMade.{room_told}

-- ---- one page is given up

and_false : (b : Bool) → (b && false) ≡ false
and_false true = refl
and_false false = refl

retired_here : (s : LedgerState) (n : ℕ) → n < length s.marks → mark_of (retiring n s) n ≡ Retired
retired_here s n less = get_or-set_same s.marks n Retired Untouched less

retired_there : (s : LedgerState) (n m : ℕ) → m ≢ n → mark_of (retiring n s) m ≡ mark_of s m
retired_there s n m ne = get_or-set_other s.marks n m Retired Untouched ne

dead_here : (s : LedgerState) (n : ℕ) → n < length s.marks → is_alive (retiring n s) n ≡ false
dead_here s n less = ap (λ (m : Mark). has_page s s.generation n && not (is_retired m)) (retired_here s n less) ∙ and_false (has_page s s.generation n)

same_there : (s : LedgerState) (n m : ℕ) → m ≢ n → is_alive (retiring n s) m ≡ is_alive s m
same_there s n m ne = ap (λ (k : Mark). has_page s s.generation m && not (is_retired k)) (retired_there s n m ne)

pub dead_too : (s : LedgerState) (n m : ℕ) → n < length s.marks → (m < n → is_alive s m ≡ false) → m < n + 1 → is_alive (retiring n s) m ≡ false
dead_too s n m less below lt =
    elim (cases_eq m n) [
      | inl e ↦ ap (λ (k : ℕ). is_alive (retiring n s) k) e ∙ dead_here s n less
      | inr ne ↦ same_there s n m ne ∙ below (omega (arith, lt, ne))
    ]

pub untaken_too : (s : LedgerState) (n m : ℕ) → n < length s.marks → is_taken (mark_of s m) ≡ false → is_taken (mark_of (retiring n s) m) ≡ false
untaken_too s n m less untaken =
    elim (cases_eq m n) [
      | inl e ↦ ap (λ (k : ℕ). is_taken (mark_of (retiring n s) k)) e ∙ ap is_taken (retired_here s n less)
      | inr ne ↦ ap is_taken (retired_there s n m ne) ∙ untaken
    ]

pub retires_one : (s now : LedgerState) (n : ℕ) → now ≡ retiring n s → free_count now ≡ free_count s → OnlyRetires s now
retires_one s now n is count = record {
  marks = record {
    lives = ap (λ (l : LedgerState). l.lives) is;
    size = ap (λ (l : LedgerState). length l.marks) is ∙ length-set s.marks n Retired;
    generation = ap (λ (l : LedgerState). l.generation) is;
    pins = ap (λ (l : LedgerState). l.pins) is;
  };
  free = count;
}

-- a number that is no page is not alive
pub dead_beyond : (s : LedgerState) (n : ℕ) → length s.lives ≤ n → is_alive s n ≡ false
dead_beyond s n le = ap (λ (l : Life). lives_at s.generation l && not (is_retired (mark_of s n))) (get_or_past s.lives n Never le)

-- ---- the filled tree as a draft, where nothing of the old tree is left

both_empty : (xs ys : List ℕ) → xs ++ ys ≡ [] → (xs ≡ []) × (ys ≡ [])
both_empty [] ys h = (refl, h)
both_empty (x ∷ xs) ys h = absurd (cc h)

mutual
  -- above the leaves of a tree without pages are branches
  upper_branches : (tree : Tree) (old : OldPages) (level n : ℕ) (low : List ℕ) (high : Option (List ℕ)) → IsValid old level tree low high → pages_of tree ≡ [] → n ≤ level → AreBranches n tree
  upper_branches tree old level zero low high valid empty le = tt
  upper_branches (page m) old level (suc n) low high valid empty le = absurd (cc empty)
  upper_branches (leaf ps) old zero (suc n) low high valid empty le = absurd (omega (arith, le))
  upper_branches (leaf ps) old (suc level) (suc n) low high valid empty le = absurd valid
  upper_branches (branch tree others) old zero (suc n) low high valid empty le = absurd valid
  upper_branches (branch tree others) old (suc level) (suc n) low high valid empty le =
      let both = both_empty (pages_of tree) (row_pages others) empty in
      (upper_branches tree old level n low (others_high others high) valid.0 both.0 (omega (arith, le)), upper_rows others old level n low high valid.1 both.1 (omega (arith, le)))

  upper_rows : (others : Others) (old : OldPages) (level n : ℕ) (low : List ℕ) (high : Option (List ℕ)) → IsValidRow old level others low high → row_pages others ≡ [] → n ≤ level → AreRowBranches n others
  upper_rows none old level n low high valid empty le = tt
  upper_rows (other key tree others) old level n low high valid empty le =
      let both = both_empty (pages_of tree) (row_pages others) empty in
      (upper_branches tree old level n key (others_high others high) valid.3 both.0 le, upper_rows others old level n key high valid.4 both.1 le)

-- how many edits so many levels of a tree took
abbrev pub edits_of : ℕ → Option Tree → ℕ
edits_of n None = 0
edits_of n (Some tree) = edits_for_levels n + edits_in n tree

-- more edits than the filled tree has nodes, and than its levels took beyond so many
abbrev pub edits_for : ℕ → List Pair → ℕ
edits_for from pairs = 200 + owned_under (filled pairs).root + edits_of ((filled pairs).height - max 1 from) (filled pairs).root

may_have_grown : (old : OldPages) (from : ℕ) (pairs : List Pair) → is_map pairs ≡ true → MayHaveGrown from (edits_for from pairs) (filled pairs)
may_have_grown old from pairs map = go (filled pairs).root refl
  where
    valid : IsValidRoot old (filled pairs).root (filled pairs).height
    valid = filled_valid old pairs map

    go : (root : Option Tree) → (filled pairs).root ≡ root → MayHaveGrown from (edits_for from pairs) (filled pairs)
    go None is =
        let v = subst (λ (o : Option Tree). IsValidRoot old o (filled pairs).height) is valid in
        inl (omega (arith, v))
    go (Some tree) is =
        let v = subst (λ (o : Option Tree). IsValidRoot old o (filled pairs).height) is valid in
        let tall = v.1 in
        let n = (filled pairs).height - max 1 from in
        elim (cases_lt (max 1 from) (filled pairs).height) [
          | inl lt ↦
              let upper = upper_branches tree old v.0 n [] None v.2 (sym (ap left_pages is) ∙ filled_pages pairs) (omega (arith, tall)) in
              let paid = ap (edits_of n) is in
              inr (subst (λ (o : Option Tree). HasGrown from (edits_for from pairs) o (filled pairs).height) (sym is) (n, omega (arith, lt), upper, omega (arith, paid)))
          | inr le ↦ inl le
        ]

times_more : (edits rate : ℕ) → edits ≤ edits * (rate + 16)
times_more edits rate = omega (arith)

filled_draft : (slot : Slot) (view : Image) (pairs : List Pair) (ledger : LedgerState) → is_map pairs ≡ true → length pairs ≤ most_pairs → length ledger.marks ≡ slot.root.pages → ((n : ℕ) → is_alive ledger n ≡ false) → ((n : ℕ) → is_taken (mark_of ledger n) ≡ false)
    → IsDraft slot view (edits_for slot.root.height pairs) 0 pairs ledger (filled pairs)
filled_draft slot view pairs ledger map few marked dead untaken = record {
  valid = filled_valid (old_under slot view) pairs map;
  pairs_are = filled_pairs (old_under slot view) pairs map;
  reached = λ n. ap (times n) (filled_reaches (bytes_in view) (bounds_under slot) pairs) ∙ sym (ap one_if (dead n));
  alive = record {
    inside = λ n alive. absurd (not_both (is_alive ledger n) alive (dead n));
    whole = λ n alive. absurd (not_both (is_alive ledger n) alive (dead n));
    levels = λ n alive. absurd (not_both (is_alive ledger n) alive (dead n));
    marked = marked;
    untaken = untaken;
  };
  few = let more = times_more (edits_for slot.root.height pairs) slot.root.height in omega (arith, more);
  grown = may_have_grown (old_under slot view) slot.root.height pairs map;
}
  where
    not_both : (b : Bool) → IsTrue b → b ≡ false → ⊥
    not_both true h e = absurd (cc e)
    not_both false h e = absurd (cc h)

pub filled_counted : (slot : Slot) (view : Image) (pairs : List Pair) (ledger : LedgerState) (draft : Draft) → is_map pairs ≡ true → length pairs ≤ most_pairs → length ledger.marks ≡ slot.root.pages → ((n : ℕ) → is_alive ledger n ≡ false) → ((n : ℕ) → is_taken (mark_of ledger n) ≡ false)
    → state_of draft.tree ≡ filled pairs → draft.keys ≡ length pairs → IsCounted slot view (edits_for slot.root.height pairs) pairs ledger draft
filled_counted slot view pairs ledger draft map few marked dead untaken is keys = record {
  draft_is = subst (λ (s : RootState). IsDraft slot view (edits_for slot.root.height pairs) 0 pairs ledger s) (sym is) (filled_draft slot view pairs ledger map few marked dead untaken);
  keys = keys;
  map = map;
}

-- ---- what is known of a plan of filled pages

pub told_again : {T : Type 0} (r : Result T KeeperFault) (P : T → Type 0) (free : ℕ) (N : ℕ → Type 0) → IfErr r (IsRoomFault free N) → TellsDraft (Unit {0}) r P → TellsDraft ⊥ r P
told_again (Ok x) P free N fault answered = answered
told_again (Err e) P free N fault answered = room_told ⊥ e P P free N fault answered

-- a filled tree has fewer nodes than 64 bits can count
pub filled_bounded : (pairs : List Pair) (need : ℕ) → is_map pairs ≡ true → length pairs ≤ most_pairs → need ≡ min (owned_under (filled pairs).root) (2 ^ 64 - 1) → need ≡ owned_under (filled pairs).root
filled_bounded pairs need map few is = let most = filled_owned pairs map in omega (arith, most, few, is)

pub room_fault_again : (e : KeeperFault) (free left : ℕ) (P Q : ℕ → Type 0) → left ≡ free → ((n : ℕ) → P n → Q n) → IsRoomFault left P e → IsRoomFault free Q e
room_fault_again faults.Device free left P Q is f h = h
room_fault_again faults.NoImage free left P Q is f h = h
room_fault_again faults.Version free left P Q is f h = h
room_fault_again (faults.Damaged n) free left P Q is f h = h
room_fault_again faults.Small free left P Q is f h = h
room_fault_again faults.Spent free left P Q is f h = h
room_fault_again (faults.Full need k) free left P Q is f h = (h.0 ∙ is, (let a = h.1 in omega (arith, a, is)), f need h.2)
room_fault_again faults.Failed free left P Q is f h = h
room_fault_again faults.Memory free left P Q is f h = h
room_fault_again faults.Deep free left P Q is f h = h

pub fill_fault : (e : KeeperFault) (free : ℕ) (P Q : ℕ → Type 0) → ((n : ℕ) → P n → Q n) → IsRoomFault free P e → IsFillFault free Q e
fill_fault faults.Device free P Q f h = absurd h
fill_fault faults.NoImage free P Q f h = h
fill_fault faults.Version free P Q f h = h
fill_fault (faults.Damaged n) free P Q f h = h
fill_fault faults.Small free P Q f h = h
fill_fault faults.Spent free P Q f h = h
fill_fault (faults.Full need k) free P Q f h = (h.0, h.1, f need h.2)
fill_fault faults.Failed free P Q f h = h
fill_fault faults.Memory free P Q f h = h
fill_fault faults.Deep free P Q f h = h

pub pairs_fault : (e : KeeperFault) (free : ℕ) (Q : ℕ → Type 0) → IsPairsFault e → IsFillFault free Q e
pairs_fault faults.Device free Q h = tt
pairs_fault faults.NoImage free Q h = h
pairs_fault faults.Version free Q h = h
pairs_fault (faults.Damaged n) free Q h = h
pairs_fault faults.Small free Q h = h
pairs_fault faults.Spent free Q h = h
pairs_fault (faults.Full need k) free Q h = absurd h
pairs_fault faults.Failed free Q h = h
pairs_fault faults.Memory free Q h = h
pairs_fault faults.Deep free Q h = h

-- what writing all pairs of a tree anew takes
pub needs_filled : (slot : Slot) (view : Image) (pairs : List Pair) (need : ℕ) → is_map (found_under slot view).pairs ≡ true → pairs ≡ (found_under slot view).pairs → need ≡ owned_under (filled pairs).root → NeedsFilled slot view need
needs_filled slot view pairs need map is exact =
    let all = exact ∙ ap (λ (l : List Pair). owned_under (filled l).root) is in
    record { exact = all; most = let most = filled_owned (found_under slot view).pairs map in omega (arith, most, all) }

-- a filled tree without a root has no levels
pub filled_levels : (pairs : List Pair) → is_map pairs ≡ true → levels_of (filled pairs) ≡ (filled pairs).height
filled_levels pairs map = go (filled pairs).root (filled_valid no_pages pairs map)
  where
    go : (root : Option Tree) → IsValidRoot no_pages root (filled pairs).height → levels_under root (filled pairs).height ≡ (filled pairs).height
    go None flat = sym flat
    go (Some tree) valid = refl

-- a plan of the same pairs in filled pages, where no page of the old tree is left
pub fill_plan : (view : Image) (slot : Slot) (top : ℕ) (ledger : LedgerState) (plan : Plan) (pairs : List Pair) → pairs ≡ (found_under slot view).pairs → IsPlanned view slot top pairs ledger plan → ((n : ℕ) → is_alive ledger n ≡ false) → length plan.pages.items ≡ owned_under (filled pairs).root
    → plan.slot.root.height ≡ (filled pairs).height → IsFillPlan view slot top ledger plan
fill_plan view slot top ledger plan pairs is planned dead count levels = record {
  planned = record { found = planned.found; plan_is = planned.plan_is; next = planned.next; pairs_are = planned.pairs_are ∙ is; reaches = planned.reaches };
  levels = levels ∙ ap (λ (l : List Pair). (filled l).height) is;
  pages =
      same_length planned.found.pages (numbers plan.pages.items) (λ n. let r = planned.reaches n in let zero_is = ap one_if (dead n) in omega (arith, r, zero_is))
      ∙ numbers_length plan.pages.items ∙ count ∙ ap (λ (l : List Pair). owned_under (filled l).root) is;
}
