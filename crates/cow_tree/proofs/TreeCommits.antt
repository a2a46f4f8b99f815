-- A commit of a keeper of a tree, before, in between and after.
use Rattle.std.proofs.Common.{◌≡◌, ◌≤◌, ◌<◌, ◌⊎◌, ⊎_elim, ℕ, suc, Bool, true, false, List, [], ◌∷◌, length, Option, Some, Err, refl, sym, ap, subst, ◌∙◌, arith, IsTrue}
use Rattle.std.specs.Prelude.{◌&&◌, not}
use Rattle.common_types.specs.Counts.{counted_rises}
use Rattle.common_types.specs.CrashStates.{CrashStates}
use Rattle.sector_device.specs.Disk.{Disk}
use Rattle.page_alloc.specs.LedgerState.{LedgerState, Mark, Untouched, has_page, is_retired}
use Rattle.page_alloc.specs.Calls.{advanced, unmarked, lives_from}
use Rattle.page_alloc.specs.declared.life.Life.{Life}
use Rattle.page_store.specs.Sectors.{Image, page_of}
use Rattle.page_store.specs.Pages.{Pair}
use Rattle.page_store.specs.Batch.{is_map}
use Rattle.page_store.specs.Same.{Agree}
use Rattle.page_store.specs.Steps.{AllAre}
use Rattle.page_store.specs.Counting.{CountsStoreReads, reads_after, writes_after}
use Rattle.page_store.specs.Content.{tree_as, Found, content_under, tree_found, is_among}
use Rattle.page_store.specs.StoreState.{StoreState, CommitNeed, SoManyPages, TooManyLevels, HasStayed, IsCommitFault, MayBeDeep}
use Rattle.page_store.specs.Compaction.{IsCompactFault}
use Rattle.page_store.specs.declared.banner.Banner.{Banner}
use Rattle.page_store.specs.declared.slot.Slot.{Slot}
use Rattle.page_store.specs.declared.fault.KeeperFault.{KeeperFault}
use Rattle.page_store.specs.declared.fault.KeeperFault.TheVariants as faults
use Rattle.page_store.proofs.ReachedPages.{content_under-local}
use Rattle.cow_tree.specs.PinnedTrees.{or_nothing}
use Rattle.cow_tree.specs.TreeState.{FitsTree, IsThere, IsDurable, found_under}
use Rattle.cow_tree.specs.Drafts.{TellsDraft, OnlyMarks}
use Rattle.cow_tree.specs.Plans.{IsHeld, Starts, IsMade, IsTreePlan, LeadsToNext, IsPlanned, IsTreePlanFault}
use Rattle.cow_tree.specs.Compacting.{IsFillFault}
use Rattle.cow_tree.specs.Committed.{is_tree_version, MayWritePlan}
use Rattle.cow_tree.specs.declared.plans.Plan.{Plan}
use Rattle.cow_tree.proofs.Openings.{content_is}
use Rattle.cow_tree.specs.KeysCounted.{keys_told}
use Rattle.cow_tree.proofs.Taken.{untaken_at_rest}
use Rattle.cow_tree.proofs.PlansMade.{held_still}
use Rattle.cow_tree.proofs.DraftsBegin.{begins, keys_bounded}

pub version_is : (version : ℕ) → IsTrue (is_tree_version version) → IsTrue (is_tree_version version)
version_is version h = h

-- ---- before

pub starts : (sectors : ℕ) (slot : Slot) (view : Image) (ledger : LedgerState) → FitsTree sectors slot ledger → IsThere view slot ledger → Starts slot view (found_under slot view).pairs ledger
starts sectors slot view ledger fit there = record {
  draft = begins sectors slot view ledger fit there;
  keys = keys_told slot (page_of view) (found_under slot view) there.found_is;
  map = there.map;
  few = keys_bounded sectors slot view ledger fit there;
}

and_true : (b : Bool) → (b && true) ≡ b
and_true true = refl
and_true false = refl

pub is_held : (sectors : ℕ) (slot : Slot) (disk : Disk) (ledger : LedgerState) (top : ℕ) → FitsTree sectors slot ledger → IsThere disk.view slot ledger → IsDurable disk slot top → slot.seal ≤ top → IsHeld disk.view slot top ledger
is_held sectors slot disk ledger top fit there durable sealed = record {
  content_is = content_is disk.view slot (Some (found_under slot disk.view)) durable.current_is fit.version there.found_is;
  held = λ n.
      sym (ap (λ (m : Mark). has_page ledger ledger.generation n && not (is_retired m)) (untaken_at_rest ledger fit.rest.unmarked n) ∙ and_true (has_page ledger ledger.generation n)) ∙ there.alive n;
  sealed = sealed;
  seals = durable.seals;
}

abbrev pub may_be_written : (view mid : Image) (states : CrashStates Image) (slot : Slot) (ledger now : LedgerState) (top : ℕ) (plan : Plan) (pairs : List Pair) → IsHeld view slot top ledger → OnlyMarks ledger now → IsPlanned view slot top pairs now plan
    → IsTrue (is_tree_version slot.root.banner.version) → mid ≡ view → AllAre states mid → MayWritePlan mid states slot now plan
may_be_written view mid states slot ledger now top plan pairs held marks planned version same sure = record {
  top = top;
  pairs = pairs;
  held = subst (λ (v : Image). IsHeld v slot top now) (sym same) (held_still view slot top ledger now marks held);
  planned = record {
    found = planned.found;
    plan_is = subst (λ (v : Image). IsTreePlan v slot top plan.pages.items plan.slot planned.found) (sym same) planned.plan_is;
    next = subst (λ (v : Image). LeadsToNext v now plan.pages.items plan.slot planned.found) (sym same) planned.next;
    pairs_are = planned.pairs_are;
    reaches = planned.reaches;
  };
  version = version;
  sure = sure;
}

-- ---- a commit that is refused

pub lies : (b : Bool) → (IsTrue b → ⊥) → b ≡ false
lies true h = absurd (h refl)
lies false h = refl

pub commit_fault : {T : Type 0} (old new : StoreState) (edits : ℕ) (may : CommitNeed → Type 0) (slot : Slot) (deep : Type 0) (P : T → Type 0) (N : ℕ → Type 0) (e : KeeperFault) → HasStayed old new → CountsStoreReads {T = T} (Err e) old.failed_reads new.failed_reads
    → (IsTrue old.honest → TellsDraft {T = T} deep (Err e) P) → (deep → MayBeDeep old edits × may TooManyLevels) → IsTreePlanFault old.free N e → ((n : ℕ) → N n → IsTrue old.honest → may (SoManyPages n)) → IsCommitFault old new edits may e
commit_fault old new edits may slot deep P N faults.Device stayed reads answered levels fault need = (stayed, reads)
commit_fault old new edits may slot deep P N faults.NoImage stayed reads answered levels fault need = absurd fault
commit_fault old new edits may slot deep P N faults.Version stayed reads answered levels fault need = absurd fault
commit_fault old new edits may slot deep P N (faults.Damaged page) stayed reads answered levels fault need = (stayed, lies old.honest answered)
commit_fault old new edits may slot deep P N faults.Small stayed reads answered levels fault need = absurd fault
commit_fault old new edits may slot deep P N faults.Spent stayed reads answered levels fault need = absurd fault
commit_fault old new edits may slot deep P N (faults.Full n left) stayed reads answered levels fault need = (stayed, fault.0, (let a = fault.0 in let b = fault.1 in omega (arith, a, b)), λ keeps. need n fault.2 keeps)
commit_fault old new edits may slot deep P N faults.Failed stayed reads answered levels fault need = absurd fault
commit_fault old new edits may slot deep P N faults.Memory stayed reads answered levels fault need = stayed
commit_fault old new edits may slot deep P N faults.Deep stayed reads answered levels fault need = (stayed, λ keeps. levels (answered keeps))

-- it has written nothing
pub plan_writes_none : (usable : Bool) (free : ℕ) (N : ℕ → Type 0) (e : KeeperFault) (old new : ℕ) → IsTreePlanFault free N e → new ≡ old → new ≡ writes_after usable e old
plan_writes_none true free N faults.Device old new fault same = same
plan_writes_none true free N faults.NoImage old new fault same = absurd fault
plan_writes_none true free N faults.Version old new fault same = absurd fault
plan_writes_none true free N (faults.Damaged page) old new fault same = same
plan_writes_none true free N faults.Small old new fault same = absurd fault
plan_writes_none true free N faults.Spent old new fault same = absurd fault
plan_writes_none true free N (faults.Full n left) old new fault same = same
plan_writes_none true free N faults.Failed old new fault same = absurd fault
plan_writes_none true free N faults.Memory old new fault same = same
plan_writes_none true free N faults.Deep old new fault same = same
plan_writes_none false free N e old new fault same = same

-- the same of a compaction
pub fill_writes_none : (usable : Bool) (free : ℕ) (N : ℕ → Type 0) (e : KeeperFault) (old new : ℕ) → IsFillFault free N e → new ≡ old → new ≡ writes_after usable e old
fill_writes_none true free N faults.Device old new fault same = same
fill_writes_none true free N faults.NoImage old new fault same = absurd fault
fill_writes_none true free N faults.Version old new fault same = absurd fault
fill_writes_none true free N (faults.Damaged page) old new fault same = same
fill_writes_none true free N faults.Small old new fault same = absurd fault
fill_writes_none true free N faults.Spent old new fault same = absurd fault
fill_writes_none true free N (faults.Full n left) old new fault same = same
fill_writes_none true free N faults.Failed old new fault same = absurd fault
fill_writes_none true free N faults.Memory old new fault same = same
fill_writes_none true free N faults.Deep old new fault same = absurd fault
fill_writes_none false free N e old new fault same = same

-- a compaction that is refused
pub compact_fault : {T : Type 0} (old new : StoreState) (may : ℕ → Type 0) (P : T → Type 0) (N : ℕ → Type 0) (e : KeeperFault) → HasStayed old new → CountsStoreReads {T = T} (Err e) old.failed_reads new.failed_reads
    → (IsTrue old.honest → TellsDraft {T = T} ⊥ (Err e) P) → IsFillFault old.free N e → ((n : ℕ) → N n → IsTrue old.honest → may n) → IsCompactFault old new may e
compact_fault old new may P N faults.Device stayed reads answered fault need = (stayed, reads)
compact_fault old new may P N faults.NoImage stayed reads answered fault need = absurd fault
compact_fault old new may P N faults.Version stayed reads answered fault need = absurd fault
compact_fault old new may P N (faults.Damaged page) stayed reads answered fault need = (stayed, lies old.honest answered)
compact_fault old new may P N faults.Small stayed reads answered fault need = absurd fault
compact_fault old new may P N faults.Spent stayed reads answered fault need = absurd fault
compact_fault old new may P N (faults.Full n left) stayed reads answered fault need = (stayed, fault.0, (let a = fault.0 in let b = fault.1 in omega (arith, a, b)), λ keeps. need n fault.2 keeps)
compact_fault old new may P N faults.Failed stayed reads answered fault need = absurd fault
compact_fault old new may P N faults.Memory stayed reads answered fault need = stayed
compact_fault old new may P N faults.Deep stayed reads answered fault need = absurd fault

-- the same content before and after
pub either : {P : Type 0} → P ⊎ P → P
either x = ⊎_elim (λ p. p) (λ p. p) x

pub reads_rise : (e : KeeperFault) (before now : ℕ) → now ≡ reads_after e before → before ≤ now
reads_rise faults.Device before now is = subst (λ (n : ℕ). before ≤ n) (sym is) (counted_rises before)
reads_rise faults.NoImage before now is = omega (arith, is)
reads_rise faults.Version before now is = omega (arith, is)
reads_rise (faults.Damaged page) before now is = omega (arith, is)
reads_rise faults.Small before now is = omega (arith, is)
reads_rise faults.Spent before now is = omega (arith, is)
reads_rise (faults.Full need free) before now is = omega (arith, is)
reads_rise faults.Failed before now is = omega (arith, is)
reads_rise faults.Memory before now is = omega (arith, is)
reads_rise faults.Deep before now is = omega (arith, is)

-- ---- a commit that is done

pub lives_length : (g : ℕ) (lives : List Life) (marks : List Mark) → length (lives_from g lives marks) ≡ length lives
lives_length g [] [] = refl
lives_length g [] (mark ∷ marks) = refl
lives_length g (life ∷ lives) [] = refl
lives_length g (life ∷ lives) (mark ∷ marks) = ap suc (lives_length g lives marks)

unmarked_again : (marks : List Mark) → unmarked (unmarked marks) ≡ unmarked marks
unmarked_again [] = refl
unmarked_again (mark ∷ marks) = ap (λ (l : List Mark). Untouched ∷ l) (unmarked_again marks)

unmarked_length : (marks : List Mark) → length (unmarked marks) ≡ length marks
unmarked_length [] = refl
unmarked_length (mark ∷ marks) = ap suc (unmarked_length marks)

pub fitted_now : (sectors now : ℕ) (slot : Slot) (ledger mid : LedgerState) (seal : ℕ) (banner : Banner) (plan : Plan) → FitsTree sectors slot ledger → OnlyMarks ledger mid → IsMade slot seal banner plan → IsTrue (is_tree_version banner.version) → 0 < banner.port → now ≡ sectors → FitsTree now plan.slot (advanced plan.slot.seal mid)
fitted_now sectors now slot ledger mid seal banner plan fit marks made version port size = record {
  number = let n = made.number in omega (arith, n);
  least = let a = made.size in let b = fit.least in omega (arith, a, b);
  most = let a = made.size in let b = fit.most in omega (arith, a, b);
  fits = let a = made.size in let b = fit.fits in omega (arith, a, b, size);
  version = subst (λ (b : Banner). IsTrue (is_tree_version b.version)) (sym made.banner_is) version;
  port = subst (λ (b : Banner). 0 < b.port) (sym made.banner_is) port;
  rooted = made.rooted;
  rest = record {
    pages = lives_length plan.slot.seal mid.lives mid.marks ∙ ap length marks.lives ∙ fit.rest.pages ∙ sym made.size;
    generation = refl;
    unmarked = unmarked_again mid.marks;
    marked = unmarked_length mid.marks ∙ marks.size ∙ fit.rest.marked ∙ sym made.size;
  };
}

-- ---- a commit that failed

module _ (slot : Slot) (view now : Image) (ledger : LedgerState) (version : IsTrue (is_tree_version slot.root.banner.version)) (there : IsThere view slot ledger) (stay : Agree (found_under slot view).pages (page_of view) (page_of now)) where
  still_found : tree_found slot (page_of now) ≡ Some (found_under slot view)
  unfolding content_under
  still_found =
      let before : content_under slot (page_of view) ≡ Some (found_under slot view) = tree_as slot.root.banner.version slot (page_of view) version ∙ there.found_is in
      sym (tree_as slot.root.banner.version slot (page_of now) version) ∙ content_under-local slot (page_of view) (page_of now) (found_under slot view) before stay

  pub still_under : found_under slot now ≡ found_under slot view
  still_under = ap or_nothing still_found

  pub still_there : IsThere now slot ledger
  still_there = record {
    found_is = still_found ∙ ap (λ (x : Found). some_found x) (sym still_under);
    map = subst (λ (x : Found). is_map x.pairs ≡ true) (sym still_under) there.map;
    alive = λ n. there.alive n ∙ ap (λ (x : Found). is_among n x.pages) (sym still_under);
    whole = λ n alive. ap (λ (l : List ℕ). length l) (sym (stay n (sym (there.alive n) ∙ alive))) ∙ there.whole n alive;
  }
    where
      some_found : Found → Option Found
      some_found x = Some x
