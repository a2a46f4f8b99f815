use Rattle.std.proofs.Common.{Bool, false, ◌≡◌, ◌⊎◌, ◌*◌, inl, inr, ℕ, length, refl, sym, ap, subst, ◌∙◌, arith, IsTrue}
use Rattle.common_types.specs.Counts.{counted, counted_rises}
use Rattle.common_types.specs.CrashStates.{may_crash_to, no_new_crash_state, adds_both}
use Rattle.sector_device.specs.Disk.{Disk}
use Rattle.page_alloc.specs.LedgerState.{LedgerState, free_count}
use Rattle.page_store.specs.Sectors.{Image, page_of}
use Rattle.page_store.specs.Commit.{IsBetween}
use Rattle.page_store.specs.Content.{not_flat, Found}
use Rattle.page_store.specs.Batch.{updated}
use Rattle.page_store.specs.Steps.{crash_states_of}
use Rattle.page_store.specs.Counting.{writes_after}
use Rattle.page_store.specs.StoreState.{SoManyPages, HasStayed, most_levels}
use Rattle.cow_tree.specs.PinnedTrees.{ArePinned, PinnedTreesAreKept, HeldPagesStay, PinnedPagesStay, PinnedStay}
use Rattle.cow_tree.specs.Plans.{tree_commit}
use Rattle.cow_tree.specs.TreeState.{FitsTree, IsThere, found_under, tree_holding}
use Rattle.cow_tree.specs.Drafts.{MayBeTooDeep}
use Rattle.cow_tree.specs.Needs.{MayNeed, GetsTooDeep}
use Rattle.cow_tree.specs.Committed.{TreeHas}
use Rattle.cow_tree.specs.KeeperLaws.{crash_states_have_the_tree}
use Rattle.cow_tree.proofs.KeeperReads.{has_read, needs_again}
use Rattle.cow_tree.proofs.PinnedTrees.{same_numbers}
use Rattle.cow_tree.proofs.PinsCommitted.{pins_done, pins_stay, kept_still, kept_done, stay_now}
use Rattle.cow_tree.proofs.TreePlans.{pinned_stay, tree_plan, way_again, one_plan}
use Rattle.cow_tree.proofs.Taken.{abandoned_again}
use Rattle.cow_tree.proofs.CommitsWritten.{adds_weaker, old_or_new, held_pages_stay}
use Rattle.page_store.specs.declared.fault.KeeperFault.TheVariants.{Failed}
use Rattle.page_store.proofs.Outcomes.{both_flags}
use Rattle.cow_tree.proofs.TreeCommits.{plan_writes_none, version_is, starts, is_held, may_be_written, commit_fault, reads_rise, fitted_now, still_under, still_there}
use Rattle.sector_device.proofs.Works.{at_most, most_of}
use Rattle.cow_tree.proofs.WorkDone.{written, written_less, read_less}
use Rattle.cow_tree.proofs.tree_calls.TreeKeeperKeeper.commit.Goals as goal

pub returns-then-self-clause-at_crash : goal.returns-then-self-clause-at_crash
returns-then-self-clause-at_crash g c =
    let d = g.met.D.Device in
    let k = c.args.self.now in
    let view = (g.D.Device.state k.device).disk.view in
    let states = crash_states_of g.D.Device.moment g.D.Device.possible_since k.device in
    record {
      at_crash = λ keeps up. adds_weaker states states (may_crash_to states) (λ (i : Image). TreeHas i (found_under k.slot view).pairs k.slot.root.banner ⊎ TreeHas i (updated (found_under k.slot view).pairs c.args.batch.now) c.args.banner)
          (λ i left. inl (crash_states_have_the_tree (g.D.Device.state k.device).disk k.slot k.ledger k.top k.fitted.version (k.there keeps) (k.durable keeps up) i (d.crash_states_are_images k.device i keeps left))) (no_new_crash_state states);
      no_new_crash_state = λ keeps usable. no_new_crash_state states;
      no_new_crash_state_when_closed = λ keeps shut. no_new_crash_state states;
    }

pub returns-then-self-clause-writes : goal.returns-then-self-clause-writes
returns-then-self-clause-writes g c =
    let d = g.met.D.Device in
    let k = c.args.self.now in
    let view = (g.D.Device.state k.device).disk.view in
    let states = crash_states_of g.D.Device.moment g.D.Device.possible_since k.device in
    record {
      between = λ keeps up. inl (no_new_crash_state states);
      unheld = λ keeps up. (λ n keep. refl, adds_weaker states states (may_crash_to states) (PinnedPagesStay k.pinned view) (λ i left n keep. ap (λ (v : Image). page_of v n) ((k.durable keeps up).images i (d.crash_states_are_images k.device i keeps left))) (no_new_crash_state states));
      written = tt;
    }

pub returns-in-Err-clause-fault : goal.returns-in-Err-clause-fault
returns-in-Err-clause-fault g c =
    let d = g.met.D.Device in
    let k = c.args.self.now in
    let state = g.D.Device.state in
    let old = state k.device in
    let mid = state c.plan_commit.new.device in
    let only = c.plan_commit.ensures.reads.device.only in
    let states = crash_states_of g.D.Device.moment g.D.Device.possible_since in
    let up = c.if-not-self.false in
    let version = version_is c.args.banner.version c.requires.banner.version in
    let pairs = (found_under k.slot old.disk.view).pairs in
    let batch = c.args.batch.now in
    let held_by = λ (keeps : IsTrue old.honest). is_held old.size k.slot old.disk k.ledger k.top k.fitted (k.there keeps) (k.durable keeps up) k.sealed in
    let first = λ (keeps : IsTrue old.honest). starts old.size k.slot old.disk.view k.ledger k.fitted (k.there keeps) in
    let rise = reads_rise c.in-Err.fault old.failed_reads mid.failed_reads c.in-Err.ensures.reads.reads in
    let stayed = subst (λ (l : LedgerState). HasStayed (tree_holding old k.slot k.ledger k.top k.usable k.pinned) (tree_holding mid k.slot l k.top k.usable k.pinned)) (sym c.in-Err.ensures.ledger.refused) (has_read old mid k.slot k.ledger k.top k.usable k.pinned only rise).same in
    record {
      cause = commit_fault (tree_holding old k.slot k.ledger k.top k.usable k.pinned) (tree_holding mid k.slot c.plan_commit.new.ledger k.top k.usable k.pinned) (length batch) (MayNeed k.slot old batch) k.slot (MayBeTooDeep k.slot (length batch) × GetsTooDeep k.slot old.disk.view batch) _ _ c.in-Err.fault stayed c.in-Err.ensures.reads.reads
          (λ keeps. c.in-Err.ensures.planned keeps k.top pairs (held_by keeps) (first keeps) refl version) (λ deep. ((not_flat k.slot.root.banner.version k.fitted.version, deep.0), λ again. deep.1)) c.in-Err.ensures.fault (λ n f keeps again. f keeps pairs (first keeps));
      need = λ usable. needs_again old mid k.slot only;
      tight = λ keeps usable shut. both_flags k.usable usable shut;
    }

pub returns-in-Err-clause-counts : goal.returns-in-Err-clause-counts
returns-in-Err-clause-counts g c =
    let old = g.D.Device.state c.args.self.now.device in
    let mid = g.D.Device.state c.plan_commit.new.device in
    let only = c.plan_commit.ensures.reads.device.only in
    record {
      tried = record {
        honest = only.same.honest;
        reads = reads_rise c.in-Err.fault old.failed_reads mid.failed_reads c.in-Err.ensures.reads.reads;
        writes = let e = only.writes in omega (arith, e);
        top = omega arith;
      };
      reads = c.in-Err.ensures.reads.reads;
      writes = plan_writes_none c.args.self.now.usable _ _ c.in-Err.fault old.failed_writes mid.failed_writes c.in-Err.ensures.fault only.writes;
      work = read_less (most_levels * length c.args.batch.now) _ c.plan_commit.ensures.work;
    }

pub returns-in-Err-clause-at_crash : goal.returns-in-Err-clause-at_crash
returns-in-Err-clause-at_crash g c =
    let d = g.met.D.Device in
    let k = c.args.self.now in
    let state = g.D.Device.state in
    let old = state k.device in
    let mid = state c.plan_commit.new.device in
    let only = c.plan_commit.ensures.reads.device.only in
    let states = crash_states_of g.D.Device.moment g.D.Device.possible_since in
    let up = c.if-not-self.false in
    let version = version_is c.args.banner.version c.requires.banner.version in
    let pairs = (found_under k.slot old.disk.view).pairs in
    let batch = c.args.batch.now in
    let none = c.plan_commit.ensures.reads.device.no_new_crash_state in
    record {
      at_crash = λ keeps usable. adds_weaker (states k.device) (states c.plan_commit.new.device) (may_crash_to (states k.device)) (λ (i : Image). TreeHas i pairs k.slot.root.banner ⊎ TreeHas i (updated pairs batch) c.args.banner)
          (λ i left. inl (crash_states_have_the_tree old.disk k.slot k.ledger k.top k.fitted.version (k.there keeps) (k.durable keeps up) i (d.crash_states_are_images k.device i keeps left))) (none keeps);
      no_new_crash_state = λ keeps usable. none keeps;
      no_new_crash_state_when_closed = λ keeps shut. none keeps;
    }

pub returns-in-Err-clause-writes : goal.returns-in-Err-clause-writes
returns-in-Err-clause-writes g c =
    let d = g.met.D.Device in
    let k = c.args.self.now in
    let old = g.D.Device.state k.device in
    let states = crash_states_of g.D.Device.moment g.D.Device.possible_since in
    let up = c.if-not-self.false in
    let none = c.plan_commit.ensures.reads.device.no_new_crash_state in
    record {
      between = λ keeps usable. inl (none keeps);
      unheld = λ keeps usable. (
        λ n keep. ap (λ (x : Disk). page_of x.view n) (c.plan_commit.ensures.reads.device.only.disk keeps),
        adds_weaker (states k.device) (states c.plan_commit.new.device) (may_crash_to (states k.device)) (PinnedPagesStay k.pinned old.disk.view) (λ i left n keep. ap (λ (v : Image). page_of v n) ((k.durable keeps up).images i (d.crash_states_are_images k.device i keeps left))) (none keeps),
      );
      written = tt;
    }

pub write_plan-requires-clause-planned : goal.write_plan-requires-clause-planned
write_plan-requires-clause-planned g c = λ keeps2.
    let d = g.met.D.Device in
    let k = c.args.self.now in
    let state = g.D.Device.state in
    let old = state k.device in
    let mid = state c.plan_commit.new.device in
    let only = c.plan_commit.ensures.reads.device.only in
    let states = crash_states_of g.D.Device.moment g.D.Device.possible_since in
    let up = c.if-not-self.false in
    let version = version_is c.args.banner.version c.requires.banner.version in
    let pairs = (found_under k.slot old.disk.view).pairs in
    let batch = c.args.batch.now in
    let held_by = λ (keeps : IsTrue old.honest). is_held old.size k.slot old.disk k.ledger k.top k.fitted (k.there keeps) (k.durable keeps up) k.sealed in
    let first = λ (keeps : IsTrue old.honest). starts old.size k.slot old.disk.view k.ledger k.fitted (k.there keeps) in
    let same = λ (keeps : IsTrue old.honest). let e : mid.disk.view ≡ old.disk.view = ap (λ (x : Disk). x.view) (only.disk keeps) in e in
    let sure = λ (keeps : IsTrue old.honest) (i : Image) (left : may_crash_to (states c.plan_commit.new.device) i).
    let e : i ≡ mid.disk.view = (k.durable keeps up).images i (d.crash_states_are_images k.device i keeps ((c.plan_commit.ensures.reads.device.no_new_crash_state keeps).now i left)) ∙ sym (same keeps) in e in
    let ready = λ (keeps : IsTrue old.honest).
    may_be_written old.disk.view mid.disk.view (states c.plan_commit.new.device) k.slot k.ledger c.plan_commit.new.ledger k.top c.in-Ok.plan (updated pairs batch) (held_by keeps) c.plan_commit.ensures.ledger.marks
    (c.in-Ok.ensures.planned keeps k.top pairs (held_by keeps) (first keeps) refl version).0 k.fitted.version (same keeps) (sure keeps) in
    ready (subst IsTrue only.same.honest keeps2)

pub invariant_of-self-in-Ok-write_plan : goal.invariant_of-self-in-Ok-write_plan
invariant_of-self-in-Ok-write_plan g c =
    let d = g.met.D.Device in
    let k = c.args.self.now in
    let state = g.D.Device.state in
    let old = state k.device in
    let mid = state c.plan_commit.new.device in
    let only = c.plan_commit.ensures.reads.device.only in
    let states = crash_states_of g.D.Device.moment g.D.Device.possible_since in
    let up = c.if-not-self.false in
    let version = version_is c.args.banner.version c.requires.banner.version in
    let pairs = (found_under k.slot old.disk.view).pairs in
    let batch = c.args.batch.now in
    let held_by = λ (keeps : IsTrue old.honest). is_held old.size k.slot old.disk k.ledger k.top k.fitted (k.there keeps) (k.durable keeps up) k.sealed in
    let first = λ (keeps : IsTrue old.honest). starts old.size k.slot old.disk.view k.ledger k.fitted (k.there keeps) in
    let same = λ (keeps : IsTrue old.honest). let e : mid.disk.view ≡ old.disk.view = ap (λ (x : Disk). x.view) (only.disk keeps) in e in
    let sure = λ (keeps : IsTrue old.honest) (i : Image) (left : may_crash_to (states c.plan_commit.new.device) i).
    let e : i ≡ mid.disk.view = (k.durable keeps up).images i (d.crash_states_are_images k.device i keeps ((c.plan_commit.ensures.reads.device.no_new_crash_state keeps).now i left)) ∙ sym (same keeps) in e in
    let ready = λ (keeps : IsTrue old.honest).
    may_be_written old.disk.view mid.disk.view (states c.plan_commit.new.device) k.slot k.ledger c.plan_commit.new.ledger k.top c.in-Ok.plan (updated pairs batch) (held_by keeps) c.plan_commit.ensures.ledger.marks
    (c.in-Ok.ensures.planned keeps k.top pairs (held_by keeps) (first keeps) refl version).0 k.fitted.version (same keeps) (sure keeps) in
    let new = state c.write_plan.new.device in
    let wrote = c.write_plan.ensures.outcome in
    let keeps1 = λ (keeps : IsTrue old.honest). let h : IsTrue mid.honest = subst IsTrue (sym only.same.honest) keeps in h in
    let back = λ (keeps2 : IsTrue new.honest). let h : IsTrue old.honest = subst IsTrue (wrote.same.honest ∙ only.same.honest) keeps2 in h in
    let done = λ (keeps : IsTrue old.honest). c.in-Ok-write_plan.ensures.writes.done (keeps1 keeps) (ready keeps) in
    let seal = c.in-Ok.ensures.made.made.seal_is in
    record {
      fitted = subst (λ (l : LedgerState). FitsTree new.size c.in-Ok.plan.slot l) (sym c.in-Ok-write_plan.ensures.ledger.advanced_is)
          (fitted_now old.size new.size k.slot k.ledger c.plan_commit.new.ledger _ c.args.banner c.in-Ok.plan k.fitted c.plan_commit.ensures.ledger.marks c.in-Ok.ensures.made.made version c.requires.banner.port (wrote.same.size ∙ only.same.size));
      sealed = omega (arith, seal);
      pins = subst (λ (l : LedgerState). ArePinned c.in-Ok.plan.slot.root.pages l k.pinned) (sym c.in-Ok-write_plan.ensures.ledger.advanced_is)
          (pins_done k.slot.root.pages c.in-Ok.plan.slot.root.pages c.in-Ok.plan.slot.seal k.ledger c.plan_commit.new.ledger k.pinned c.plan_commit.ensures.ledger.marks c.in-Ok.ensures.made.made.size k.pins);
      pins_there = λ keeps2.
          let keeps = back keeps2 in
          subst (λ (l : LedgerState). PinnedTreesAreKept new.disk.view l k.pinned) (sym c.in-Ok-write_plan.ensures.ledger.advanced_is)
          (kept_done old.disk.view mid.disk.view new.disk.view k.slot.root.pages k.ledger c.plan_commit.new.ledger k.pinned k.pins c.plan_commit.ensures.ledger.marks (same keeps) (c.write_plan.ensures.writes.held (keeps1 keeps) (ready keeps)) (k.pins_there keeps) c.in-Ok.plan.slot.seal
          (subst (λ (l : LedgerState). PinnedStay c.plan_commit.new.ledger l) c.in-Ok-write_plan.ensures.ledger.advanced_is c.in-Ok-write_plan.ensures.ledger.pinned));
      leaf = λ keeps2. ∣ inl c.clear.ensures ∣₁;
      places_kept = λ keeps2. c.clear-2.ensures (page_of (g.D.Device.state c.write_plan.new.device).disk.view);
      there = λ keeps2. (done (back keeps2)).there;
      durable = λ keeps2 usable. record {
        images = λ i image. (done (back keeps2)).all i (d.each_image_is_a_crash_state c.write_plan.new.device i keeps2 image);
        current_is = (done (back keeps2)).current_is;
        seals = let s = (done (back keeps2)).seals in omega (arith, s, seal);
      };
    }

pub invariant_of-self-in-Err-write_plan : goal.invariant_of-self-in-Err-write_plan
invariant_of-self-in-Err-write_plan g c =
    let d = g.met.D.Device in
    let k = c.args.self.now in
    let state = g.D.Device.state in
    let old = state k.device in
    let mid = state c.plan_commit.new.device in
    let only = c.plan_commit.ensures.reads.device.only in
    let states = crash_states_of g.D.Device.moment g.D.Device.possible_since in
    let up = c.if-not-self.false in
    let version = version_is c.args.banner.version c.requires.banner.version in
    let pairs = (found_under k.slot old.disk.view).pairs in
    let batch = c.args.batch.now in
    let held_by = λ (keeps : IsTrue old.honest). is_held old.size k.slot old.disk k.ledger k.top k.fitted (k.there keeps) (k.durable keeps up) k.sealed in
    let first = λ (keeps : IsTrue old.honest). starts old.size k.slot old.disk.view k.ledger k.fitted (k.there keeps) in
    let same = λ (keeps : IsTrue old.honest). let e : mid.disk.view ≡ old.disk.view = ap (λ (x : Disk). x.view) (only.disk keeps) in e in
    let sure = λ (keeps : IsTrue old.honest) (i : Image) (left : may_crash_to (states c.plan_commit.new.device) i).
    let e : i ≡ mid.disk.view = (k.durable keeps up).images i (d.crash_states_are_images k.device i keeps ((c.plan_commit.ensures.reads.device.no_new_crash_state keeps).now i left)) ∙ sym (same keeps) in e in
    let ready = λ (keeps : IsTrue old.honest).
    may_be_written old.disk.view mid.disk.view (states c.plan_commit.new.device) k.slot k.ledger c.plan_commit.new.ledger k.top c.in-Ok.plan (updated pairs batch) (held_by keeps) c.plan_commit.ensures.ledger.marks
    (c.in-Ok.ensures.planned keeps k.top pairs (held_by keeps) (first keeps) refl version).0 k.fitted.version (same keeps) (sure keeps) in
    let new = state c.write_plan.new.device in
    let wrote = c.write_plan.ensures.outcome in
    let keeps1 = λ (keeps : IsTrue old.honest). let h : IsTrue mid.honest = subst IsTrue (sym only.same.honest) keeps in h in
    let back = λ (keeps2 : IsTrue new.honest). let h : IsTrue old.honest = subst IsTrue (wrote.same.honest ∙ only.same.honest) keeps2 in h in
    let as_before : c.write_plan.new.ledger ≡ k.ledger = c.in-Err-write_plan.ensures.ledger.abandoned_is ∙ abandoned_again k.ledger c.plan_commit.new.ledger c.plan_commit.ensures.ledger.marks k.fitted.rest.unmarked in
    record {
      fitted = subst (λ (l : LedgerState). FitsTree new.size k.slot l) (sym as_before) (subst (λ (n : ℕ). FitsTree n k.slot k.ledger) (sym (wrote.same.size ∙ only.same.size)) k.fitted);
      sealed = let s = k.sealed in omega (arith, s);
      pins = subst (λ (l : LedgerState). ArePinned k.slot.root.pages l k.pinned) (sym as_before) k.pins;
      pins_there = λ keeps2.
          let keeps = back keeps2 in
          subst (λ (l : LedgerState). PinnedTreesAreKept new.disk.view l k.pinned) (sym as_before)
          (kept_still old.disk.view mid.disk.view new.disk.view k.slot.root.pages k.ledger c.plan_commit.new.ledger k.pinned k.pins c.plan_commit.ensures.ledger.marks (same keeps) (c.write_plan.ensures.writes.held (keeps1 keeps) (ready keeps)) (k.pins_there keeps));
      leaf = λ keeps2. ∣ inl c.clear.ensures ∣₁;
      places_kept = λ keeps2. c.clear-2.ensures (page_of (g.D.Device.state c.write_plan.new.device).disk.view);
      there = λ keeps2.
          let keeps = back keeps2 in
          let here = subst (λ (v : Image). IsThere v k.slot k.ledger) (sym (same keeps)) (k.there keeps) in
          subst (λ (l : LedgerState). IsThere new.disk.view k.slot l) (sym as_before) (still_there k.slot mid.disk.view new.disk.view k.ledger k.fitted.version here (c.in-Err-write_plan.ensures.writes.kept (keeps1 keeps) (ready keeps)));
      durable = λ keeps2 usable. absurd (cc usable);
    }

pub returns-in-Ok-write_plan-clause-done : goal.returns-in-Ok-write_plan-clause-done
returns-in-Ok-write_plan-clause-done g c =
    let d = g.met.D.Device in
    let k = c.args.self.now in
    let state = g.D.Device.state in
    let old = state k.device in
    let mid = state c.plan_commit.new.device in
    let only = c.plan_commit.ensures.reads.device.only in
    let states = crash_states_of g.D.Device.moment g.D.Device.possible_since in
    let up = c.if-not-self.false in
    let version = version_is c.args.banner.version c.requires.banner.version in
    let pairs = (found_under k.slot old.disk.view).pairs in
    let batch = c.args.batch.now in
    let held_by = λ (keeps : IsTrue old.honest). is_held old.size k.slot old.disk k.ledger k.top k.fitted (k.there keeps) (k.durable keeps up) k.sealed in
    let first = λ (keeps : IsTrue old.honest). starts old.size k.slot old.disk.view k.ledger k.fitted (k.there keeps) in
    let same = λ (keeps : IsTrue old.honest). let e : mid.disk.view ≡ old.disk.view = ap (λ (x : Disk). x.view) (only.disk keeps) in e in
    let sure = λ (keeps : IsTrue old.honest) (i : Image) (left : may_crash_to (states c.plan_commit.new.device) i).
    let e : i ≡ mid.disk.view = (k.durable keeps up).images i (d.crash_states_are_images k.device i keeps ((c.plan_commit.ensures.reads.device.no_new_crash_state keeps).now i left)) ∙ sym (same keeps) in e in
    let ready = λ (keeps : IsTrue old.honest).
    may_be_written old.disk.view mid.disk.view (states c.plan_commit.new.device) k.slot k.ledger c.plan_commit.new.ledger k.top c.in-Ok.plan (updated pairs batch) (held_by keeps) c.plan_commit.ensures.ledger.marks
    (c.in-Ok.ensures.planned keeps k.top pairs (held_by keeps) (first keeps) refl version).0 k.fitted.version (same keeps) (sure keeps) in
    let keeps1 = λ (keeps : IsTrue old.honest). let h : IsTrue mid.honest = subst IsTrue (sym only.same.honest) keeps in h in
    let seal = c.in-Ok.ensures.made.made.seal_is in
    record {
      done = λ keeps. ap (λ (x : Found). x.pairs) (c.in-Ok-write_plan.ensures.writes.done (keeps1 keeps) (ready keeps)).found_is ∙ (ready keeps).planned.pairs_are;
      banner = c.in-Ok.ensures.made.made.banner_is;
      still_usable = refl;
      rises = omega arith;
      generation = omega (arith, seal);
      out = same_numbers (state c.write_plan.new.device).disk.view old.disk.view 0 k.pinned;
      pins = λ keeps. pins_stay old.disk.view mid.disk.view (state c.write_plan.new.device).disk.view k.slot.root.pages k.ledger c.plan_commit.new.ledger k.pinned k.pins c.plan_commit.ensures.ledger.marks (same keeps) (c.write_plan.ensures.writes.held (keeps1 keeps) (ready keeps)) (k.pins_there keeps);
      fits = λ keeps. (length c.in-Ok.plan.pages.items, λ again. (c.in-Ok.ensures.planned keeps k.top pairs (held_by keeps) (first keeps) refl version).1, c.in-Ok.ensures.made.room);
    }

pub returns-in-Ok-write_plan-clause-counts : goal.returns-in-Ok-write_plan-clause-counts
returns-in-Ok-write_plan-clause-counts g c =
    let old = g.D.Device.state c.args.self.now.device in
    let only = c.plan_commit.ensures.reads.device.only in
    let wrote = c.in-Ok-write_plan.ensures.outcome in
    record {
      tried = record {
        honest = wrote.same.honest ∙ only.same.honest;
        reads = let a = wrote.reads in let b = c.in-Ok.ensures.reads.reads in omega (arith, a, b);
        writes = let a = wrote.writes in let b = only.writes in omega (arith, a, b);
        top = omega arith;
      };
      reads = wrote.reads ∙ c.in-Ok.ensures.reads.reads;
      writes = wrote.writes ∙ only.writes;
      work = written_less (most_levels * length c.args.batch.now) (length c.in-Ok.plan.pages.items) _ c.in-Ok.ensures.made.room c.plan_commit.ensures.work (at_most c.in-Ok-write_plan.ensures.work);
    }

pub returns-in-Ok-write_plan-clause-at_crash : goal.returns-in-Ok-write_plan-clause-at_crash
returns-in-Ok-write_plan-clause-at_crash g c =
    let d = g.met.D.Device in
    let k = c.args.self.now in
    let state = g.D.Device.state in
    let old = state k.device in
    let mid = state c.plan_commit.new.device in
    let only = c.plan_commit.ensures.reads.device.only in
    let states = crash_states_of g.D.Device.moment g.D.Device.possible_since in
    let up = c.if-not-self.false in
    let version = version_is c.args.banner.version c.requires.banner.version in
    let pairs = (found_under k.slot old.disk.view).pairs in
    let batch = c.args.batch.now in
    let held_by = λ (keeps : IsTrue old.honest). is_held old.size k.slot old.disk k.ledger k.top k.fitted (k.there keeps) (k.durable keeps up) k.sealed in
    let first = λ (keeps : IsTrue old.honest). starts old.size k.slot old.disk.view k.ledger k.fitted (k.there keeps) in
    let same = λ (keeps : IsTrue old.honest). let e : mid.disk.view ≡ old.disk.view = ap (λ (x : Disk). x.view) (only.disk keeps) in e in
    let sure = λ (keeps : IsTrue old.honest) (i : Image) (left : may_crash_to (states c.plan_commit.new.device) i).
    let e : i ≡ mid.disk.view = (k.durable keeps up).images i (d.crash_states_are_images k.device i keeps ((c.plan_commit.ensures.reads.device.no_new_crash_state keeps).now i left)) ∙ sym (same keeps) in e in
    let ready = λ (keeps : IsTrue old.honest).
    may_be_written old.disk.view mid.disk.view (states c.plan_commit.new.device) k.slot k.ledger c.plan_commit.new.ledger k.top c.in-Ok.plan (updated pairs batch) (held_by keeps) c.plan_commit.ensures.ledger.marks
    (c.in-Ok.ensures.planned keeps k.top pairs (held_by keeps) (first keeps) refl version).0 k.fitted.version (same keeps) (sure keeps) in
    let keeps1 = λ (keeps : IsTrue old.honest). let h : IsTrue mid.honest = subst IsTrue (sym only.same.honest) keeps in h in
    record {
      at_crash = λ keeps usable. adds_both (states k.device) (states c.plan_commit.new.device) (states c.write_plan.new.device) (may_crash_to (states k.device)) (IsBetween (tree_commit k.slot mid.disk.view c.in-Ok.plan.slot (ready keeps).planned.found) c.in-Ok.plan.pages.items mid.disk.view) (λ (i : Image). TreeHas i pairs k.slot.root.banner ⊎ TreeHas i (updated pairs batch) c.args.banner)
          (c.plan_commit.ensures.reads.device.no_new_crash_state keeps) (c.write_plan.ensures.writes.at_crash (keeps1 keeps) (ready keeps))
          (λ i left. inl (crash_states_have_the_tree old.disk k.slot k.ledger k.top k.fitted.version (k.there keeps) (k.durable keeps up) i (d.crash_states_are_images k.device i keeps left)))
          (λ i h. old_or_new old.disk.view k.slot c.in-Ok.plan.slot (ready keeps).planned.found c.in-Ok.plan.pages.items (updated pairs batch) c.args.banner i k.fitted.version (ready keeps).planned.plan_is.version c.in-Ok.ensures.made.made.banner_is (ready keeps).planned.pairs_are (way_again old.disk.view mid.disk.view k.slot c.in-Ok.plan.slot (ready keeps).planned.found c.in-Ok.plan.pages.items i (same keeps) h));
      no_new_crash_state = λ keeps. tt;
      no_new_crash_state_when_closed = λ keeps shut. both_flags k.usable up shut;
    }

pub returns-in-Ok-write_plan-clause-writes : goal.returns-in-Ok-write_plan-clause-writes
returns-in-Ok-write_plan-clause-writes g c =
    let d = g.met.D.Device in
    let k = c.args.self.now in
    let state = g.D.Device.state in
    let old = state k.device in
    let mid = state c.plan_commit.new.device in
    let only = c.plan_commit.ensures.reads.device.only in
    let states = crash_states_of g.D.Device.moment g.D.Device.possible_since in
    let up = c.if-not-self.false in
    let version = version_is c.args.banner.version c.requires.banner.version in
    let pairs = (found_under k.slot old.disk.view).pairs in
    let batch = c.args.batch.now in
    let held_by = λ (keeps : IsTrue old.honest). is_held old.size k.slot old.disk k.ledger k.top k.fitted (k.there keeps) (k.durable keeps up) k.sealed in
    let first = λ (keeps : IsTrue old.honest). starts old.size k.slot old.disk.view k.ledger k.fitted (k.there keeps) in
    let same = λ (keeps : IsTrue old.honest). let e : mid.disk.view ≡ old.disk.view = ap (λ (x : Disk). x.view) (only.disk keeps) in e in
    let sure = λ (keeps : IsTrue old.honest) (i : Image) (left : may_crash_to (states c.plan_commit.new.device) i).
    let e : i ≡ mid.disk.view = (k.durable keeps up).images i (d.crash_states_are_images k.device i keeps ((c.plan_commit.ensures.reads.device.no_new_crash_state keeps).now i left)) ∙ sym (same keeps) in e in
    let ready = λ (keeps : IsTrue old.honest).
    may_be_written old.disk.view mid.disk.view (states c.plan_commit.new.device) k.slot k.ledger c.plan_commit.new.ledger k.top c.in-Ok.plan (updated pairs batch) (held_by keeps) c.plan_commit.ensures.ledger.marks
    (c.in-Ok.ensures.planned keeps k.top pairs (held_by keeps) (first keeps) refl version).0 k.fitted.version (same keeps) (sure keeps) in
    let keeps1 = λ (keeps : IsTrue old.honest). let h : IsTrue mid.honest = subst IsTrue (sym only.same.honest) keeps in h in
    let stay = λ (keeps : IsTrue old.honest) (now : Image) (h : HeldPagesStay c.plan_commit.new.ledger (page_of mid.disk.view) (page_of now)).
    pinned_stay old.disk.view k.slot k.ledger k.pinned k.fitted.rest k.pins.seals (k.pins_there keeps) (k.there keeps) now (stay_now old.disk.view mid.disk.view now k.slot.root.pages k.ledger c.plan_commit.new.ledger k.pinned k.pins c.plan_commit.ensures.ledger.marks (same keeps) h (k.pins_there keeps)) in
    record {
      between = λ keeps usable.
          let planned = (c.in-Ok.ensures.planned keeps k.top pairs (held_by keeps) (first keeps) refl version) in
          let plan = tree_plan old.disk.view k.slot k.ledger k.pinned k.fitted.rest k.pins.seals (k.pins_there keeps) (k.there keeps) c.plan_commit.new.ledger k.top (λ n. MayNeed k.slot old batch (SoManyPages n)) (updated pairs batch) c.args.banner c.in-Ok.plan c.plan_commit.ensures.ledger.marks (held_by keeps) planned.0 c.in-Ok.ensures.made.made.banner_is (λ again. planned.1) in
          one_plan old.disk.view mid.disk.view (states k.device) (states c.plan_commit.new.device) (states c.write_plan.new.device) k.slot k.top k.pinned (λ n. MayNeed k.slot old batch (SoManyPages n)) (updated pairs batch) c.args.banner plan (same keeps)
          (c.plan_commit.ensures.reads.device.no_new_crash_state keeps) (c.write_plan.ensures.writes.at_crash (keeps1 keeps) (ready keeps));
      unheld = λ keeps usable. (
        stay keeps (state c.write_plan.new.device).disk.view (c.write_plan.ensures.writes.held (keeps1 keeps) (ready keeps)),
        adds_both (states k.device) (states c.plan_commit.new.device) (states c.write_plan.new.device) (may_crash_to (states k.device)) (IsBetween (tree_commit k.slot mid.disk.view c.in-Ok.plan.slot (ready keeps).planned.found) c.in-Ok.plan.pages.items mid.disk.view) (PinnedPagesStay k.pinned old.disk.view)
            (c.plan_commit.ensures.reads.device.no_new_crash_state keeps) (c.write_plan.ensures.writes.at_crash (keeps1 keeps) (ready keeps))
            (λ i left n keep. ap (λ (v : Image). page_of v n) ((k.durable keeps up).images i (d.crash_states_are_images k.device i keeps left)))
            (λ i h. stay keeps i (held_pages_stay mid.disk.view (states c.plan_commit.new.device) k.slot c.plan_commit.new.ledger c.in-Ok.plan (ready keeps) i h)),
      );
      written = (length c.in-Ok.plan.pages.items, λ keeps again. (c.in-Ok.ensures.planned keeps k.top pairs (held_by keeps) (first keeps) refl version).1, written (length c.in-Ok.plan.pages.items) only.made c.in-Ok-write_plan.ensures.work);
    }

pub returns-clause-fault : goal.returns-clause-fault
returns-clause-fault g c =
    let d = g.met.D.Device in
    let k = c.args.self.now in
    let state = g.D.Device.state in
    let old = state k.device in
    let mid = state c.plan_commit.new.device in
    let only = c.plan_commit.ensures.reads.device.only in
    let states = crash_states_of g.D.Device.moment g.D.Device.possible_since in
    let up = c.if-not-self.false in
    let version = version_is c.args.banner.version c.requires.banner.version in
    let pairs = (found_under k.slot old.disk.view).pairs in
    let batch = c.args.batch.now in
    let held_by = λ (keeps : IsTrue old.honest). is_held old.size k.slot old.disk k.ledger k.top k.fitted (k.there keeps) (k.durable keeps up) k.sealed in
    let first = λ (keeps : IsTrue old.honest). starts old.size k.slot old.disk.view k.ledger k.fitted (k.there keeps) in
    let same = λ (keeps : IsTrue old.honest). let e : mid.disk.view ≡ old.disk.view = ap (λ (x : Disk). x.view) (only.disk keeps) in e in
    let sure = λ (keeps : IsTrue old.honest) (i : Image) (left : may_crash_to (states c.plan_commit.new.device) i).
    let e : i ≡ mid.disk.view = (k.durable keeps up).images i (d.crash_states_are_images k.device i keeps ((c.plan_commit.ensures.reads.device.no_new_crash_state keeps).now i left)) ∙ sym (same keeps) in e in
    let ready = λ (keeps : IsTrue old.honest).
    may_be_written old.disk.view mid.disk.view (states c.plan_commit.new.device) k.slot k.ledger c.plan_commit.new.ledger k.top c.in-Ok.plan (updated pairs batch) (held_by keeps) c.plan_commit.ensures.ledger.marks
    (c.in-Ok.ensures.planned keeps k.top pairs (held_by keeps) (first keeps) refl version).0 k.fitted.version (same keeps) (sure keeps) in
    let keeps1 = λ (keeps : IsTrue old.honest). let h : IsTrue mid.honest = subst IsTrue (sym only.same.honest) keeps in h in
    let new = state c.write_plan.new.device in
    record {
      cause = record {
        pairs = λ keeps.
            let here = subst (λ (v : Image). IsThere v k.slot k.ledger) (sym (same keeps)) (k.there keeps) in
            ap (λ (x : Found). x.pairs) (still_under k.slot mid.disk.view new.disk.view k.ledger k.fitted.version here (c.in-Err-write_plan.ensures.writes.kept (keeps1 keeps) (ready keeps))) ∙ ap (λ (v : Image). (found_under k.slot v).pairs) (same keeps);
        banner = refl;
        shut = refl;
        generation = refl;
        free = ap free_count (c.in-Err-write_plan.ensures.ledger.abandoned_is ∙ abandoned_again k.ledger c.plan_commit.new.ledger c.plan_commit.ensures.ledger.marks k.fitted.rest.unmarked);
        height = refl;
        keys = refl;
        out = same_numbers (state c.write_plan.new.device).disk.view old.disk.view 0 k.pinned;
        pins = λ keeps. pins_stay old.disk.view mid.disk.view (state c.write_plan.new.device).disk.view k.slot.root.pages k.ledger c.plan_commit.new.ledger k.pinned k.pins c.plan_commit.ensures.ledger.marks (same keeps) (c.write_plan.ensures.writes.held (keeps1 keeps) (ready keeps)) (k.pins_there keeps);
        cause = λ usable. c.in-Err-write_plan.ensures.outcome.writes ∙ ap counted only.writes;
        top = inr refl;
      };
      need = λ usable. both_flags k.usable up (sym usable);
      tight = λ keeps usable shut. (length c.in-Ok.plan.pages.items, λ again. (c.in-Ok.ensures.planned keeps k.top pairs (held_by keeps) (first keeps) refl version).1, c.in-Ok.ensures.made.room);
    }

pub returns-clause-counts : goal.returns-clause-counts
returns-clause-counts g c =
    let k = c.args.self.now in
    let old = g.D.Device.state k.device in
    let mid = g.D.Device.state c.plan_commit.new.device in
    let new = g.D.Device.state c.write_plan.new.device in
    let only = c.plan_commit.ensures.reads.device.only in
    let wrote = c.in-Err-write_plan.ensures.outcome in
    record {
      tried = record {
        honest = wrote.same.honest ∙ only.same.honest;
        reads = let a = wrote.reads in let b = c.in-Ok.ensures.reads.reads in omega (arith, a, b);
        writes = let a = wrote.writes in let b = only.writes in let r = counted_rises mid.failed_writes in omega (arith, a, b, r);
        top = omega arith;
      };
      reads = wrote.reads ∙ c.in-Ok.ensures.reads.reads;
      writes = subst (λ (u : Bool). new.failed_writes ≡ writes_after u Failed old.failed_writes) (sym c.if-not-self.false) (wrote.writes ∙ ap counted only.writes);
      work = written_less (most_levels * length c.args.batch.now) (length c.in-Ok.plan.pages.items) _ c.in-Ok.ensures.made.room c.plan_commit.ensures.work (most_of c.write_plan.result c.write_plan.ensures.work);
    }

pub returns-clause-at_crash : goal.returns-clause-at_crash
returns-clause-at_crash g c =
    let d = g.met.D.Device in
    let k = c.args.self.now in
    let state = g.D.Device.state in
    let old = state k.device in
    let mid = state c.plan_commit.new.device in
    let only = c.plan_commit.ensures.reads.device.only in
    let states = crash_states_of g.D.Device.moment g.D.Device.possible_since in
    let up = c.if-not-self.false in
    let version = version_is c.args.banner.version c.requires.banner.version in
    let pairs = (found_under k.slot old.disk.view).pairs in
    let batch = c.args.batch.now in
    let held_by = λ (keeps : IsTrue old.honest). is_held old.size k.slot old.disk k.ledger k.top k.fitted (k.there keeps) (k.durable keeps up) k.sealed in
    let first = λ (keeps : IsTrue old.honest). starts old.size k.slot old.disk.view k.ledger k.fitted (k.there keeps) in
    let same = λ (keeps : IsTrue old.honest). let e : mid.disk.view ≡ old.disk.view = ap (λ (x : Disk). x.view) (only.disk keeps) in e in
    let sure = λ (keeps : IsTrue old.honest) (i : Image) (left : may_crash_to (states c.plan_commit.new.device) i).
    let e : i ≡ mid.disk.view = (k.durable keeps up).images i (d.crash_states_are_images k.device i keeps ((c.plan_commit.ensures.reads.device.no_new_crash_state keeps).now i left)) ∙ sym (same keeps) in e in
    let ready = λ (keeps : IsTrue old.honest).
    may_be_written old.disk.view mid.disk.view (states c.plan_commit.new.device) k.slot k.ledger c.plan_commit.new.ledger k.top c.in-Ok.plan (updated pairs batch) (held_by keeps) c.plan_commit.ensures.ledger.marks
    (c.in-Ok.ensures.planned keeps k.top pairs (held_by keeps) (first keeps) refl version).0 k.fitted.version (same keeps) (sure keeps) in
    let keeps1 = λ (keeps : IsTrue old.honest). let h : IsTrue mid.honest = subst IsTrue (sym only.same.honest) keeps in h in
    record {
      at_crash = λ keeps usable. adds_both (states k.device) (states c.plan_commit.new.device) (states c.write_plan.new.device) (may_crash_to (states k.device)) (IsBetween (tree_commit k.slot mid.disk.view c.in-Ok.plan.slot (ready keeps).planned.found) c.in-Ok.plan.pages.items mid.disk.view) (λ (i : Image). TreeHas i pairs k.slot.root.banner ⊎ TreeHas i (updated pairs batch) c.args.banner)
          (c.plan_commit.ensures.reads.device.no_new_crash_state keeps) (c.write_plan.ensures.writes.at_crash (keeps1 keeps) (ready keeps))
          (λ i left. inl (crash_states_have_the_tree old.disk k.slot k.ledger k.top k.fitted.version (k.there keeps) (k.durable keeps up) i (d.crash_states_are_images k.device i keeps left)))
          (λ i h. old_or_new old.disk.view k.slot c.in-Ok.plan.slot (ready keeps).planned.found c.in-Ok.plan.pages.items (updated pairs batch) c.args.banner i k.fitted.version (ready keeps).planned.plan_is.version c.in-Ok.ensures.made.made.banner_is (ready keeps).planned.pairs_are (way_again old.disk.view mid.disk.view k.slot c.in-Ok.plan.slot (ready keeps).planned.found c.in-Ok.plan.pages.items i (same keeps) h));
      no_new_crash_state = λ keeps usable. both_flags false usable refl;
      no_new_crash_state_when_closed = λ keeps shut. both_flags k.usable up shut;
    }

pub returns-clause-writes : goal.returns-clause-writes
returns-clause-writes g c =
    let d = g.met.D.Device in
    let k = c.args.self.now in
    let state = g.D.Device.state in
    let old = state k.device in
    let mid = state c.plan_commit.new.device in
    let only = c.plan_commit.ensures.reads.device.only in
    let states = crash_states_of g.D.Device.moment g.D.Device.possible_since in
    let up = c.if-not-self.false in
    let version = version_is c.args.banner.version c.requires.banner.version in
    let pairs = (found_under k.slot old.disk.view).pairs in
    let batch = c.args.batch.now in
    let held_by = λ (keeps : IsTrue old.honest). is_held old.size k.slot old.disk k.ledger k.top k.fitted (k.there keeps) (k.durable keeps up) k.sealed in
    let first = λ (keeps : IsTrue old.honest). starts old.size k.slot old.disk.view k.ledger k.fitted (k.there keeps) in
    let same = λ (keeps : IsTrue old.honest). let e : mid.disk.view ≡ old.disk.view = ap (λ (x : Disk). x.view) (only.disk keeps) in e in
    let sure = λ (keeps : IsTrue old.honest) (i : Image) (left : may_crash_to (states c.plan_commit.new.device) i).
    let e : i ≡ mid.disk.view = (k.durable keeps up).images i (d.crash_states_are_images k.device i keeps ((c.plan_commit.ensures.reads.device.no_new_crash_state keeps).now i left)) ∙ sym (same keeps) in e in
    let ready = λ (keeps : IsTrue old.honest).
    may_be_written old.disk.view mid.disk.view (states c.plan_commit.new.device) k.slot k.ledger c.plan_commit.new.ledger k.top c.in-Ok.plan (updated pairs batch) (held_by keeps) c.plan_commit.ensures.ledger.marks
    (c.in-Ok.ensures.planned keeps k.top pairs (held_by keeps) (first keeps) refl version).0 k.fitted.version (same keeps) (sure keeps) in
    let keeps1 = λ (keeps : IsTrue old.honest). let h : IsTrue mid.honest = subst IsTrue (sym only.same.honest) keeps in h in
    let stay = λ (keeps : IsTrue old.honest) (now : Image) (h : HeldPagesStay c.plan_commit.new.ledger (page_of mid.disk.view) (page_of now)).
    pinned_stay old.disk.view k.slot k.ledger k.pinned k.fitted.rest k.pins.seals (k.pins_there keeps) (k.there keeps) now (stay_now old.disk.view mid.disk.view now k.slot.root.pages k.ledger c.plan_commit.new.ledger k.pinned k.pins c.plan_commit.ensures.ledger.marks (same keeps) h (k.pins_there keeps)) in
    record {
      between = λ keeps usable.
          let planned = (c.in-Ok.ensures.planned keeps k.top pairs (held_by keeps) (first keeps) refl version) in
          let plan = tree_plan old.disk.view k.slot k.ledger k.pinned k.fitted.rest k.pins.seals (k.pins_there keeps) (k.there keeps) c.plan_commit.new.ledger k.top (λ n. MayNeed k.slot old batch (SoManyPages n)) (updated pairs batch) c.args.banner c.in-Ok.plan c.plan_commit.ensures.ledger.marks (held_by keeps) planned.0 c.in-Ok.ensures.made.made.banner_is (λ again. planned.1) in
          one_plan old.disk.view mid.disk.view (states k.device) (states c.plan_commit.new.device) (states c.write_plan.new.device) k.slot k.top k.pinned (λ n. MayNeed k.slot old batch (SoManyPages n)) (updated pairs batch) c.args.banner plan (same keeps)
          (c.plan_commit.ensures.reads.device.no_new_crash_state keeps) (c.write_plan.ensures.writes.at_crash (keeps1 keeps) (ready keeps));
      unheld = λ keeps usable. (
        stay keeps (state c.write_plan.new.device).disk.view (c.write_plan.ensures.writes.held (keeps1 keeps) (ready keeps)),
        adds_both (states k.device) (states c.plan_commit.new.device) (states c.write_plan.new.device) (may_crash_to (states k.device)) (IsBetween (tree_commit k.slot mid.disk.view c.in-Ok.plan.slot (ready keeps).planned.found) c.in-Ok.plan.pages.items mid.disk.view) (PinnedPagesStay k.pinned old.disk.view)
            (c.plan_commit.ensures.reads.device.no_new_crash_state keeps) (c.write_plan.ensures.writes.at_crash (keeps1 keeps) (ready keeps))
            (λ i left n keep. ap (λ (v : Image). page_of v n) ((k.durable keeps up).images i (d.crash_states_are_images k.device i keeps left)))
            (λ i h. stay keeps i (held_pages_stay mid.disk.view (states c.plan_commit.new.device) k.slot c.plan_commit.new.ledger c.in-Ok.plan (ready keeps) i h)),
      );
      written = tt;
    }
