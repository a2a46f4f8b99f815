use Rattle.std.proofs.Common.{Bool, false, ◌≡◌, inl, inr, ℕ, List, length, refl, sym, ap, subst, ◌∙◌, arith, IsTrue}
use Rattle.common_types.specs.Counts.{counted, counted_rises}
use Rattle.common_types.specs.CrashStates.{may_crash_to, no_new_crash_state, adds_both}
use Rattle.sector_device.specs.Disk.{Disk}
use Rattle.page_alloc.specs.LedgerState.{LedgerState, free_count}
use Rattle.page_store.specs.Sectors.{Image, page_of}
use Rattle.page_store.specs.Commit.{IsBetween}
use Rattle.page_store.specs.Pages.{Pair}
use Rattle.page_store.specs.Content.{Found}
use Rattle.tree_nodes.specs.Growth.{owned_under}
use Rattle.tree_loading.specs.Filled.{filled}
use Rattle.page_store.specs.Steps.{crash_states_of}
use Rattle.page_store.specs.Counting.{writes_after}
use Rattle.page_store.specs.StoreState.{HasStayed}
use Rattle.page_store.specs.declared.fault.KeeperFault.TheVariants.{Failed}
use Rattle.page_store.proofs.Outcomes.{both_flags}
use Rattle.cow_tree.specs.PinnedTrees.{ArePinned, PinnedTreesAreKept, HeldPagesStay, PinnedPagesStay, PinnedStay}
use Rattle.cow_tree.specs.Plans.{tree_commit}
use Rattle.cow_tree.specs.TreeState.{FitsTree, IsThere, found_under, tree_holding}
use Rattle.cow_tree.specs.Compacting.{MayNeedFilled}
use Rattle.cow_tree.specs.Committed.{TreeHas}
use Rattle.cow_tree.specs.KeeperLaws.{crash_states_have_the_tree}
use Rattle.cow_tree.proofs.KeeperReads.{has_read, needs_again, fills_again}
use Rattle.cow_tree.proofs.PinnedTrees.{same_numbers}
use Rattle.cow_tree.proofs.PinsCommitted.{pins_done, pins_stay, kept_still, kept_done, stay_now}
use Rattle.cow_tree.proofs.TreePlans.{pinned_stay, tree_plan, way_again, one_plan}
use Rattle.cow_tree.proofs.Taken.{abandoned_again}
use Rattle.cow_tree.proofs.CommitsWritten.{adds_weaker, old_or_new, held_pages_stay}
use Rattle.cow_tree.proofs.TreeCommits.{is_held, may_be_written, compact_fault, fill_writes_none, either, reads_rise, fitted_now, still_under, still_there}
use Rattle.cow_tree.proofs.WorkDone.{written, enough, only_read}
use Rattle.cow_tree.proofs.compact_calls.TreeKeeperCompactKeeper.compact.Goals as goal

pub returns-then-self-clause-at_crash : goal.returns-then-self-clause-at_crash
returns-then-self-clause-at_crash g c = record {
  at_crash = λ keeps up.
      let d = g.met.D.Device in
      let k = c.args.self.now in
      let view = (g.D.Device.state k.device).disk.view in
      let states = crash_states_of g.D.Device.moment g.D.Device.possible_since k.device in
      adds_weaker states states (may_crash_to states) (λ (i : Image). TreeHas i (found_under k.slot view).pairs k.slot.root.banner)
      (λ i left. crash_states_have_the_tree (g.D.Device.state k.device).disk k.slot k.ledger k.top k.fitted.version (k.there keeps) (k.durable keeps up) i (d.crash_states_are_images k.device i keeps left)) (no_new_crash_state states);
  no_new_crash_state = λ keeps usable. no_new_crash_state (crash_states_of g.D.Device.moment g.D.Device.possible_since c.args.self.now.device);
  no_new_crash_state_when_closed = λ keeps shut. no_new_crash_state (crash_states_of g.D.Device.moment g.D.Device.possible_since c.args.self.now.device);
}

pub returns-in-Err-clause-fault : goal.returns-in-Err-clause-fault
returns-in-Err-clause-fault g c = record {
  cause =
      let d = g.met.D.Device in
      let k = c.args.self.now in
      let state = g.D.Device.state in
      let old = state k.device in
      let mid = state c.plan_compaction.new.device in
      let only = c.plan_compaction.ensures.reads.device.only in
      let states = crash_states_of g.D.Device.moment g.D.Device.possible_since in
      let up = c.if-not-self.false in
      let version = k.fitted.version in
      let pairs = (found_under k.slot old.disk.view).pairs in
      let held_by = λ (keeps : IsTrue old.honest). is_held old.size k.slot old.disk k.ledger k.top k.fitted (k.there keeps) (k.durable keeps up) k.sealed in
      let rise = reads_rise c.in-Err.fault old.failed_reads mid.failed_reads c.in-Err.ensures.reads.reads in
      let stayed = subst (λ (l : LedgerState). HasStayed (tree_holding old k.slot k.ledger k.top k.usable k.pinned) (tree_holding mid k.slot l k.top k.usable k.pinned)) (sym c.in-Err.ensures.ledger.refused) (has_read old mid k.slot k.ledger k.top k.usable k.pinned only rise).same in
      compact_fault (tree_holding old k.slot k.ledger k.top k.usable k.pinned) (tree_holding mid k.slot c.plan_compaction.new.ledger k.top k.usable k.pinned) (MayNeedFilled k.slot old) _ _ c.in-Err.fault stayed c.in-Err.ensures.reads.reads
      (λ keeps. c.in-Err.ensures.planned keeps k.top (held_by keeps) (k.there keeps) refl) c.in-Err.ensures.fault (λ n f keeps again. f keeps (k.there keeps));
  need = λ usable.
      let old = g.D.Device.state c.args.self.now.device in
      let mid = g.D.Device.state c.plan_compaction.new.device in
      let only = c.plan_compaction.ensures.reads.device.only in
      (needs_again old mid c.args.self.now.slot only, fills_again old mid c.args.self.now.slot only);
  tight = λ keeps usable shut. both_flags c.args.self.now.usable c.if-not-self.false shut;
}

pub returns-in-Err-clause-counts : goal.returns-in-Err-clause-counts
returns-in-Err-clause-counts g c = record {
  tried =
      let old = g.D.Device.state c.args.self.now.device in
      let mid = g.D.Device.state c.plan_compaction.new.device in
      let only = c.plan_compaction.ensures.reads.device.only in
      record {
        honest = only.same.honest;
        reads = reads_rise c.in-Err.fault old.failed_reads mid.failed_reads c.in-Err.ensures.reads.reads;
        writes = let e = only.writes in omega (arith, e);
        top = omega arith;
      };
  reads = c.in-Err.ensures.reads.reads;
  writes =
      let old = g.D.Device.state c.args.self.now.device in
      let mid = g.D.Device.state c.plan_compaction.new.device in
      fill_writes_none c.args.self.now.usable _ _ c.in-Err.fault old.failed_writes mid.failed_writes c.in-Err.ensures.fault c.plan_compaction.ensures.reads.device.only.writes;
  work = only_read _ c.plan_compaction.ensures.reads.device.only.made;
}

pub returns-in-Err-clause-at_crash : goal.returns-in-Err-clause-at_crash
returns-in-Err-clause-at_crash g c = record {
  at_crash = λ keeps usable.
      let d = g.met.D.Device in
      let k = c.args.self.now in
      let state = g.D.Device.state in
      let old = state k.device in
      let mid = state c.plan_compaction.new.device in
      let only = c.plan_compaction.ensures.reads.device.only in
      let states = crash_states_of g.D.Device.moment g.D.Device.possible_since in
      let up = c.if-not-self.false in
      let version = k.fitted.version in
      let pairs = (found_under k.slot old.disk.view).pairs in
      adds_weaker (states k.device) (states c.plan_compaction.new.device) (may_crash_to (states k.device)) (λ (i : Image). TreeHas i pairs k.slot.root.banner)
      (λ i left. crash_states_have_the_tree old.disk k.slot k.ledger k.top k.fitted.version (k.there keeps) (k.durable keeps up) i (d.crash_states_are_images k.device i keeps left)) (c.plan_compaction.ensures.reads.device.no_new_crash_state keeps);
  no_new_crash_state = λ keeps usable. c.plan_compaction.ensures.reads.device.no_new_crash_state keeps;
  no_new_crash_state_when_closed = λ keeps shut. c.plan_compaction.ensures.reads.device.no_new_crash_state keeps;
}

pub write_plan-requires-clause-planned : goal.write_plan-requires-clause-planned
write_plan-requires-clause-planned g c = λ keeps2.
    let d = g.met.D.Device in
    let k = c.args.self.now in
    let state = g.D.Device.state in
    let old = state k.device in
    let mid = state c.plan_compaction.new.device in
    let only = c.plan_compaction.ensures.reads.device.only in
    let states = crash_states_of g.D.Device.moment g.D.Device.possible_since in
    let up = c.if-not-self.false in
    let version = k.fitted.version in
    let pairs = (found_under k.slot old.disk.view).pairs in
    let held_by = λ (keeps : IsTrue old.honest). is_held old.size k.slot old.disk k.ledger k.top k.fitted (k.there keeps) (k.durable keeps up) k.sealed in
    let same = λ (keeps : IsTrue old.honest). let e : mid.disk.view ≡ old.disk.view = ap (λ (x : Disk). x.view) (only.disk keeps) in e in
    let sure = λ (keeps : IsTrue old.honest) (i : Image) (left : may_crash_to (states c.plan_compaction.new.device) i).
    let e : i ≡ mid.disk.view = (k.durable keeps up).images i (d.crash_states_are_images k.device i keeps ((c.plan_compaction.ensures.reads.device.no_new_crash_state keeps).now i left)) ∙ sym (same keeps) in e in
    let ready = λ (keeps : IsTrue old.honest).
    may_be_written old.disk.view mid.disk.view (states c.plan_compaction.new.device) k.slot k.ledger c.plan_compaction.new.ledger k.top c.in-Ok.plan pairs (held_by keeps) c.plan_compaction.ensures.ledger.marks
    (c.in-Ok.ensures.planned keeps k.top (held_by keeps) (k.there keeps) refl).0.planned k.fitted.version (same keeps) (sure keeps) in
    ready (subst IsTrue only.same.honest keeps2)

pub invariant_of-self-in-Ok-write_plan : goal.invariant_of-self-in-Ok-write_plan
invariant_of-self-in-Ok-write_plan g c =
    let d = g.met.D.Device in
    let k = c.args.self.now in
    let state = g.D.Device.state in
    let old = state k.device in
    let mid = state c.plan_compaction.new.device in
    let only = c.plan_compaction.ensures.reads.device.only in
    let states = crash_states_of g.D.Device.moment g.D.Device.possible_since in
    let up = c.if-not-self.false in
    let version = k.fitted.version in
    let pairs = (found_under k.slot old.disk.view).pairs in
    let held_by = λ (keeps : IsTrue old.honest). is_held old.size k.slot old.disk k.ledger k.top k.fitted (k.there keeps) (k.durable keeps up) k.sealed in
    let same = λ (keeps : IsTrue old.honest). let e : mid.disk.view ≡ old.disk.view = ap (λ (x : Disk). x.view) (only.disk keeps) in e in
    let sure = λ (keeps : IsTrue old.honest) (i : Image) (left : may_crash_to (states c.plan_compaction.new.device) i).
    let e : i ≡ mid.disk.view = (k.durable keeps up).images i (d.crash_states_are_images k.device i keeps ((c.plan_compaction.ensures.reads.device.no_new_crash_state keeps).now i left)) ∙ sym (same keeps) in e in
    let ready = λ (keeps : IsTrue old.honest).
    may_be_written old.disk.view mid.disk.view (states c.plan_compaction.new.device) k.slot k.ledger c.plan_compaction.new.ledger k.top c.in-Ok.plan pairs (held_by keeps) c.plan_compaction.ensures.ledger.marks
    (c.in-Ok.ensures.planned keeps k.top (held_by keeps) (k.there keeps) refl).0.planned k.fitted.version (same keeps) (sure keeps) in
    let new = state c.write_plan.new.device in
    let wrote = c.write_plan.ensures.outcome in
    let keeps1 = λ (keeps : IsTrue old.honest). let h : IsTrue mid.honest = subst IsTrue (sym only.same.honest) keeps in h in
    let back = λ (keeps2 : IsTrue new.honest). let h : IsTrue old.honest = subst IsTrue (wrote.same.honest ∙ only.same.honest) keeps2 in h in
    let done = λ (keeps : IsTrue old.honest). c.in-Ok-write_plan.ensures.writes.done (keeps1 keeps) (ready keeps) in
    let seal = c.in-Ok.ensures.made.made.seal_is in
    record {
      fitted = subst (λ (l : LedgerState). FitsTree new.size c.in-Ok.plan.slot l) (sym c.in-Ok-write_plan.ensures.ledger.advanced_is)
          (fitted_now old.size new.size k.slot k.ledger c.plan_compaction.new.ledger _ k.slot.root.banner c.in-Ok.plan k.fitted c.plan_compaction.ensures.ledger.marks c.in-Ok.ensures.made.made version k.fitted.port (wrote.same.size ∙ only.same.size));
      sealed = omega (arith, seal);
      pins = subst (λ (l : LedgerState). ArePinned c.in-Ok.plan.slot.root.pages l k.pinned) (sym c.in-Ok-write_plan.ensures.ledger.advanced_is)
          (pins_done k.slot.root.pages c.in-Ok.plan.slot.root.pages c.in-Ok.plan.slot.seal k.ledger c.plan_compaction.new.ledger k.pinned c.plan_compaction.ensures.ledger.marks c.in-Ok.ensures.made.made.size k.pins);
      pins_there = λ keeps2.
          let keeps = back keeps2 in
          subst (λ (l : LedgerState). PinnedTreesAreKept new.disk.view l k.pinned) (sym c.in-Ok-write_plan.ensures.ledger.advanced_is)
          (kept_done old.disk.view mid.disk.view new.disk.view k.slot.root.pages k.ledger c.plan_compaction.new.ledger k.pinned k.pins c.plan_compaction.ensures.ledger.marks (same keeps) (c.write_plan.ensures.writes.held (keeps1 keeps) (ready keeps)) (k.pins_there keeps) c.in-Ok.plan.slot.seal
          (subst (λ (l : LedgerState). PinnedStay c.plan_compaction.new.ledger l) c.in-Ok-write_plan.ensures.ledger.advanced_is c.in-Ok-write_plan.ensures.ledger.pinned));
      leaf = λ keeps2. ∣ inl c.clear.ensures ∣₁;
      places_kept = λ keeps2. c.clear-2.ensures (page_of (g.D.Device.state c.write_plan.new.device).disk.view);
      there = λ keeps2. (done (back keeps2)).there;
      durable = λ keeps2 usable. record {
        images = λ i image. (done (back keeps2)).all i (d.each_image_is_a_crash_state c.write_plan.new.device i keeps2 image);
        current_is = (done (back keeps2)).current_is;
        seals = let s = (done (back keeps2)).seals in omega (arith, s, seal);
      };
    }

pub returns-in-Ok-write_plan-clause-done : goal.returns-in-Ok-write_plan-clause-done
returns-in-Ok-write_plan-clause-done g c = record {
  done =
      let d = g.met.D.Device in
      let k = c.args.self.now in
      let state = g.D.Device.state in
      let old = state k.device in
      let mid = state c.plan_compaction.new.device in
      let only = c.plan_compaction.ensures.reads.device.only in
      let states = crash_states_of g.D.Device.moment g.D.Device.possible_since in
      let up = c.if-not-self.false in
      let version = k.fitted.version in
      let pairs = (found_under k.slot old.disk.view).pairs in
      let held_by = λ (keeps : IsTrue old.honest). is_held old.size k.slot old.disk k.ledger k.top k.fitted (k.there keeps) (k.durable keeps up) k.sealed in
      let same = λ (keeps : IsTrue old.honest). let e : mid.disk.view ≡ old.disk.view = ap (λ (x : Disk). x.view) (only.disk keeps) in e in
      let sure = λ (keeps : IsTrue old.honest) (i : Image) (left : may_crash_to (states c.plan_compaction.new.device) i).
      let e : i ≡ mid.disk.view = (k.durable keeps up).images i (d.crash_states_are_images k.device i keeps ((c.plan_compaction.ensures.reads.device.no_new_crash_state keeps).now i left)) ∙ sym (same keeps) in e in
      let ready = λ (keeps : IsTrue old.honest).
      may_be_written old.disk.view mid.disk.view (states c.plan_compaction.new.device) k.slot k.ledger c.plan_compaction.new.ledger k.top c.in-Ok.plan pairs (held_by keeps) c.plan_compaction.ensures.ledger.marks
      (c.in-Ok.ensures.planned keeps k.top (held_by keeps) (k.there keeps) refl).0.planned k.fitted.version (same keeps) (sure keeps) in
      let keeps1 = λ (keeps : IsTrue old.honest). let h : IsTrue mid.honest = subst IsTrue (sym only.same.honest) keeps in h in
      record {
        pairs = λ keeps. ap (λ (x : Found). x.pairs) (c.in-Ok-write_plan.ensures.writes.done (keeps1 keeps) (ready keeps)).found_is ∙ (ready keeps).planned.pairs_are;
        banner = c.in-Ok.ensures.made.made.banner_is;
        usable = refl;
        generation = c.in-Ok.ensures.made.made.seal_is;
        top = refl;
        keys = c.in-Ok.ensures.keys;
        out = same_numbers (state c.write_plan.new.device).disk.view old.disk.view 0 k.pinned;
        pins = λ keeps. pins_stay old.disk.view mid.disk.view (state c.write_plan.new.device).disk.view k.slot.root.pages k.ledger c.plan_compaction.new.ledger k.pinned k.pins c.plan_compaction.ensures.ledger.marks (same keeps) (c.write_plan.ensures.writes.held (keeps1 keeps) (ready keeps)) (k.pins_there keeps);
      };
  filled = λ keeps.
      let d = g.met.D.Device in
      let k = c.args.self.now in
      let state = g.D.Device.state in
      let old = state k.device in
      let mid = state c.plan_compaction.new.device in
      let only = c.plan_compaction.ensures.reads.device.only in
      let states = crash_states_of g.D.Device.moment g.D.Device.possible_since in
      let up = c.if-not-self.false in
      let version = k.fitted.version in
      let pairs = (found_under k.slot old.disk.view).pairs in
      let held_by = λ (keeps : IsTrue old.honest). is_held old.size k.slot old.disk k.ledger k.top k.fitted (k.there keeps) (k.durable keeps up) k.sealed in
      let same = λ (keeps : IsTrue old.honest). let e : mid.disk.view ≡ old.disk.view = ap (λ (x : Disk). x.view) (only.disk keeps) in e in
      let sure = λ (keeps : IsTrue old.honest) (i : Image) (left : may_crash_to (states c.plan_compaction.new.device) i).
      let e : i ≡ mid.disk.view = (k.durable keeps up).images i (d.crash_states_are_images k.device i keeps ((c.plan_compaction.ensures.reads.device.no_new_crash_state keeps).now i left)) ∙ sym (same keeps) in e in
      let ready = λ (keeps : IsTrue old.honest).
      may_be_written old.disk.view mid.disk.view (states c.plan_compaction.new.device) k.slot k.ledger c.plan_compaction.new.ledger k.top c.in-Ok.plan pairs (held_by keeps) c.plan_compaction.ensures.ledger.marks
      (c.in-Ok.ensures.planned keeps k.top (held_by keeps) (k.there keeps) refl).0.planned k.fitted.version (same keeps) (sure keeps) in
      let keeps1 = λ (keeps : IsTrue old.honest). let h : IsTrue mid.honest = subst IsTrue (sym only.same.honest) keeps in h in
      let fill = (c.in-Ok.ensures.planned keeps k.top (held_by keeps) (k.there keeps) refl).0 in
      let done = c.in-Ok-write_plan.ensures.writes.done (keeps1 keeps) (ready keeps) in
      let still = ap (λ (x : Found). x.pairs) done.found_is ∙ (ready keeps).planned.pairs_are in
      record {
        levels = fill.levels ∙ ap (λ (l : List Pair). (filled l).height) (sym still);
        pages = ap (λ (x : Found). length x.pages) done.found_is ∙ fill.pages ∙ ap (λ (l : List Pair). owned_under (filled l).root) (sym still);
      };
  fits = λ keeps.
      let k = c.args.self.now in
      let old = g.D.Device.state k.device in
      let up = c.if-not-self.false in
      let held_by = is_held old.size k.slot old.disk k.ledger k.top k.fitted (k.there keeps) (k.durable keeps up) k.sealed in
      let room = (c.in-Ok.ensures.planned keeps k.top held_by (k.there keeps) refl).1 in
      (length c.in-Ok.plan.pages.items, λ again. room, c.in-Ok.ensures.made.room);
}

pub returns-in-Ok-write_plan-clause-at_crash : goal.returns-in-Ok-write_plan-clause-at_crash
returns-in-Ok-write_plan-clause-at_crash g c = record {
  at_crash = λ keeps usable.
      let d = g.met.D.Device in
      let k = c.args.self.now in
      let state = g.D.Device.state in
      let old = state k.device in
      let mid = state c.plan_compaction.new.device in
      let only = c.plan_compaction.ensures.reads.device.only in
      let states = crash_states_of g.D.Device.moment g.D.Device.possible_since in
      let up = c.if-not-self.false in
      let version = k.fitted.version in
      let pairs = (found_under k.slot old.disk.view).pairs in
      let held_by = λ (keeps : IsTrue old.honest). is_held old.size k.slot old.disk k.ledger k.top k.fitted (k.there keeps) (k.durable keeps up) k.sealed in
      let same = λ (keeps : IsTrue old.honest). let e : mid.disk.view ≡ old.disk.view = ap (λ (x : Disk). x.view) (only.disk keeps) in e in
      let sure = λ (keeps : IsTrue old.honest) (i : Image) (left : may_crash_to (states c.plan_compaction.new.device) i).
      let e : i ≡ mid.disk.view = (k.durable keeps up).images i (d.crash_states_are_images k.device i keeps ((c.plan_compaction.ensures.reads.device.no_new_crash_state keeps).now i left)) ∙ sym (same keeps) in e in
      let ready = λ (keeps : IsTrue old.honest).
      may_be_written old.disk.view mid.disk.view (states c.plan_compaction.new.device) k.slot k.ledger c.plan_compaction.new.ledger k.top c.in-Ok.plan pairs (held_by keeps) c.plan_compaction.ensures.ledger.marks
      (c.in-Ok.ensures.planned keeps k.top (held_by keeps) (k.there keeps) refl).0.planned k.fitted.version (same keeps) (sure keeps) in
      let keeps1 = λ (keeps : IsTrue old.honest). let h : IsTrue mid.honest = subst IsTrue (sym only.same.honest) keeps in h in
      adds_both (states k.device) (states c.plan_compaction.new.device) (states c.write_plan.new.device) (may_crash_to (states k.device)) (IsBetween (tree_commit k.slot mid.disk.view c.in-Ok.plan.slot (ready keeps).planned.found) c.in-Ok.plan.pages.items mid.disk.view) (λ (i : Image). TreeHas i pairs k.slot.root.banner)
      (c.plan_compaction.ensures.reads.device.no_new_crash_state keeps) (c.write_plan.ensures.writes.at_crash (keeps1 keeps) (ready keeps))
      (λ i left. (crash_states_have_the_tree old.disk k.slot k.ledger k.top k.fitted.version (k.there keeps) (k.durable keeps up) i (d.crash_states_are_images k.device i keeps left)))
      (λ i h. either (old_or_new old.disk.view k.slot c.in-Ok.plan.slot (ready keeps).planned.found c.in-Ok.plan.pages.items pairs k.slot.root.banner i k.fitted.version (ready keeps).planned.plan_is.version c.in-Ok.ensures.made.made.banner_is (ready keeps).planned.pairs_are (way_again old.disk.view mid.disk.view k.slot c.in-Ok.plan.slot (ready keeps).planned.found c.in-Ok.plan.pages.items i (same keeps) h)));
  no_new_crash_state = λ keeps. tt;
  no_new_crash_state_when_closed = λ keeps shut. both_flags c.args.self.now.usable c.if-not-self.false shut;
}

pub invariant_of-self-in-Err-write_plan : goal.invariant_of-self-in-Err-write_plan
invariant_of-self-in-Err-write_plan g c =
    let d = g.met.D.Device in
    let k = c.args.self.now in
    let state = g.D.Device.state in
    let old = state k.device in
    let mid = state c.plan_compaction.new.device in
    let only = c.plan_compaction.ensures.reads.device.only in
    let states = crash_states_of g.D.Device.moment g.D.Device.possible_since in
    let up = c.if-not-self.false in
    let version = k.fitted.version in
    let pairs = (found_under k.slot old.disk.view).pairs in
    let held_by = λ (keeps : IsTrue old.honest). is_held old.size k.slot old.disk k.ledger k.top k.fitted (k.there keeps) (k.durable keeps up) k.sealed in
    let same = λ (keeps : IsTrue old.honest). let e : mid.disk.view ≡ old.disk.view = ap (λ (x : Disk). x.view) (only.disk keeps) in e in
    let sure = λ (keeps : IsTrue old.honest) (i : Image) (left : may_crash_to (states c.plan_compaction.new.device) i).
    let e : i ≡ mid.disk.view = (k.durable keeps up).images i (d.crash_states_are_images k.device i keeps ((c.plan_compaction.ensures.reads.device.no_new_crash_state keeps).now i left)) ∙ sym (same keeps) in e in
    let ready = λ (keeps : IsTrue old.honest).
    may_be_written old.disk.view mid.disk.view (states c.plan_compaction.new.device) k.slot k.ledger c.plan_compaction.new.ledger k.top c.in-Ok.plan pairs (held_by keeps) c.plan_compaction.ensures.ledger.marks
    (c.in-Ok.ensures.planned keeps k.top (held_by keeps) (k.there keeps) refl).0.planned k.fitted.version (same keeps) (sure keeps) in
    let new = state c.write_plan.new.device in
    let wrote = c.write_plan.ensures.outcome in
    let keeps1 = λ (keeps : IsTrue old.honest). let h : IsTrue mid.honest = subst IsTrue (sym only.same.honest) keeps in h in
    let back = λ (keeps2 : IsTrue new.honest). let h : IsTrue old.honest = subst IsTrue (wrote.same.honest ∙ only.same.honest) keeps2 in h in
    let as_before : c.write_plan.new.ledger ≡ k.ledger = c.in-Err-write_plan.ensures.ledger.abandoned_is ∙ abandoned_again k.ledger c.plan_compaction.new.ledger c.plan_compaction.ensures.ledger.marks k.fitted.rest.unmarked in
    record {
      fitted = subst (λ (l : LedgerState). FitsTree new.size k.slot l) (sym as_before) (subst (λ (n : ℕ). FitsTree n k.slot k.ledger) (sym (wrote.same.size ∙ only.same.size)) k.fitted);
      sealed = let s = k.sealed in omega (arith, s);
      pins = subst (λ (l : LedgerState). ArePinned k.slot.root.pages l k.pinned) (sym as_before) k.pins;
      pins_there = λ keeps2.
          let keeps = back keeps2 in
          subst (λ (l : LedgerState). PinnedTreesAreKept new.disk.view l k.pinned) (sym as_before)
          (kept_still old.disk.view mid.disk.view new.disk.view k.slot.root.pages k.ledger c.plan_compaction.new.ledger k.pinned k.pins c.plan_compaction.ensures.ledger.marks (same keeps) (c.write_plan.ensures.writes.held (keeps1 keeps) (ready keeps)) (k.pins_there keeps));
      leaf = λ keeps2. ∣ inl c.clear.ensures ∣₁;
      places_kept = λ keeps2. c.clear-2.ensures (page_of (g.D.Device.state c.write_plan.new.device).disk.view);
      there = λ keeps2.
          let keeps = back keeps2 in
          let here = subst (λ (v : Image). IsThere v k.slot k.ledger) (sym (same keeps)) (k.there keeps) in
          subst (λ (l : LedgerState). IsThere new.disk.view k.slot l) (sym as_before) (still_there k.slot mid.disk.view new.disk.view k.ledger k.fitted.version here (c.in-Err-write_plan.ensures.writes.kept (keeps1 keeps) (ready keeps)));
      durable = λ keeps2 usable. absurd (cc usable);
    }

pub returns-clause-fault : goal.returns-clause-fault
returns-clause-fault g c = record {
  cause =
      let d = g.met.D.Device in
      let k = c.args.self.now in
      let state = g.D.Device.state in
      let old = state k.device in
      let mid = state c.plan_compaction.new.device in
      let only = c.plan_compaction.ensures.reads.device.only in
      let states = crash_states_of g.D.Device.moment g.D.Device.possible_since in
      let up = c.if-not-self.false in
      let version = k.fitted.version in
      let pairs = (found_under k.slot old.disk.view).pairs in
      let held_by = λ (keeps : IsTrue old.honest). is_held old.size k.slot old.disk k.ledger k.top k.fitted (k.there keeps) (k.durable keeps up) k.sealed in
      let same = λ (keeps : IsTrue old.honest). let e : mid.disk.view ≡ old.disk.view = ap (λ (x : Disk). x.view) (only.disk keeps) in e in
      let sure = λ (keeps : IsTrue old.honest) (i : Image) (left : may_crash_to (states c.plan_compaction.new.device) i).
      let e : i ≡ mid.disk.view = (k.durable keeps up).images i (d.crash_states_are_images k.device i keeps ((c.plan_compaction.ensures.reads.device.no_new_crash_state keeps).now i left)) ∙ sym (same keeps) in e in
      let ready = λ (keeps : IsTrue old.honest).
      may_be_written old.disk.view mid.disk.view (states c.plan_compaction.new.device) k.slot k.ledger c.plan_compaction.new.ledger k.top c.in-Ok.plan pairs (held_by keeps) c.plan_compaction.ensures.ledger.marks
      (c.in-Ok.ensures.planned keeps k.top (held_by keeps) (k.there keeps) refl).0.planned k.fitted.version (same keeps) (sure keeps) in
      let new = state c.write_plan.new.device in
      let wrote = c.write_plan.ensures.outcome in
      let keeps1 = λ (keeps : IsTrue old.honest). let h : IsTrue mid.honest = subst IsTrue (sym only.same.honest) keeps in h in
      record {
        pairs = λ keeps.
            let here = subst (λ (v : Image). IsThere v k.slot k.ledger) (sym (same keeps)) (k.there keeps) in
            ap (λ (x : Found). x.pairs) (still_under k.slot mid.disk.view new.disk.view k.ledger k.fitted.version here (c.in-Err-write_plan.ensures.writes.kept (keeps1 keeps) (ready keeps))) ∙ ap (λ (v : Image). (found_under k.slot v).pairs) (same keeps);
        banner = refl;
        shut = refl;
        generation = refl;
        free = ap free_count (c.in-Err-write_plan.ensures.ledger.abandoned_is ∙ abandoned_again k.ledger c.plan_compaction.new.ledger c.plan_compaction.ensures.ledger.marks k.fitted.rest.unmarked);
        height = refl;
        keys = refl;
        out = same_numbers (state c.write_plan.new.device).disk.view old.disk.view 0 k.pinned;
        pins = λ keeps. pins_stay old.disk.view mid.disk.view (state c.write_plan.new.device).disk.view k.slot.root.pages k.ledger c.plan_compaction.new.ledger k.pinned k.pins c.plan_compaction.ensures.ledger.marks (same keeps) (c.write_plan.ensures.writes.held (keeps1 keeps) (ready keeps)) (k.pins_there keeps);
        cause = λ usable. c.in-Err-write_plan.ensures.outcome.writes ∙ ap counted only.writes;
        top = inr refl;
      };
  need = λ usable. both_flags c.args.self.now.usable c.if-not-self.false (sym usable);
  tight = λ keeps usable shut.
      let k = c.args.self.now in
      let old = g.D.Device.state k.device in
      let up = c.if-not-self.false in
      let held_by = is_held old.size k.slot old.disk k.ledger k.top k.fitted (k.there keeps) (k.durable keeps up) k.sealed in
      let room = (c.in-Ok.ensures.planned keeps k.top held_by (k.there keeps) refl).1 in
      (length c.in-Ok.plan.pages.items, λ again. room, c.in-Ok.ensures.made.room);
}

pub returns-clause-counts : goal.returns-clause-counts
returns-clause-counts g c = record {
  tried =
      let old = g.D.Device.state c.args.self.now.device in
      let mid = g.D.Device.state c.plan_compaction.new.device in
      let only = c.plan_compaction.ensures.reads.device.only in
      let wrote = c.in-Err-write_plan.ensures.outcome in
      record {
        honest = wrote.same.honest ∙ only.same.honest;
        reads = let a = wrote.reads in let b = c.in-Ok.ensures.reads.reads in omega (arith, a, b);
        writes = let a = wrote.writes in let b = only.writes in let r = counted_rises mid.failed_writes in omega (arith, a, b, r);
        top = omega arith;
      };
  reads = c.in-Err-write_plan.ensures.outcome.reads ∙ c.in-Ok.ensures.reads.reads;
  writes =
      let old = g.D.Device.state c.args.self.now.device in
      let new = g.D.Device.state c.write_plan.new.device in
      subst (λ (u : Bool). new.failed_writes ≡ writes_after u Failed old.failed_writes) (sym c.if-not-self.false) (c.in-Err-write_plan.ensures.outcome.writes ∙ ap counted c.plan_compaction.ensures.reads.device.only.writes);
  work =
      let read = c.plan_compaction.ensures.reads.device.only.made in
      let made = c.in-Err-write_plan.ensures.work in
      let room = c.in-Ok.ensures.made.room in
      record {
        writes = (omega (arith, read.writes, made.writes.0), omega (arith, read.writes, made.writes.1, room));
        syncs = (omega (arith, read.syncs, made.syncs.0), omega (arith, read.syncs, made.syncs.1));
      };
}

pub returns-clause-at_crash : goal.returns-clause-at_crash
returns-clause-at_crash g c = record {
  at_crash = λ keeps usable.
      let d = g.met.D.Device in
      let k = c.args.self.now in
      let state = g.D.Device.state in
      let old = state k.device in
      let mid = state c.plan_compaction.new.device in
      let only = c.plan_compaction.ensures.reads.device.only in
      let states = crash_states_of g.D.Device.moment g.D.Device.possible_since in
      let up = c.if-not-self.false in
      let version = k.fitted.version in
      let pairs = (found_under k.slot old.disk.view).pairs in
      let held_by = λ (keeps : IsTrue old.honest). is_held old.size k.slot old.disk k.ledger k.top k.fitted (k.there keeps) (k.durable keeps up) k.sealed in
      let same = λ (keeps : IsTrue old.honest). let e : mid.disk.view ≡ old.disk.view = ap (λ (x : Disk). x.view) (only.disk keeps) in e in
      let sure = λ (keeps : IsTrue old.honest) (i : Image) (left : may_crash_to (states c.plan_compaction.new.device) i).
      let e : i ≡ mid.disk.view = (k.durable keeps up).images i (d.crash_states_are_images k.device i keeps ((c.plan_compaction.ensures.reads.device.no_new_crash_state keeps).now i left)) ∙ sym (same keeps) in e in
      let ready = λ (keeps : IsTrue old.honest).
      may_be_written old.disk.view mid.disk.view (states c.plan_compaction.new.device) k.slot k.ledger c.plan_compaction.new.ledger k.top c.in-Ok.plan pairs (held_by keeps) c.plan_compaction.ensures.ledger.marks
      (c.in-Ok.ensures.planned keeps k.top (held_by keeps) (k.there keeps) refl).0.planned k.fitted.version (same keeps) (sure keeps) in
      let keeps1 = λ (keeps : IsTrue old.honest). let h : IsTrue mid.honest = subst IsTrue (sym only.same.honest) keeps in h in
      adds_both (states k.device) (states c.plan_compaction.new.device) (states c.write_plan.new.device) (may_crash_to (states k.device)) (IsBetween (tree_commit k.slot mid.disk.view c.in-Ok.plan.slot (ready keeps).planned.found) c.in-Ok.plan.pages.items mid.disk.view) (λ (i : Image). TreeHas i pairs k.slot.root.banner)
      (c.plan_compaction.ensures.reads.device.no_new_crash_state keeps) (c.write_plan.ensures.writes.at_crash (keeps1 keeps) (ready keeps))
      (λ i left. (crash_states_have_the_tree old.disk k.slot k.ledger k.top k.fitted.version (k.there keeps) (k.durable keeps up) i (d.crash_states_are_images k.device i keeps left)))
      (λ i h. either (old_or_new old.disk.view k.slot c.in-Ok.plan.slot (ready keeps).planned.found c.in-Ok.plan.pages.items pairs k.slot.root.banner i k.fitted.version (ready keeps).planned.plan_is.version c.in-Ok.ensures.made.made.banner_is (ready keeps).planned.pairs_are (way_again old.disk.view mid.disk.view k.slot c.in-Ok.plan.slot (ready keeps).planned.found c.in-Ok.plan.pages.items i (same keeps) h)));
  no_new_crash_state = λ keeps usable. both_flags false usable refl;
  no_new_crash_state_when_closed = λ keeps shut. both_flags c.args.self.now.usable c.if-not-self.false shut;
}

pub returns-then-self-clause-writes : goal.returns-then-self-clause-writes
returns-then-self-clause-writes g c = record {
  between = λ keeps up. inl (no_new_crash_state (crash_states_of g.D.Device.moment g.D.Device.possible_since c.args.self.now.device));
  unheld = λ keeps up.
      let d = g.met.D.Device in
      let k = c.args.self.now in
      let view = (g.D.Device.state k.device).disk.view in
      let states = crash_states_of g.D.Device.moment g.D.Device.possible_since k.device in
      (λ n keep. refl, adds_weaker states states (may_crash_to states) (PinnedPagesStay k.pinned view) (λ i left n keep. ap (λ (v : Image). page_of v n) ((k.durable keeps up).images i (d.crash_states_are_images k.device i keeps left))) (no_new_crash_state states));
  written = tt;
  keys = tt;
}

pub returns-in-Err-clause-writes : goal.returns-in-Err-clause-writes
returns-in-Err-clause-writes g c = record {
  between = λ keeps usable. inl (c.plan_compaction.ensures.reads.device.no_new_crash_state keeps);
  unheld = λ keeps usable.
      let d = g.met.D.Device in
      let k = c.args.self.now in
      let old = g.D.Device.state k.device in
      let states = crash_states_of g.D.Device.moment g.D.Device.possible_since in
      let up = c.if-not-self.false in (
        λ n keep. ap (λ (x : Disk). page_of x.view n) (c.plan_compaction.ensures.reads.device.only.disk keeps),
        adds_weaker (states k.device) (states c.plan_compaction.new.device) (may_crash_to (states k.device)) (PinnedPagesStay k.pinned old.disk.view) (λ i left n keep. ap (λ (v : Image). page_of v n) ((k.durable keeps up).images i (d.crash_states_are_images k.device i keeps left)))
            (c.plan_compaction.ensures.reads.device.no_new_crash_state keeps),
      );
  written = tt;
  keys = tt;
}

pub returns-in-Ok-write_plan-clause-writes : goal.returns-in-Ok-write_plan-clause-writes
returns-in-Ok-write_plan-clause-writes g c = record {
  between = λ keeps usable.
      let d = g.met.D.Device in
      let k = c.args.self.now in
      let state = g.D.Device.state in
      let old = state k.device in
      let mid = state c.plan_compaction.new.device in
      let only = c.plan_compaction.ensures.reads.device.only in
      let states = crash_states_of g.D.Device.moment g.D.Device.possible_since in
      let up = c.if-not-self.false in
      let version = k.fitted.version in
      let pairs = (found_under k.slot old.disk.view).pairs in
      let held_by = λ (keeps : IsTrue old.honest). is_held old.size k.slot old.disk k.ledger k.top k.fitted (k.there keeps) (k.durable keeps up) k.sealed in
      let same = λ (keeps : IsTrue old.honest). let e : mid.disk.view ≡ old.disk.view = ap (λ (x : Disk). x.view) (only.disk keeps) in e in
      let sure = λ (keeps : IsTrue old.honest) (i : Image) (left : may_crash_to (states c.plan_compaction.new.device) i).
      let e : i ≡ mid.disk.view = (k.durable keeps up).images i (d.crash_states_are_images k.device i keeps ((c.plan_compaction.ensures.reads.device.no_new_crash_state keeps).now i left)) ∙ sym (same keeps) in e in
      let ready = λ (keeps : IsTrue old.honest).
      may_be_written old.disk.view mid.disk.view (states c.plan_compaction.new.device) k.slot k.ledger c.plan_compaction.new.ledger k.top c.in-Ok.plan pairs (held_by keeps) c.plan_compaction.ensures.ledger.marks
      (c.in-Ok.ensures.planned keeps k.top (held_by keeps) (k.there keeps) refl).0.planned k.fitted.version (same keeps) (sure keeps) in
      let keeps1 = λ (keeps : IsTrue old.honest). let h : IsTrue mid.honest = subst IsTrue (sym only.same.honest) keeps in h in
      let held = held_by keeps in
      let planned = (c.in-Ok.ensures.planned keeps k.top (held_by keeps) (k.there keeps) refl) in
      let plan = tree_plan old.disk.view k.slot k.ledger k.pinned k.fitted.rest k.pins.seals (k.pins_there keeps) (k.there keeps) c.plan_compaction.new.ledger k.top (MayNeedFilled k.slot old) pairs k.slot.root.banner c.in-Ok.plan c.plan_compaction.ensures.ledger.marks held planned.0.planned c.in-Ok.ensures.made.made.banner_is (λ again. planned.1) in
      one_plan old.disk.view mid.disk.view (states k.device) (states c.plan_compaction.new.device) (states c.write_plan.new.device) k.slot k.top k.pinned (MayNeedFilled k.slot old) pairs k.slot.root.banner plan (same keeps)
      (c.plan_compaction.ensures.reads.device.no_new_crash_state keeps) (c.write_plan.ensures.writes.at_crash (keeps1 keeps) (ready keeps));
  unheld = λ keeps usable.
      let d = g.met.D.Device in
      let k = c.args.self.now in
      let state = g.D.Device.state in
      let old = state k.device in
      let mid = state c.plan_compaction.new.device in
      let only = c.plan_compaction.ensures.reads.device.only in
      let states = crash_states_of g.D.Device.moment g.D.Device.possible_since in
      let up = c.if-not-self.false in
      let version = k.fitted.version in
      let pairs = (found_under k.slot old.disk.view).pairs in
      let held_by = λ (keeps : IsTrue old.honest). is_held old.size k.slot old.disk k.ledger k.top k.fitted (k.there keeps) (k.durable keeps up) k.sealed in
      let same = λ (keeps : IsTrue old.honest). let e : mid.disk.view ≡ old.disk.view = ap (λ (x : Disk). x.view) (only.disk keeps) in e in
      let sure = λ (keeps : IsTrue old.honest) (i : Image) (left : may_crash_to (states c.plan_compaction.new.device) i).
      let e : i ≡ mid.disk.view = (k.durable keeps up).images i (d.crash_states_are_images k.device i keeps ((c.plan_compaction.ensures.reads.device.no_new_crash_state keeps).now i left)) ∙ sym (same keeps) in e in
      let ready = λ (keeps : IsTrue old.honest).
      may_be_written old.disk.view mid.disk.view (states c.plan_compaction.new.device) k.slot k.ledger c.plan_compaction.new.ledger k.top c.in-Ok.plan pairs (held_by keeps) c.plan_compaction.ensures.ledger.marks
      (c.in-Ok.ensures.planned keeps k.top (held_by keeps) (k.there keeps) refl).0.planned k.fitted.version (same keeps) (sure keeps) in
      let keeps1 = λ (keeps : IsTrue old.honest). let h : IsTrue mid.honest = subst IsTrue (sym only.same.honest) keeps in h in
      let stay = λ (now : Image) (h : HeldPagesStay c.plan_compaction.new.ledger (page_of mid.disk.view) (page_of now)).
      pinned_stay old.disk.view k.slot k.ledger k.pinned k.fitted.rest k.pins.seals (k.pins_there keeps) (k.there keeps) now (stay_now old.disk.view mid.disk.view now k.slot.root.pages k.ledger c.plan_compaction.new.ledger k.pinned k.pins c.plan_compaction.ensures.ledger.marks (same keeps) h (k.pins_there keeps)) in (
        stay (state c.write_plan.new.device).disk.view (c.write_plan.ensures.writes.held (keeps1 keeps) (ready keeps)),
        adds_both (states k.device) (states c.plan_compaction.new.device) (states c.write_plan.new.device) (may_crash_to (states k.device)) (IsBetween (tree_commit k.slot mid.disk.view c.in-Ok.plan.slot (ready keeps).planned.found) c.in-Ok.plan.pages.items mid.disk.view) (PinnedPagesStay k.pinned old.disk.view)
            (c.plan_compaction.ensures.reads.device.no_new_crash_state keeps) (c.write_plan.ensures.writes.at_crash (keeps1 keeps) (ready keeps))
            (λ i left n keep. ap (λ (v : Image). page_of v n) ((k.durable keeps up).images i (d.crash_states_are_images k.device i keeps left)))
            (λ i h. stay i (held_pages_stay mid.disk.view (states c.plan_compaction.new.device) k.slot c.plan_compaction.new.ledger c.in-Ok.plan (ready keeps) i h)),
      );
  written =
      let k = c.args.self.now in
      let old = g.D.Device.state k.device in
      let up = c.if-not-self.false in
      let held_by = λ (keeps : IsTrue old.honest). is_held old.size k.slot old.disk k.ledger k.top k.fitted (k.there keeps) (k.durable keeps up) k.sealed in
      let n = length c.in-Ok.plan.pages.items in
      (n, λ keeps again. (c.in-Ok.ensures.planned keeps k.top (held_by keeps) (k.there keeps) refl).1, written n c.plan_compaction.ensures.reads.device.only.made c.in-Ok-write_plan.ensures.work);
  keys = c.in-Ok.ensures.keys;
}

pub returns-clause-writes : goal.returns-clause-writes
returns-clause-writes g c = record {
  between = λ keeps usable.
      let d = g.met.D.Device in
      let k = c.args.self.now in
      let state = g.D.Device.state in
      let old = state k.device in
      let mid = state c.plan_compaction.new.device in
      let only = c.plan_compaction.ensures.reads.device.only in
      let states = crash_states_of g.D.Device.moment g.D.Device.possible_since in
      let up = c.if-not-self.false in
      let version = k.fitted.version in
      let pairs = (found_under k.slot old.disk.view).pairs in
      let held_by = λ (keeps : IsTrue old.honest). is_held old.size k.slot old.disk k.ledger k.top k.fitted (k.there keeps) (k.durable keeps up) k.sealed in
      let same = λ (keeps : IsTrue old.honest). let e : mid.disk.view ≡ old.disk.view = ap (λ (x : Disk). x.view) (only.disk keeps) in e in
      let sure = λ (keeps : IsTrue old.honest) (i : Image) (left : may_crash_to (states c.plan_compaction.new.device) i).
      let e : i ≡ mid.disk.view = (k.durable keeps up).images i (d.crash_states_are_images k.device i keeps ((c.plan_compaction.ensures.reads.device.no_new_crash_state keeps).now i left)) ∙ sym (same keeps) in e in
      let ready = λ (keeps : IsTrue old.honest).
      may_be_written old.disk.view mid.disk.view (states c.plan_compaction.new.device) k.slot k.ledger c.plan_compaction.new.ledger k.top c.in-Ok.plan pairs (held_by keeps) c.plan_compaction.ensures.ledger.marks
      (c.in-Ok.ensures.planned keeps k.top (held_by keeps) (k.there keeps) refl).0.planned k.fitted.version (same keeps) (sure keeps) in
      let keeps1 = λ (keeps : IsTrue old.honest). let h : IsTrue mid.honest = subst IsTrue (sym only.same.honest) keeps in h in
      let held = held_by keeps in
      let planned = (c.in-Ok.ensures.planned keeps k.top (held_by keeps) (k.there keeps) refl) in
      let plan = tree_plan old.disk.view k.slot k.ledger k.pinned k.fitted.rest k.pins.seals (k.pins_there keeps) (k.there keeps) c.plan_compaction.new.ledger k.top (MayNeedFilled k.slot old) pairs k.slot.root.banner c.in-Ok.plan c.plan_compaction.ensures.ledger.marks held planned.0.planned c.in-Ok.ensures.made.made.banner_is (λ again. planned.1) in
      one_plan old.disk.view mid.disk.view (states k.device) (states c.plan_compaction.new.device) (states c.write_plan.new.device) k.slot k.top k.pinned (MayNeedFilled k.slot old) pairs k.slot.root.banner plan (same keeps)
      (c.plan_compaction.ensures.reads.device.no_new_crash_state keeps) (c.write_plan.ensures.writes.at_crash (keeps1 keeps) (ready keeps));
  unheld = λ keeps usable.
      let d = g.met.D.Device in
      let k = c.args.self.now in
      let state = g.D.Device.state in
      let old = state k.device in
      let mid = state c.plan_compaction.new.device in
      let only = c.plan_compaction.ensures.reads.device.only in
      let states = crash_states_of g.D.Device.moment g.D.Device.possible_since in
      let up = c.if-not-self.false in
      let version = k.fitted.version in
      let pairs = (found_under k.slot old.disk.view).pairs in
      let held_by = λ (keeps : IsTrue old.honest). is_held old.size k.slot old.disk k.ledger k.top k.fitted (k.there keeps) (k.durable keeps up) k.sealed in
      let same = λ (keeps : IsTrue old.honest). let e : mid.disk.view ≡ old.disk.view = ap (λ (x : Disk). x.view) (only.disk keeps) in e in
      let sure = λ (keeps : IsTrue old.honest) (i : Image) (left : may_crash_to (states c.plan_compaction.new.device) i).
      let e : i ≡ mid.disk.view = (k.durable keeps up).images i (d.crash_states_are_images k.device i keeps ((c.plan_compaction.ensures.reads.device.no_new_crash_state keeps).now i left)) ∙ sym (same keeps) in e in
      let ready = λ (keeps : IsTrue old.honest).
      may_be_written old.disk.view mid.disk.view (states c.plan_compaction.new.device) k.slot k.ledger c.plan_compaction.new.ledger k.top c.in-Ok.plan pairs (held_by keeps) c.plan_compaction.ensures.ledger.marks
      (c.in-Ok.ensures.planned keeps k.top (held_by keeps) (k.there keeps) refl).0.planned k.fitted.version (same keeps) (sure keeps) in
      let keeps1 = λ (keeps : IsTrue old.honest). let h : IsTrue mid.honest = subst IsTrue (sym only.same.honest) keeps in h in
      let stay = λ (now : Image) (h : HeldPagesStay c.plan_compaction.new.ledger (page_of mid.disk.view) (page_of now)).
      pinned_stay old.disk.view k.slot k.ledger k.pinned k.fitted.rest k.pins.seals (k.pins_there keeps) (k.there keeps) now (stay_now old.disk.view mid.disk.view now k.slot.root.pages k.ledger c.plan_compaction.new.ledger k.pinned k.pins c.plan_compaction.ensures.ledger.marks (same keeps) h (k.pins_there keeps)) in (
        stay (state c.write_plan.new.device).disk.view (c.write_plan.ensures.writes.held (keeps1 keeps) (ready keeps)),
        adds_both (states k.device) (states c.plan_compaction.new.device) (states c.write_plan.new.device) (may_crash_to (states k.device)) (IsBetween (tree_commit k.slot mid.disk.view c.in-Ok.plan.slot (ready keeps).planned.found) c.in-Ok.plan.pages.items mid.disk.view) (PinnedPagesStay k.pinned old.disk.view)
            (c.plan_compaction.ensures.reads.device.no_new_crash_state keeps) (c.write_plan.ensures.writes.at_crash (keeps1 keeps) (ready keeps))
            (λ i left n keep. ap (λ (v : Image). page_of v n) ((k.durable keeps up).images i (d.crash_states_are_images k.device i keeps left)))
            (λ i h. stay i (held_pages_stay mid.disk.view (states c.plan_compaction.new.device) k.slot c.plan_compaction.new.ledger c.in-Ok.plan (ready keeps) i h)),
      );
  written = tt;
  keys = tt;
}

pub returns-in-Ok-write_plan-clause-counts : goal.returns-in-Ok-write_plan-clause-counts
returns-in-Ok-write_plan-clause-counts g c =
    let only = c.plan_compaction.ensures.reads.device.only in
    let wrote = c.in-Ok-write_plan.ensures.outcome in
    record {
      tried = record {
        honest = wrote.same.honest ∙ only.same.honest;
        reads = let a = wrote.reads in let b = c.in-Ok.ensures.reads.reads in omega (arith, a, b);
        writes = let a = wrote.writes in let b = only.writes in omega (arith, a, b);
        top = omega arith;
      };
      reads = wrote.reads ∙ c.in-Ok.ensures.reads.reads;
      writes = wrote.writes ∙ only.writes;
      work = enough (length c.in-Ok.plan.pages.items) _ c.in-Ok.ensures.made.room (written _ c.plan_compaction.ensures.reads.device.only.made c.in-Ok-write_plan.ensures.work);
    }
