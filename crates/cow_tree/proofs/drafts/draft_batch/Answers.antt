use Rattle.std.proofs.Common.{◌≡◌, ◌≤◌, ◌+◌, ◌-◌, ◌^◌, ◌<◌, List, length, take, map, refl, sym, ap, subst, ◌∙◌, arith, IsTrue}
use Rattle.std.specs.List.{list_all}
use Rattle.std.proofs.lemmas.List.{take_all}
use Rattle.std.proofs.lemmas.Result.{err_from_is_err_and}
use Rattle.common_types.specs.CrashStates.{no_new_crash_state}
use Rattle.sector_device.specs.Disk.{Disk}
use Rattle.sector_device.proofs.Works.{no_calls, at_most, most_then, no_more_than, none_made_of}
use Rattle.page_store.specs.Sectors.{Image}
use Rattle.page_store.specs.Pages.{Pair, key_of}
use Rattle.page_store.specs.Keys.{rises}
use Rattle.page_store.specs.StoreState.{most_levels}
use Rattle.page_store.specs.Batch.{is_pair, edited, updated}
use Rattle.page_store.specs.Steps.{crash_states_of}
use Rattle.page_store.specs.declared.edit.Edit.{Edit}
use Rattle.tree_nodes.proofs.KeyOrder.{both_true}
use Rattle.tree_nodes.specs.Steps.{RootState}
use Rattle.tree_nodes.specs.OwnedTrees.{state_of}
use Rattle.cow_tree.specs.Drafts.{old_under, IsDraft, IsCounted, MayBeTooDeep}
use Rattle.cow_tree.specs.Needs.{edit_made, drafted, GetsTooDeep}
use Rattle.cow_tree.proofs.PathSteps.{drafted_more, first_low, low_at_first, low_on, stays_low}
use Rattle.cow_tree.proofs.ReadsInTurn.{reads_again}
use Rattle.cow_tree.proofs.KeyCounts.{edited_most}
use Rattle.cow_tree.proofs.PathReads.{tells_fault, retires_again, retires_none}
use Rattle.cow_tree.proofs.DraftEdits.{deeper, updated_more}
use Rattle.cow_tree.proofs.drafts.draft_batch.Goals as goal

pub returns-in_err-draft-clause-draft : goal.returns-in_err-draft-clause-draft
returns-in_err-draft-clause-draft g c = λ keeps pairs first keys map_is room.
    let state = g.D.Device.state in
    let slot = c.args.slot.now in
    let batch = c.args.batch.now in
    let i = c.loop-edit.edit-index in
    let inv = c.loop-edit.invariant in
    let so_far = inv.draft keeps pairs first keys map_is room in
    let same : (state c.loop-edit.device).disk.view ≡ (state c.args.device.now).disk.view = ap (λ (x : Disk). x.view) (inv.device.only.disk keeps) in
    let here = subst (λ (v : Image). IsCounted slot v i (updated pairs (take i batch)) c.loop-edit.ledger c.loop-edit.draft) (sym same) so_far.0 in
    let lt = c.loop-edit-test.true in
    let few = so_far.1 in
    let small : length (updated pairs (take i batch)) < 2 ^ 64 - 1 = omega (arith, lt, few, room) in
    let answered = c.in_err-draft.ensures.draft (subst IsTrue (sym inv.device.only.same.honest) keeps) i (updated pairs (take i batch)) here small in
    let e = err_from_is_err_and c.from_residual.result c.from_residual.ensures.1 in
    let view = (state c.args.device.now).disk.view in
    let edit = c.edit-item.result in
    let tree = state_of c.loop-edit.draft.tree in
    let now = edit_made (old_under slot (state c.loop-edit.device).disk.view) slot.root.height tree edit in
    let is : now ≡ drafted slot view (take (i + 1) batch) =
    ap (λ (v : Image). edit_made (old_under slot v) slot.root.height tree edit) same
    ∙ ap (λ (s : RootState). edit_made (old_under slot view) slot.root.height s edit) so_far.2
    ∙ drafted_more slot view batch i edit lt c.edit-item.is in
    rw (e.1, e.2)
    (tells_fault (MayBeTooDeep slot (i + 1) × (most_levels < now.height)) (MayBeTooDeep slot (length batch) × GetsTooDeep slot view batch) c.in_err-draft.field-0.0 _ _
    (λ deep. (deeper slot (i + 1) (length batch) (omega (arith, lt)) deep.0, (i + 1, subst (λ (s : RootState). most_levels < s.height) is deep.1))) answered)

pub loop-edit-init : goal.loop-edit-init
loop-edit-init g c =
    let slot = c.args.slot.now in
    let tree = c.of-draft.ensures.tree in
    let states = crash_states_of g.D.Device.moment g.D.Device.possible_since in
    record {
      draft = λ keeps pairs first keys map_is room. (
        record { draft_is = subst (λ (s : RootState). IsDraft slot (g.D.Device.state c.args.device.now).disk.view 0 0 pairs c.args.ledger.now s) (sym tree) first; keys = c.of-draft.ensures.keys ∙ keys; map = map_is },
        omega arith,
        tree,
        low_at_first slot (g.D.Device.state c.args.device.now).disk.view c.args.batch.now c.requires.rooted,
      );
      low = subst (λ (s : RootState). s.height ≤ most_levels) (sym tree) (first_low slot c.requires.rooted);
      ledger = retires_none c.args.ledger.now;
      device = record {
        only = record { same = record { size = refl; honest = refl }; disk = λ keeps. refl; writes = refl; made = none_made_of _ };
        no_new_crash_state = λ keeps. no_new_crash_state (states c.args.device.now);
      };
      reads = refl;
      work = at_most (no_calls _);
    }

pub returns-clause-made : goal.returns-clause-made
returns-clause-made g c = λ keeps pairs first keys map_is room.
    let slot = c.args.slot.now in
    let view = (g.D.Device.state c.args.device.now).disk.view in
    let batch = c.args.batch.now in
    let i = c.loop-edit.edit-index in
    let past = c.loop-edit-test.false in
    let so_far = c.loop-edit.invariant.draft keeps pairs first keys map_is room in
    let all : take i batch ≡ batch = take_all i batch (omega (arith, past)) in
    (so_far.2 ∙ ap (λ (l : List Edit). drafted slot view l) all, stays_low slot view batch i (omega (arith, past)) so_far.3)

pub loop-edit-preserved : goal.loop-edit-preserved
loop-edit-preserved g c =
    let state = g.D.Device.state in
    let slot = c.args.slot.now in
    let batch = c.args.batch.now in
    let i = c.loop-edit.edit-index in
    let inv = c.loop-edit.invariant in
    let more = c.in_ok-draft.ensures in
    let lt = c.loop-edit-test.true in
    record {
      draft = λ keeps pairs first keys map_is room.
          let so_far = inv.draft keeps pairs first keys map_is room in
          let before = updated pairs (take i batch) in
          let same : (state c.loop-edit.device).disk.view ≡ (state c.args.device.now).disk.view = ap (λ (x : Disk). x.view) (inv.device.only.disk keeps) in
          let here = subst (λ (v : Image). IsCounted slot v i before c.loop-edit.ledger c.loop-edit.draft) (sym same) so_far.0 in
          let few = so_far.1 in
          let small : length (updated pairs (take i batch)) < 2 ^ 64 - 1 = omega (arith, lt, few, room) in
          let answered = more.draft (subst IsTrue (sym inv.device.only.same.honest) keeps) i before here small in
          let next = updated_more pairs batch i c.edit-item.result lt c.edit-item.is in
          let rise = both_true (rises (map key_of before)) (list_all is_pair before) so_far.0.map in
          let most = edited_most before c.edit-item.result rise.0 in
          let size = ap (λ (l : List Pair). length l) next in
          let made : state_of c.in_ok-draft.draft.tree ≡ drafted slot (state c.args.device.now).disk.view (take (i + 1) batch) =
          subst (λ (v : Image). state_of c.in_ok-draft.draft.tree ≡ edit_made (old_under slot v) slot.root.height (state_of c.loop-edit.draft.tree) c.edit-item.result) same (more.made (subst IsTrue (sym inv.device.only.same.honest) keeps) i before here)
          ∙ ap (λ (s : RootState). edit_made (old_under slot (state c.args.device.now).disk.view) slot.root.height s c.edit-item.result) so_far.2
          ∙ drafted_more slot (state c.args.device.now).disk.view batch i c.edit-item.result lt c.edit-item.is in (
            subst (λ (l : List Pair). IsCounted slot (state c.args.device.now).disk.view (i + 1) l c.edit.new.ledger c.in_ok-draft.draft) next (subst (λ (v : Image). IsCounted slot v (i + 1) (edited before c.edit-item.result) c.edit.new.ledger c.in_ok-draft.draft) same answered),
            omega (arith, most, size, few),
            made,
            low_on slot (state c.args.device.now).disk.view batch i (state_of c.in_ok-draft.draft.tree) so_far.3 made more.low,
          );
      low = more.low;
      ledger = retires_again c.args.ledger.now c.loop-edit.ledger c.edit.new.ledger inv.ledger c.edit.ensures.reads.ledger;
      device = reads_again inv.device c.edit.ensures.reads.counted.device;
      reads = more.reads.counted.reads ∙ inv.reads;
      work = no_more_than (most_then inv.work c.edit.ensures.work) (omega arith) (omega arith) (omega arith);
    }

pub returns-in_err-draft-clause-work : goal.returns-in_err-draft-clause-work
returns-in_err-draft-clause-work g c = no_more_than (most_then c.loop-edit.invariant.work c.edit.ensures.work) (omega (arith, c.loop-edit-test.true)) (omega arith) (omega arith)

pub returns-clause-work : goal.returns-clause-work
returns-clause-work g c = no_more_than c.loop-edit.invariant.work (omega (arith, c.loop-edit.auto)) (omega arith) (omega arith)
