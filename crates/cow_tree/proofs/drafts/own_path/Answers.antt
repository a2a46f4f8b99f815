use Rattle.std.proofs.Common.{◌≡◌, ◌+◌, Some, arith, refl, sym, ap, subst, ◌∙◌, IsTrue}
use Rattle.common_types.specs.CrashStates.{no_new_crash_state}
use Rattle.sector_device.proofs.Works.{none_made_of}
use Rattle.page_store.specs.Steps.{crash_states_of}
use Rattle.tree_nodes.specs.OwnedTrees.{state_of}
use Rattle.std.proofs.lemmas.Result.{err_from_is_err_and}
use Rattle.sector_device.specs.Disk.{Disk}
use Rattle.page_store.specs.Sectors.{Image}
use Rattle.page_store.specs.StoreState.{most_levels}
use Rattle.tree_nodes.specs.Steps.{RootState, needed_under, depth_under, supply_step, stepped}
use Rattle.tree_nodes.specs.Needs.{needed_level}
use Rattle.cow_tree.specs.Drafts.{old_under, IsDraft}
use Rattle.cow_tree.proofs.PathSteps.{read_more, all_read}
use Rattle.cow_tree.proofs.ReadsInTurn.{reads_again}
use Rattle.cow_tree.proofs.WorkDone.{first_left, some_left, reads_begin, reads_on, reads_all}
use Rattle.cow_tree.proofs.PathReads.{left_less, path_begins, path_goes_on, retires_again, retires_none, tells_fault, draft_more}
use Rattle.cow_tree.proofs.drafts.own_path.Goals as goal

pub loop-page-init : goal.loop-page-init
loop-page-init g c = record {
  draft = λ keeps edits pairs d. (0, d, path_begins c.args.slot.now (g.D.Device.state c.args.device.now).disk.view edits pairs c.args.key.now c.args.ledger.now (state_of c.args.tree.now) d, refl);
  height = refl;
  ledger = retires_none c.args.ledger.now;
  device = record {
    only = record { same = record { size = refl; honest = refl }; disk = λ keeps. refl; writes = refl; made = none_made_of _ };
    no_new_crash_state = λ keeps. no_new_crash_state (crash_states_of g.D.Device.moment g.D.Device.possible_since c.args.device.now);
  };
  reads = refl;
  work = let tree = state_of c.args.tree.now in reads_begin _ most_levels _ (first_left (needed_under c.args.key.now tree.root) tree.height (depth_under c.args.key.now tree.root) most_levels c.requires.low (omega arith));
}

pub loop-page-preserved : goal.loop-page-preserved
loop-page-preserved g c =
    let state = g.D.Device.state in
    let slot = c.args.slot.now in
    let inv = c.loop-page.invariant in
    let more = c.in_ok-read_needed.ensures in
    record {
      draft = λ keeps edits pairs d.
          let p = inv.draft keeps edits pairs d in
          let same : (state c.loop-page.device).disk.view ≡ (state c.args.device.now).disk.view = ap (λ (x : Disk). x.view) (inv.device.only.disk keeps) in
          let here = subst (λ (v : Image). IsDraft slot v edits p.0 pairs c.loop-page.ledger (state_of c.loop-page.tree)) (sym same) p.1 in
          let answered = more.draft (subst IsTrue (sym inv.device.only.same.honest) keeps) edits p.0 pairs here in (
            p.0 + 1,
            subst (λ (v : Image). IsDraft slot v edits (p.0 + 1) pairs c.read_needed.new.ledger (state_of c.read_needed.new.tree)) same answered,
            path_goes_on slot (state c.args.device.now).disk.view edits pairs c.args.key.now p.0 c.in-Some.page (state_of c.loop-page.tree) (state_of c.read_needed.new.tree) p.2 (sym c.needed.ensures ∙ c.in-Some.is) more.goes.down,
            subst (λ (v : Image). state_of c.read_needed.new.tree ≡ stepped (old_under slot v) (state_of c.loop-page.tree) (supply_step c.args.key.now)) same (more.read (subst IsTrue (sym inv.device.only.same.honest) keeps))
                ∙ ap (λ (s : RootState). stepped (old_under slot (state c.args.device.now).disk.view) s (supply_step c.args.key.now)) p.3
                ∙ sym (read_more (old_under slot (state c.args.device.now).disk.view) c.args.key.now p.0 (state_of c.args.tree.now)),
          );
      height = more.goes.height ∙ inv.height;
      ledger = retires_again c.args.ledger.now c.loop-page.ledger c.read_needed.new.ledger inv.ledger c.read_needed.ensures.reads.ledger;
      device = reads_again inv.device c.read_needed.ensures.reads.counted.device;
      reads = more.reads.counted.reads ∙ inv.reads;
      work =
          let key = c.args.key.now in
          let tree = state_of c.loop-page.tree in
          let now = state_of c.read_needed.new.tree in
          let less = left_less (needed_under key tree.root) (needed_under key now.root) c.in-Some.page (needed_level key tree) (needed_level key now) (sym c.needed.ensures ∙ c.in-Some.is) more.goes.down in
          reads_on _ _ most_levels less inv.work c.read_needed.ensures.work;
    }

pub returns-in_err-read_needed-clause-work : goal.returns-in_err-read_needed-clause-work
returns-in_err-read_needed-clause-work g c =
    let key = c.args.key.now in
    let tree = state_of c.loop-page.tree in
    let some : needed_under key tree.root ≡ Some c.in-Some.page = sym c.needed.ensures ∙ c.in-Some.is in
    reads_all 0 most_levels (reads_on _ 0 most_levels (some_left (needed_under key tree.root) c.in-Some.page (needed_level key tree) some) c.loop-page.invariant.work c.read_needed.ensures.work)

pub returns-clause-work : goal.returns-clause-work
returns-clause-work g c = reads_all _ most_levels c.loop-page.invariant.work

pub returns-in_err-read_needed-clause-draft : goal.returns-in_err-read_needed-clause-draft
returns-in_err-read_needed-clause-draft g c = λ keeps edits pairs d.
    let state = g.D.Device.state in
    let slot = c.args.slot.now in
    let inv = c.loop-page.invariant in
    let p = inv.draft keeps edits pairs d in
    let same : (state c.loop-page.device).disk.view ≡ (state c.args.device.now).disk.view = ap (λ (x : Disk). x.view) (inv.device.only.disk keeps) in
    let here = subst (λ (v : Image). IsDraft slot v edits p.0 pairs c.loop-page.ledger (state_of c.loop-page.tree)) (sym same) p.1 in
    let answered = c.in_err-read_needed.ensures.draft (subst IsTrue (sym inv.device.only.same.honest) keeps) edits p.0 pairs here in
    let e = err_from_is_err_and c.from_residual.result c.from_residual.ensures.1 in
    rw (e.1, e.2) (tells_fault ⊥ ⊥ c.in_err-read_needed.field-0.0 _ _ (λ h. h) answered)

pub returns-clause-draft : goal.returns-clause-draft
returns-clause-draft g c = λ keeps edits pairs d.
    let slot = c.args.slot.now in
    let p = c.loop-page.invariant.draft keeps edits pairs d in
    draft_more slot (g.D.Device.state c.args.device.now).disk.view edits p.0 slot.root.height pairs c.loop-page.ledger (state_of c.loop-page.tree) p.2.so_far p.1

pub returns-clause-path : goal.returns-clause-path
returns-clause-path g c = λ keeps edits pairs d.
    let slot = c.args.slot.now in
    let key = c.args.key.now in
    let p = c.loop-page.invariant.draft keeps edits pairs d in
    p.3
    ∙ all_read (old_under slot (g.D.Device.state c.args.device.now).disk.view) key p.0 slot.root.height (state_of c.args.tree.now) p.2.so_far
    (ap (λ (s : RootState). needed_under key s.root) (sym p.3) ∙ (sym c.needed.ensures ∙ c.in_default.is))
