use Rattle.std.proofs.Common.{◌≡◌, ap, sym, subst, refl, ◌∙◌}
use Rattle.std.proofs.lemmas.Result.{err_from_is_err_and}
use Rattle.page_alloc.specs.LedgerState.{LedgerState, is_taken}
use Rattle.cow_tree.specs.Drafts.{OnlyMarks}
use Rattle.cow_tree.specs.TreeState.{found_under}
use Rattle.cow_tree.proofs.PathReads.{tells_fault}
use Rattle.cow_tree.proofs.Taken.{untaken_at_rest, abandoned_again}
use Rattle.cow_tree.proofs.DraftsBegin.{keys_bounded}
use Rattle.cow_tree.proofs.AllRetired.{fill_fault, needs_filled, fill_plan}
use Rattle.cow_tree.proofs.compaction.plan_compaction.Goals as goal

pub returns-in_err-pairs-clause-planned : goal.returns-in_err-pairs-clause-planned
returns-in_err-pairs-clause-planned g c = λ keeps top held there seal.
    let state = g.D.Device.state c.args.device.now in
    let slot = c.args.slot.now in
    let answered = c.in_err-pairs.ensures.pairs keeps (found_under slot state.disk.view) there.found_is (keys_bounded state.size slot state.disk.view c.args.ledger.now c.requires.fitted there) in
    let e = err_from_is_err_and c.from_residual.result c.from_residual.ensures.1 in
    rw (e.1, e.2) (tells_fault ⊥ ⊥ c.in_err-pairs.field-0.0 _ _ (λ h. h) answered)

pub returns-in-Ok-clause-planned : goal.returns-in-Ok-clause-planned
returns-in-Ok-clause-planned g c = λ keeps top held there seal.
    let state = g.D.Device.state c.args.device.now in
    let view = state.disk.view in
    let slot = c.args.slot.now in
    let ledger = c.args.ledger.now in
    let found = found_under slot view in
    let pairs = c.in_ok-pairs.pairs.items in
    let is : pairs ≡ found.pairs = c.in_ok-pairs.ensures.pairs keeps found there.found_is (keys_bounded state.size slot view ledger c.requires.fitted there) in
    let planned = c.in-Ok.ensures.planned view top held (λ n. ap is_taken (untaken_at_rest ledger c.requires.fitted.rest.unmarked n)) seal in (
      fill_plan view slot top c.plan_pairs.new.ledger c.in-Ok.plan pairs is planned (λ n. c.in-Ok.ensures.none n) c.in-Ok.ensures.made.count c.in-Ok.ensures.made.levels,
      needs_filled slot view pairs _ there.map is c.in-Ok.ensures.made.count,
    )

pub returns-in-Err-clause-planned : goal.returns-in-Err-clause-planned
returns-in-Err-clause-planned g c = λ keeps top held there seal.
    let view = (g.D.Device.state c.args.device.now).disk.view in
    let answered = c.in-Err.ensures.planned view top held (λ n. ap is_taken (untaken_at_rest c.args.ledger.now c.requires.fitted.rest.unmarked n)) seal in
    tells_fault ⊥ ⊥ c.in-Err.fault _ _ (λ h. h) answered

pub returns-in-Err-clause-ledger : goal.returns-in-Err-clause-ledger
returns-in-Err-clause-ledger g c =
    let stays = c.abandon.ensures ∙ abandoned_again c.args.ledger.now c.plan_pairs.new.ledger c.plan_pairs.ensures.marks c.requires.fitted.rest.unmarked in
    record {
      marks = subst (λ (l : LedgerState). OnlyMarks c.args.ledger.now l) (sym stays) (record { lives = refl; size = refl; generation = refl; pins = refl });
      refused = stays;
    }

pub returns-in-Err-clause-fault : goal.returns-in-Err-clause-fault
returns-in-Err-clause-fault g c =
    let state = g.D.Device.state c.args.device.now in
    let slot = c.args.slot.now in
    fill_fault c.in-Err.fault _ _ _ (λ need exact keeps there.
    let is = c.in_ok-pairs.ensures.pairs keeps (found_under slot state.disk.view) there.found_is (keys_bounded state.size slot state.disk.view c.args.ledger.now c.requires.fitted there) in
    needs_filled slot state.disk.view c.in_ok-pairs.pairs.items need there.map is exact) c.in-Err.ensures.fault
