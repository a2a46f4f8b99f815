use Rattle.site_store.specs.ReadLaws.{kept_after}
use Rattle.site_store.proofs.AfterReads.{fails, read_on}
use Rattle.site_store.proofs.LocalReads.{fault_later}
use Rattle.site_store.proofs.searching.search_in.Goals as goal

pub returns-in-Err-step : goal.returns-in-Err-step
returns-in-Err-step g c =
    let store_state = g.K.Keeper.store_state in
    let before = c.loop.invariant in
    let step = c.in-Err-step.ensures.further in
    record {
      found = fails (read_on before.only step.only) (fault_later (store_state c.args.keeper.now) (store_state c.loop.keeper) (store_state c.step.new.keeper) c.in-Err-step.fault before.only.read before.none (λ honest known.
          (known.0, (kept_after (store_state c.args.keeper.now) (store_state c.loop.keeper) known.0 before.only.read honest known.1, before.left honest known.0 known.1))) step.fault);
    }
