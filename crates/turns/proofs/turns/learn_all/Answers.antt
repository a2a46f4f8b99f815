use Rattle.std.proofs.Common.{arith}
use Rattle.turns.proofs.Runnings.{run_none, run_both}
use Rattle.turns.proofs.Passing.{done_none, done_next}
use Rattle.turns.proofs.turns.learn_all.Goals as goal

pub loop-connection-init : goal.loop-connection-init
loop-connection-init g c = run_none _ _ _ _ g.met.S.SiteKeeper.crash_states_represent _ _ _ (done_none _ _)

pub loop-connection-preserved : goal.loop-connection-preserved
loop-connection-preserved g c = run_both _ _ _ _ g.met.S.SiteKeeper.crash_states_represent _ _ _ _ _ _ _ _ _ c.loop-connection.invariant c.learn.ensures
    (λ es fs os ps p q. done_next _ c.loop-connection.connection-index _ c.loop-connection.connections c.connection-item.result c.learn.new.connection es fs os ps p (omega (arith, c.loop-connection-test.true, c.loop-connection.auto.connections)) c.connection-item.is q)
