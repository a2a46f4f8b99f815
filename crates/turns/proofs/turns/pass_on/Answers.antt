use Rattle.std.proofs.Common.{refl, arith}
use Rattle.turns.specs.Turns.{Pass}
use Rattle.turns.proofs.Runnings.{run_none, run_both, run_as}
use Rattle.turns.proofs.TurnsMade.{times_next, passes_made}
use Rattle.turns.proofs.turns.pass_on.Goals as goal

pub loop-pass-init : goal.loop-pass-init
loop-pass-init g c = run_none _ _ _ _ g.met.S.SiteKeeper.crash_states_represent _ _ _ (refl, refl, refl)

pub loop-pass-preserved : goal.loop-pass-preserved
loop-pass-preserved g c = run_both _ _ _ _ g.met.S.SiteKeeper.crash_states_represent _ _ _ _ _ _ _ _ _ c.loop-pass.invariant c.pass.ensures
    (λ es fs os ps p q. times_next c.loop-pass._pass (Pass g.W.Wire.calls) _ c.loop-pass.connections c.pass.new.connections es fs os ps p q)

pub returns : goal.returns
returns g c = run_as _ _ _ _ _ _ _ c.loop-pass.invariant (λ es os p. passes_made g.W.Wire.calls c.loop-pass._pass _ _ es os (omega arith) (λ lt. absurd (omega arith)) p)
