use Rattle.std.proofs.Common.{refl}
use Rattle.turns.specs.Turns.{Turn}
use Rattle.turns.proofs.Runnings.{run_none, run_both, untold}
use Rattle.turns.proofs.TurnsMade.{listened, replied, does_nothing, turn_rests}
use Rattle.turns.proofs.turn.take_turn.Goals as goal

pub returns-in-Listening : goal.returns-in-Listening
returns-in-Listening g c = run_both _ _ _ _ g.met.S.SiteKeeper.crash_states_represent _ _ _ _ _ _ _ _ _ c.hear-after.ensures (untold _ _ _ _ _ c.go_on.ensures.run)
    (λ es fs os ps p q. listened g.W.Wire.calls c.args.connection.now c.go_on.new.connection c.in-Listening.id c.hear-after.result _ es fs os ps c.in-Listening.is c.go_on.ensures.stage p q)

pub returns-in-Replying : goal.returns-in-Replying
returns-in-Replying g c = run_both _ _ _ _ g.met.S.SiteKeeper.crash_states_represent _ _ _ _ _ _ _ _ _ (untold _ _ _ _ _ c.reply-after.ensures) (untold _ _ _ _ _ c.go_on-in-Replying.ensures.run)
    (λ es fs os ps p q. replied g.W.Wire.calls c.args.connection.now c.go_on-in-Replying.new.connection c.in-Replying.id c.reply-after.result _ es fs os ps c.in-Replying.is c.go_on-in-Replying.ensures.stage p q)

pub returns-in_default : goal.returns-in_default
returns-in_default g c = run_none _ _ _ _ g.met.S.SiteKeeper.crash_states_represent _ _ _ (does_nothing g.W.Wire.calls _ _ Turn refl (turn_rests _ c.in_default.not-Listening c.in_default.not-Replying))
