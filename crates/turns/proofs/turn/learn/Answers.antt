use Rattle.std.proofs.Common.{refl}
use Rattle.turns.specs.Turns.{Learns}
use Rattle.turns.proofs.Runnings.{run_none, run_both}
use Rattle.turns.proofs.TurnsMade.{learned, does_nothing, learns_rests}
use Rattle.turns.proofs.turn.learn.Goals as goal

pub returns-in-Waiting : goal.returns-in-Waiting
returns-in-Waiting g c = run_both _ _ _ _ g.met.S.SiteKeeper.crash_states_represent _ _ _ _ _ _ _ _ _ c.ask-after.ensures c.go_on.ensures.run
    (λ es fs os ps p q. learned g.W.Wire.calls c.args.connection.now c.go_on.new.connection c.in-Waiting.id c.ask-after.result _ es fs os ps c.in-Waiting.is c.go_on.ensures.stage p q)

pub returns-in_default : goal.returns-in_default
returns-in_default g c = run_none _ _ _ _ g.met.S.SiteKeeper.crash_states_represent _ _ _ (does_nothing g.W.Wire.calls _ _ Learns refl (learns_rests _ c.in_default.not-Waiting))
