use Rattle.turns.proofs.Runnings.{run_none, run_both}
use Rattle.daily_turns.proofs.ConnectionsMade.{learned, learns_nothing}
use Rattle.daily_turns.proofs.turn.learn.Goals as goal

pub returns-in-Waiting : goal.returns-in-Waiting
returns-in-Waiting g c = run_both _ _ _ _ g.met.S.SiteKeeper.crash_states_represent _ _ _ _ _ _ _ _ _ c.ask.ensures.run c.follow.ensures
    (λ es fs os ps p q. learned g.W.ReadyWire.calls c.args.connection.now c.ask.new.connection c.in-Waiting.id es fs os ps c.in-Waiting.is c.ask.ensures.wire c.ask.ensures.adapter p q)

pub returns-in_default : goal.returns-in_default
returns-in_default g c = run_none _ _ _ _ g.met.S.SiteKeeper.crash_states_represent _ _ _ (learns_nothing g.W.ReadyWire.calls c.args.connection.now c.in_default.not-Waiting)
