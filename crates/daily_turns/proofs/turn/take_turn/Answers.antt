use Rattle.turns.proofs.Runnings.{run_none, run_both, untold}
use Rattle.daily_turns.specs.declared.ready_connection.ConnectionStage.TheVariants as stages
use Rattle.daily_turns.specs.ReadyConnections.{Listens, DrawsOrWrites}
use Rattle.daily_turns.proofs.ConnectionsMade.{rested, took, finished, still_waits, nothing_left}
use Rattle.daily_turns.proofs.turn.take_turn.Goals as goal

pub returns-then-connection : goal.returns-then-connection
returns-then-connection g c = run_none _ _ _ _ g.met.S.SiteKeeper.crash_states_represent _ _ _ (rested g.W.ReadyWire.calls c.args.connection.now c.if-connection.true)

pub returns-in-Listening : goal.returns-in-Listening
returns-in-Listening g c = run_both _ _ _ _ g.met.S.SiteKeeper.crash_states_represent _ _ _ _ _ _ _ _ _ c.hear.ensures (untold _ _ _ _ _ c.follow.ensures)
    (λ es fs os ps p q. took g.W.ReadyWire.calls c.args.connection.now c.hear.new.connection (stages.Listening c.in-Listening.id) c.in-Listening.id (Listens c.args.connection.now.adapter c.hear.new.connection.adapter c.in-Listening.id c.args.connection.now.unsent.items) es fs os ps c.if-connection.false c.in-Listening.is (λ t h. h) p q)

pub returns-in-Replying : goal.returns-in-Replying
returns-in-Replying g c = run_both _ _ _ _ g.met.S.SiteKeeper.crash_states_represent _ _ _ _ _ _ _ _ _ (untold _ _ _ _ _ c.reply.ensures) (untold _ _ _ _ _ c.follow-in-Replying.ensures)
    (λ es fs os ps p q. took g.W.ReadyWire.calls c.args.connection.now c.reply.new.connection (stages.Replying c.in-Replying.id) c.in-Replying.id (DrawsOrWrites c.args.connection.now.adapter c.reply.new.connection.adapter c.in-Replying.id c.args.connection.now.unsent.items) es fs os ps c.if-connection.false c.in-Replying.is (λ t h. h) p q)

pub returns-in-Leaving : goal.returns-in-Leaving
returns-in-Leaving g c = untold _ _ _ _ _ (run_none _ _ _ _ g.met.S.SiteKeeper.crash_states_represent _ _ _ (finished g.W.ReadyWire.calls c.args.connection.now c.finish.new.connection c.in-Leaving.ending c.if-connection.false c.in-Leaving.is c.finish.ensures.adapter c.finish.ensures.made))

pub returns-in-Closed : goal.returns-in-Closed
returns-in-Closed g c = run_none _ _ _ _ g.met.S.SiteKeeper.crash_states_represent _ _ _ (nothing_left g.W.ReadyWire.calls c.args.connection.now c.in-Closed.field-0 c.if-connection.false c.in-Closed.is)

pub returns-in-Waiting : goal.returns-in-Waiting
returns-in-Waiting g c = run_none _ _ _ _ g.met.S.SiteKeeper.crash_states_represent _ _ _ (still_waits g.W.ReadyWire.calls c.args.connection.now c.in-Waiting.field-0 c.if-connection.false c.in-Waiting.is)
