use Rattle.std.proofs.Common.{refl, []}
use Rattle.turns.specs.Turns.{trace}
use Rattle.turns.proofs.Runnings.{run_none}
use Rattle.daily_turns.specs.ReadyConnections.{state_of}
use Rattle.daily_turns.proofs.ConnectionsMade.{replies_more, some_left, at_same}
use Rattle.daily_turns.proofs.turn.reply.Goals as goal

pub returns-else-is_empty : goal.returns-else-is_empty
returns-else-is_empty g c =
    let w = c.write_on.ensures.made in
    run_none _ _ _ _ g.met.S.SiteKeeper.crash_states_represent _ _ _
    (w.0, w.1, replies_more c.args.connection.now.adapter c.write_on.new.connection.adapter c.args.id c.args.connection.now.unsent.items (trace w.0 [] []) (state_of c.args.connection.now) (state_of c.write_on.new.connection) c.write_on.ensures.adapter (some_left c.args.connection.now.unsent.items c.is_empty.result c.is_empty.ensures c.if-is_empty.false) (at_same _ _ _ _ _ _ c.requires.stage refl c.requires.ready) w.2)
