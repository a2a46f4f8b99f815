use Rattle.std.proofs.Common.{refl, []}
use Rattle.turns.specs.Turns.{trace}
use Rattle.daily_turns.specs.ReadyConnections.{state_of}
use Rattle.daily_turns.proofs.ConnectionsMade.{finishes_more, some_left, at_same}
use Rattle.daily_turns.proofs.turn.finish.Goals as goal

pub returns-else-is_empty-clause-made : goal.returns-else-is_empty-clause-made
returns-else-is_empty-clause-made g c =
    let w = c.write_on.ensures.made in
    (w.0, w.1, finishes_more c.args.ending c.args.connection.now.unsent.items (trace w.0 [] []) (state_of c.args.connection.now) (state_of c.write_on.new.connection) (some_left c.args.connection.now.unsent.items c.is_empty.result c.is_empty.ensures c.if-is_empty.false) (at_same _ _ _ _ _ _ c.requires.stage refl c.requires.ready) w.2)
