use Rattle.std.proofs.Common.{sym, ap, subst, ◌∙◌, if◌then◌else◌}
use Rattle.turns.proofs.Runnings.{run_as}
use Rattle.daily_turns.specs.ReadyConnections.{HasTurn}
use Rattle.daily_turns.specs.declared.ready_connection.ReadyConnection.{ReadyConnection}
use Rattle.daily_server.specs.declared.ready_socket.ReadySocket.{ReadySocket}
use Rattle.daily_server.proofs.serving.take_turn_of.Goals as goal

pub returns-clause-run : goal.returns-clause-run
returns-clause-run g c = run_as _ _ _ _ _ _ _ c.take_turn.ensures (λ es os p. record {
  turn = subst (λ (connection : ReadyConnection ReadySocket). HasTurn (λ (socket : ReadySocket). socket.made.calls) c.args.client.now.connection es os connection) (sym c.note_move.ensures.connection) p;
  moved = c.note_move.ensures.moved ∙ ap (λ (connection : ReadyConnection ReadySocket). if connection.waits then c.args.client.now.moved else c.args.now) (sym c.note_move.ensures.connection);
})
