use Rattle.std.proofs.Common.{◌≡◌, not, ◌&&◌, false, ap, ◌∙◌}
use Rattle.turns.proofs.Runnings.{run_as, run_both, untold}
use Rattle.daily_turns.specs.ReadyConnections.{is_waiting}
use Rattle.daily_server.proofs.Limiting.{free_turn, limited_turn, waited_before, waits_not, waits_now}
use Rattle.daily_server.proofs.serving.take_limited_turn.Goals.{else-not-waited-via-then-not-waited+else-is_waiting, else-not-waited-via-else-not-waited}
use Rattle.daily_server.proofs.serving.take_limited_turn.Goals as goal

pub returns-then-is_waiting-clause-run : goal.returns-then-is_waiting-clause-run
returns-then-is_waiting-clause-run g c =
    let old = c.args.client.now.connection.stage in
    let mid = c.take_turn_of.new.client.connection.stage in
    let waits = waits_now old mid c.is_waiting-waited.result c.is_waiting.result (c.is_waiting-waited.ensures ∙ ap is_waiting c.stage.ensures) c.if-not-waited.true (c.is_waiting.ensures ∙ ap is_waiting c.stage-then-not-waited.ensures) c.if-is_waiting.true in
    run_both _ _ _ _ g.met.S.SiteKeeper.crash_states_represent _ _ _ _ _ _ _ _ _ c.take_turn_of.ensures.run (untold _ _ _ _ _ c.limit_post.ensures.run)
    (λ es fs os ps p q. limited_turn c.args.most c.args.now (c.args.client.now, c.args.posts.now.items) c.take_turn_of.new.client (c.limit_post.new.client, c.limit_post.new.posts.items) es fs os ps waits p q)

pub returns-else-not-waited-clause-run : goal.returns-else-not-waited-clause-run
returns-else-not-waited-clause-run g c =
    let old = c.args.client.now.connection.stage in
    let mid = c.take_turn_of.new.client.connection.stage in
    let before : c.is_waiting-waited.result ≡ is_waiting old = c.is_waiting-waited.ensures ∙ ap is_waiting c.stage.ensures in
    let waits : (not (is_waiting old) && is_waiting mid) ≡ false = elim c.else-not-waited.branch [
      | else-not-waited-via-then-not-waited+else-is_waiting w ↦ waits_not old mid c.is_waiting-waited.result w.is_waiting.result before w.if-not-waited.true (w.is_waiting.ensures ∙ ap is_waiting w.stage-then-not-waited.ensures) w.if-is_waiting.false
      | else-not-waited-via-else-not-waited w ↦ waited_before old mid c.is_waiting-waited.result before w.if-not-waited.false
    ] in
    run_as _ _ _ _ _ _ _ c.take_turn_of.ensures.run (λ es os p. free_turn c.args.most c.args.now (c.args.client.now, c.args.posts.now.items) c.take_turn_of.new.client es os waits p)
