use Rattle.std.proofs.Common.{◌≡◌, ap, subst, sym, ◌∙◌, true, false}
use Rattle.old_clients.specs.Clients.{HasHeard}
use Rattle.turns.proofs.Runnings.{run_none, run_as}
use Rattle.daily_turns.specs.ReadyConnections.{is_held}
use Rattle.daily_turns.proofs.ConnectionsMade.{heard_piece, held_piece}
use Rattle.daily_turns.proofs.turn.hear_piece.Goals as goal

pub returns-then-is_held-clause-run : goal.returns-then-is_held-clause-run
returns-then-is_held-clause-run g c =
    let passed = c.hear.new.self.items in
    let held : is_held c.args.piece.now passed ≡ true = ap (is_held c.args.piece.now) (sym c.as_slice.ensures.value) ∙ sym c.is_held.ensures ∙ c.if-is_held.true in
    run_none _ _ _ _ g.met.S.SiteKeeper.crash_states_represent _ _ _ (held_piece c.args.connection.now.adapter c.hear.new.adapter c.become_stage.new.self.adapter c.args.id c.args.piece.now passed _ c.become_stage.ensures.adapter c.hear.ensures held c.become_stage.ensures.state)

pub returns-else-is_held-clause-run : goal.returns-else-is_held-clause-run
returns-else-is_held-clause-run g c =
    let passed = c.as_slice-else-is_held.result.now in
    let some : is_held c.args.piece.now passed ≡ false = ap (is_held c.args.piece.now) (c.as_slice-else-is_held.ensures.value ∙ sym c.as_slice.ensures.value) ∙ sym c.is_held.ensures ∙ c.if-is_held.false in
    let heard = subst (λ l. HasHeard c.args.connection.now.adapter c.args.piece.now l c.hear.new.adapter) (sym c.as_slice-else-is_held.ensures.value) c.hear.ensures in
    run_as _ _ _ _ _ _ _ c.tell-answer.ensures (λ es os told. heard_piece c.args.connection.now.adapter c.hear.new.adapter c.heard.new.connection.adapter c.args.id c.args.piece.now passed es os _ _ c.heard.ensures.adapter heard some told c.heard.ensures.state)
