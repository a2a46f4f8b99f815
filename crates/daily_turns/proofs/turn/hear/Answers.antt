use Rattle.std.proofs.Common.{take, ap, ◌∙◌, ◌++◌, arith, refl, length-take, inl, inr, ◌∷◌, []}
use Rattle.turns.specs.WireCalls.{Read, ReadFailed, ReadWaited}
use Rattle.turns.proofs.Runnings.{run_none, run_as}
use Rattle.daily_turns.proofs.ConnectionsMade.{heard_made, read_is, no_read_is, at_same}
use Rattle.daily_turns.proofs.turn.hear.Goals as goal

pub returns-in-Ok-Some : goal.returns-in-Ok-Some
returns-in-Ok-Some g c =
    let piece = take c.in-Ok-Some.count c.read.new.buffer in
    run_as _ _ _ _ _ _ _ c.hear_piece.ensures.run
    (λ es os hears. heard_made c.args.connection.now.adapter c.hear_piece.new.connection.adapter c.args.id _ _ _ piece es os _ (omega (arith, length-take c.in-Ok-Some.count c.read.new.buffer, c.read.auto.buffer))
    (ap g.W.ReadyWire.calls c.hear_piece.ensures.wire ∙ c.read.ensures.calls ∙ ap (λ w. g.W.ReadyWire.calls c.args.connection.now.wire ++ w ∷ []) (read_is c.read.result c.in-Ok-Some.field-0 c.in-Ok-Some.count c.read.new.buffer c.in-Ok-Some.is c.in-Ok-Some.field-0-is)
    ∙ ap (λ n. g.W.ReadyWire.calls c.args.connection.now.wire ++ Read n piece ∷ []) c.read.auto.buffer)
    hears)

pub returns-in-Ok-None : goal.returns-in-Ok-None
returns-in-Ok-None g c = run_none _ _ _ _ g.met.S.SiteKeeper.crash_states_represent _ _ _
    (ReadWaited 512 ∷ [], c.read.ensures.calls ∙ ap (λ w. g.W.ReadyWire.calls c.args.connection.now.wire ++ w ∷ []) (no_read_is c.read.result c.in-Ok-None.field-0 c.read.new.buffer c.in-Ok-None.is c.in-Ok-None.field-0-is ∙ ap (λ n. ReadWaited n) c.read.auto.buffer), inr (inr (refl, (refl, at_same _ _ _ _ _ _ c.requires refl refl))))

pub returns-in-Err : goal.returns-in-Err
returns-in-Err g c = run_none _ _ _ _ g.met.S.SiteKeeper.crash_states_represent _ _ _ (ReadFailed 512 ∷ [], ap g.W.ReadyWire.calls c.become_stage.ensures.wire ∙ c.in-Err.ensures.calls ∙ ap (λ n. g.W.ReadyWire.calls c.args.connection.now.wire ++ ReadFailed n ∷ []) c.read.auto.buffer, inr (inl (c.become_stage.ensures.adapter, (refl, c.become_stage.ensures.state))))
