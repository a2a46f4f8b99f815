use Rattle.std.proofs.Common.{take, ap, ◌∙◌, ◌∷◌, [], ◌++◌, arith, refl, length-take}
use Rattle.turns.specs.WireCalls.{Read, ReadFailed}
use Rattle.turns.proofs.Runnings.{run_none, run_as}
use Rattle.turns.proofs.TurnsMade.{heard_made, heard_nothing}
use Rattle.turns.proofs.turn.hear.Goals as goal

pub returns-in_default : goal.returns-in_default
returns-in_default g c = run_none _ _ _ _ g.met.S.SiteKeeper.crash_states_represent _ _ _ (heard_nothing c.args.id _ _ _ (c.in_default.ensures.calls ∙ ap (λ n. g.W.Wire.calls c.args.wire.now ++ ReadFailed n ∷ []) c.read.auto.buffer) refl)

pub returns : goal.returns
returns g c =
    let piece = take c.in-Ok.count c.read.new.buffer in
    run_as _ _ _ _ _ _ _ c.tell-answer.ensures
    (λ es os told. heard_made c.args.id _ _ _ piece es os _ _ (omega (arith, length-take c.in-Ok.count c.read.new.buffer, c.read.auto.buffer))
    (c.in-Ok.ensures.calls ∙ ap (λ n. g.W.Wire.calls c.args.wire.now ++ Read n piece ∷ []) c.read.auto.buffer) told c.heard.ensures.reply c.heard.ensures.stage)
