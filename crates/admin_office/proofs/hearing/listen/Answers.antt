use Rattle.std.proofs.Common.{take, ap, ◌∙◌, ◌++◌, arith, length-take, ◌∷◌, []}
use Rattle.turns.specs.WireCalls.{Read, ReadFailed, ReadWaited}
use Rattle.daily_turns.proofs.ConnectionsMade.{read_is, no_read_is}
use Rattle.admin_office.proofs.Steps.{heard_one, heard_none, heard_badly}
use Rattle.admin_office.proofs.hearing.listen.Goals as goal

pub returns-in-Ok-Some : goal.returns-in-Ok-Some
returns-in-Ok-Some g c =
    let piece = take c.in-Ok-Some.count c.read.new.buffer in
    heard_one c.args.heard.items piece _ _ _ (omega (arith, length-take c.in-Ok-Some.count c.read.new.buffer, c.read.auto.buffer))
    (c.read.ensures.calls ∙ ap (λ w. g.W.ReadyWire.calls c.args.wire.now ++ w ∷ []) (read_is c.read.result c.in-Ok-Some.field-0 c.in-Ok-Some.count c.read.new.buffer c.in-Ok-Some.is c.in-Ok-Some.field-0-is)
    ∙ ap (λ n. g.W.ReadyWire.calls c.args.wire.now ++ Read n piece ∷ []) c.read.auto.buffer)
    c.hear_piece.ensures

pub returns-in-Ok-None : goal.returns-in-Ok-None
returns-in-Ok-None g c = heard_none c.args.heard.items _ _
    (c.read.ensures.calls ∙ ap (λ w. g.W.ReadyWire.calls c.args.wire.now ++ w ∷ []) (no_read_is c.read.result c.in-Ok-None.field-0 c.read.new.buffer c.in-Ok-None.is c.in-Ok-None.field-0-is ∙ ap (λ n. ReadWaited n) c.read.auto.buffer))

pub returns-in-Err : goal.returns-in-Err
returns-in-Err g c = heard_badly c.args.heard.items _ _ _ (c.in-Err.ensures.calls ∙ ap (λ n. g.W.ReadyWire.calls c.args.wire.now ++ ReadFailed n ∷ []) c.read.auto.buffer) c.close.ensures
