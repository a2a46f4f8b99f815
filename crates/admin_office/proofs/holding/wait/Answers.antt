use Rattle.std.proofs.Common.{take, ap, ◌∙◌, ◌++◌, arith, length-take, ◌∷◌, []}
use Rattle.turns.specs.WireCalls.{Read, ReadFailed, ReadWaited}
use Rattle.daily_turns.proofs.ConnectionsMade.{read_is, no_read_is}
use Rattle.admin_office.proofs.Steps.{waited_well, waited_in_vain, waited_badly}
use Rattle.admin_office.proofs.holding.wait.Goals as goal

pub returns-in-Ok-Some : goal.returns-in-Ok-Some
returns-in-Ok-Some g c =
    let piece = take c.in-Ok-Some.field-0-0 c.read_patiently.new.buffer in
    waited_well piece _ _ _ (omega (arith, length-take c.in-Ok-Some.field-0-0 c.read_patiently.new.buffer, c.read_patiently.auto.buffer))
    (c.read_patiently.ensures.calls ∙ ap (λ w. g.W.ReadyWire.calls c.args.wire.now ++ w ∷ []) (read_is c.read_patiently.result c.in-Ok-Some.field-0 c.in-Ok-Some.field-0-0 c.read_patiently.new.buffer c.in-Ok-Some.is c.in-Ok-Some.field-0-is)
    ∙ ap (λ n. g.W.ReadyWire.calls c.args.wire.now ++ Read n piece ∷ []) c.read_patiently.auto.buffer)
    c.agree.ensures

pub returns-in-Ok-None : goal.returns-in-Ok-None
returns-in-Ok-None g c = waited_in_vain _ _ _
    (c.read_patiently.ensures.calls ∙ ap (λ w. g.W.ReadyWire.calls c.args.wire.now ++ w ∷ []) (no_read_is c.read_patiently.result c.in-Ok-None.field-0 c.read_patiently.new.buffer c.in-Ok-None.is c.in-Ok-None.field-0-is ∙ ap (λ n. ReadWaited n) c.read_patiently.auto.buffer))
    (rw c.request_line.ensures at c.refuse.ensures)

pub returns-in-Err : goal.returns-in-Err
returns-in-Err g c = waited_badly _ _ _ (c.in-Err.ensures.calls ∙ ap (λ n. g.W.ReadyWire.calls c.args.wire.now ++ ReadFailed n ∷ []) c.read_patiently.auto.buffer) c.close.ensures
