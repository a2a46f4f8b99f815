use Rattle.std.proofs.Common.{ap, sym, subst, ◌∙◌, ◌∷◌, [], ◌++◌, ◌≤◌, length}
use Rattle.turns.specs.WireCalls.{Wrote, WriteWaited, WriteFailed}
use Rattle.daily_turns.proofs.ConnectionsMade.{some_left, wrote_is, within_some}
use Rattle.admin_office.specs.Tasks.{unsent_bytes}
use Rattle.admin_office.proofs.Steps.{all_gone, no_write_is, told_all, told_some, told_later, told_none, told_badly}
use Rattle.admin_office.proofs.telling.tell.Goals as goal

pub returns-then-is_empty : goal.returns-then-is_empty
returns-then-is_empty g c = told_all (unsent_bytes c.args.unsent) _ _ (sym c.bytes.ensures ∙ all_gone c.bytes.result.now c.is_empty.result c.is_empty.ensures c.if-is_empty.true) c.close.ensures

pub returns-then-count-eq0 : goal.returns-then-count-eq0
returns-then-count-eq0 g c =
    let bytes = c.bytes-2.ensures in
    told_none (unsent_bytes c.args.unsent) _ _ _ (λ e. some_left c.bytes.result.now c.is_empty.result c.is_empty.ensures c.if-is_empty.false (c.bytes.ensures ∙ e))
    (c.write.ensures.calls ∙ ap (λ w. g.W.ReadyWire.calls c.args.wire.now ++ w ∷ []) (wrote_is c.write.result c.in-Ok-Some.field-0 c.in-Ok-Some.count c.bytes-2.result.now c.in-Ok-Some.is c.in-Ok-Some.field-0-is ∙ ap (λ l. Wrote l c.in-Ok-Some.count) bytes ∙ ap (λ n. Wrote (unsent_bytes c.args.unsent) n) c.if-count-eq0.true))
    c.close-then-count-eq0.ensures

pub returns-else-count-eq0 : goal.returns-else-count-eq0
returns-else-count-eq0 g c =
    let bytes = c.bytes-2.ensures in
    told_some _ c.in-Ok-Some.count _ _ _ c.if-count-eq0.false
    (subst (λ l. c.in-Ok-Some.count ≤ length l) bytes (within_some c.in-Ok-Some.field-0 c.in-Ok-Some.count (λ n. n ≤ length c.bytes-2.result.now) c.in-Ok-Some.ensures.within c.in-Ok-Some.field-0-is))
    c.pass.ensures
    (c.write.ensures.calls ∙ ap (λ w. g.W.ReadyWire.calls c.args.wire.now ++ w ∷ []) (wrote_is c.write.result c.in-Ok-Some.field-0 c.in-Ok-Some.count c.bytes-2.result.now c.in-Ok-Some.is c.in-Ok-Some.field-0-is ∙ ap (λ l. Wrote l c.in-Ok-Some.count) bytes))

pub returns-in-Ok-None : goal.returns-in-Ok-None
returns-in-Ok-None g c = told_later (unsent_bytes c.args.unsent) _ _ (λ e. some_left c.bytes.result.now c.is_empty.result c.is_empty.ensures c.if-is_empty.false (c.bytes.ensures ∙ e))
    (c.write.ensures.calls ∙ ap (λ w. g.W.ReadyWire.calls c.args.wire.now ++ w ∷ []) (no_write_is c.write.result c.in-Ok-None.field-0 c.bytes-2.result.now c.in-Ok-None.is c.in-Ok-None.field-0-is ∙ ap (λ l. WriteWaited l) c.bytes-2.ensures))

pub returns-in-Err : goal.returns-in-Err
returns-in-Err g c = told_badly (unsent_bytes c.args.unsent) _ _ _ (λ e. some_left c.bytes.result.now c.is_empty.result c.is_empty.ensures c.if-is_empty.false (c.bytes.ensures ∙ e))
    (c.in-Err.ensures.calls ∙ ap (λ l. g.W.ReadyWire.calls c.args.wire.now ++ WriteFailed l ∷ []) c.bytes-2.ensures) c.close-in-Err.ensures
