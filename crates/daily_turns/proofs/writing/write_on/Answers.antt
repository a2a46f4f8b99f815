use Rattle.std.proofs.Common.{ap, subst, ◌∙◌, ◌∷◌, [], ◌++◌, ◌≤◌, length, refl}
use Rattle.turns.specs.WireCalls.{Wrote}
use Rattle.daily_turns.specs.ReadyConnections.{state_of}
use Rattle.daily_turns.proofs.ConnectionsMade.{sent_some, wrote_is, within_some, at_same}
use Rattle.daily_turns.proofs.writing.write_on.Goals as goal

pub returns-else-count-eq0-clause-made : goal.returns-else-count-eq0-clause-made
returns-else-count-eq0-clause-made g c =
    let bytes = c.as_slice.ensures.value in
    sent_some (state_of c.args.connection.now) c.in-Ok-Some.count _ _ _ c.if-count-eq0.false
    (subst (λ l. c.in-Ok-Some.count ≤ length l) bytes (within_some c.in-Ok-Some.field-0 c.in-Ok-Some.count (λ n. n ≤ length c.as_slice.result.now) c.in-Ok-Some.ensures.within c.in-Ok-Some.field-0-is))
    (c.write.ensures.calls ∙ ap (λ w. g.W.ReadyWire.calls c.args.connection.now.wire ++ w ∷ []) (wrote_is c.write.result c.in-Ok-Some.field-0 c.in-Ok-Some.count c.as_slice.result.now c.in-Ok-Some.is c.in-Ok-Some.field-0-is ∙ ap (λ l. Wrote l c.in-Ok-Some.count) bytes))
    (at_same c.args.connection.now.stage c.args.connection.now.stage _ _ _ _ refl c.pass.ensures c.requires)
