use Rattle.std.proofs.Common.{ap, ◌∙◌}
use Rattle.group_world.specs.Outcomes.{bytes_outcome}
use Rattle.turns.specs.Turns.{heard_reply}
use Rattle.turns.proofs.TurnsMade.{sent_nothing, says_nothing}
use Rattle.turns.proofs.turn.heard.Goals as goal

pub returns-in-Ok-clause-reply : goal.returns-in-Ok-clause-reply
returns-in-Ok-clause-reply g c = sent_nothing _ _ (ap (λ a. heard_reply (bytes_outcome a)) c.in-Ok.is ∙ says_nothing c.in-Ok.status)
