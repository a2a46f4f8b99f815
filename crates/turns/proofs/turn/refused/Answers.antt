use Rattle.turns.proofs.TurnsMade.{sent_nothing, told_nothing}
use Rattle.turns.proofs.turn.refused.Goals as goal

pub returns-in_default : goal.returns-in_default
returns-in_default g c = sent_nothing _ _ (told_nothing c.args.fault c.in_default.not-Full c.in_default.not-Crowded c.in_default.not-NotReady)
