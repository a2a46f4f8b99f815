use Rattle.std.proofs.Common.{refl}
use Rattle.turns.specs.Turns.{EndsConnection}
use Rattle.turns.proofs.Runnings.{run_none}
use Rattle.turns.proofs.TurnsMade.{does_nothing, ends_rest}
use Rattle.turns.proofs.turn.end.Goals as goal

pub returns-in_default : goal.returns-in_default
returns-in_default g c = run_none _ _ _ _ g.met.S.SiteKeeper.crash_states_represent _ _ _ (does_nothing g.W.Wire.calls _ _ EndsConnection refl (ends_rest _ c.in_default.not-Listening c.in_default.not-Waiting c.in_default.not-Replying))
