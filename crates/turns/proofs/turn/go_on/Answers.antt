use Rattle.std.proofs.Common.{sym, ◌∙◌}
use Rattle.turns.proofs.Runnings.{run_none}
use Rattle.turns.proofs.TurnsMade.{follows_open}
use Rattle.turns.proofs.turn.go_on.Goals as goal

pub returns-else-is_closed-clause-run : goal.returns-else-is_closed-clause-run
returns-else-is_closed-clause-run g c = run_none _ _ _ _ g.met.S.SiteKeeper.crash_states_represent _ _ _ (follows_open c.args.id c.args.after _ (sym c.is_closed.ensures ∙ c.if-is_closed.false))
