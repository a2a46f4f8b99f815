use Rattle.std.proofs.Common.{refl, sym, subst, ◌∙◌, []}
use Rattle.turns.proofs.Runnings.{run_none}
use Rattle.daily_server.specs.DailyClients.{GoesIf}
use Rattle.daily_server.proofs.serving.dismiss_if_over.Goals as goal

pub returns-else-is_over-clause-run : goal.returns-else-is_over-clause-run
returns-else-is_over-clause-run g c = run_none _ _ _ _ g.met.S.SiteKeeper.crash_states_represent _ _ _ (subst (λ b. GoesIf b c.args.client.now [] [] c.args.client.now) (sym (sym c.is_over.ensures ∙ c.if-is_over.false)) (refl, refl, refl))
