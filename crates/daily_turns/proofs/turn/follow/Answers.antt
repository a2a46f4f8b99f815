use Rattle.std.proofs.Common.{refl, sym, ◌∙◌, subst, [], ◌∷◌}
use Rattle.group_world.specs.Outcomes.{leave_outcome}
use Rattle.group_world.specs.declared.event.Event.TheVariants.{Leave}
use Rattle.turns.specs.Turns.{trace, nothing}
use Rattle.turns.proofs.Runnings.{run_none, run_one}
use Rattle.daily_turns.specs.ReadyConnections.{LeavesIfOver}
use Rattle.daily_turns.proofs.turn.follow.Goals as goal

pub returns-then-has_left : goal.returns-then-has_left
returns-then-has_left g c = run_one _ _ _ _ g.met.S.SiteKeeper.crash_states_represent _ _ (Leave c.args.id) (leave_outcome c.leave.result) _ _ _ c.leave.ensures.call refl
    (subst (λ b. LeavesIfOver c.args.id b (trace [] (Leave c.args.id ∷ []) (leave_outcome c.leave.result ∷ []))) (sym (sym c.has_left.ensures ∙ c.if-has_left.true)) (leave_outcome c.leave.result, refl))

pub returns-else-has_left : goal.returns-else-has_left
returns-else-has_left g c = run_none _ _ _ _ g.met.S.SiteKeeper.crash_states_represent _ _ _ (subst (λ b. LeavesIfOver c.args.id b nothing) (sym (sym c.has_left.ensures ∙ c.if-has_left.false)) refl)
