use Rattle.std.proofs.Common.{refl, sym, [], ◌∷◌, ⊎_elim}
use Rattle.std.proofs.lemmas.List.{append-nil}
use Rattle.group_world.specs.Outcomes.{leave_outcome}
use Rattle.group_world.specs.declared.event.Event.TheVariants.{Leave}
use Rattle.turns.specs.WireCalls.{Closed}
use Rattle.turns.proofs.Runnings.{run_none, run_one}
use Rattle.daily_turns.proofs.ConnectionsMade.{dismissed_at}
use Rattle.daily_turns.proofs.turn.dismiss.Goals as goal

pub returns-in-Leaving : goal.returns-in-Leaving
returns-in-Leaving g c = run_none _ _ _ _ g.met.S.SiteKeeper.crash_states_represent _ _ _ (dismissed_at g.W.ReadyWire.calls _ _ _ (Closed ∷ []) [] [] c.in-Leaving.is c.shut.ensures.adapter c.shut.ensures.calls (refl, c.shut.ensures.state))

pub returns-in-Closed : goal.returns-in-Closed
returns-in-Closed g c = run_none _ _ _ _ g.met.S.SiteKeeper.crash_states_represent _ _ _ (dismissed_at g.W.ReadyWire.calls _ _ _ [] [] [] c.in-Closed.is refl (sym (append-nil _)) (refl, refl))

pub returns-in-Listening : goal.returns-in-Listening
returns-in-Listening g c = run_one _ _ _ _ g.met.S.SiteKeeper.crash_states_represent _ _ (Leave c.in-Listening.id) (leave_outcome c.leave.result) _ _ _ c.leave.ensures.call refl
    (⊎_elim
    (λ is. dismissed_at g.W.ReadyWire.calls _ _ _ (Closed ∷ []) (Leave c.in-Listening.id ∷ []) (leave_outcome c.leave.result ∷ []) is c.shut-in-Listening.ensures.adapter c.shut-in-Listening.ensures.calls (leave_outcome c.leave.result, refl, c.shut-in-Listening.ensures.state))
    (λ more. ⊎_elim
    (λ is. dismissed_at g.W.ReadyWire.calls _ _ _ (Closed ∷ []) (Leave c.in-Listening.id ∷ []) (leave_outcome c.leave.result ∷ []) is c.shut-in-Listening.ensures.adapter c.shut-in-Listening.ensures.calls (leave_outcome c.leave.result, refl, c.shut-in-Listening.ensures.state))
    (λ is. dismissed_at g.W.ReadyWire.calls _ _ _ (Closed ∷ []) (Leave c.in-Listening.id ∷ []) (leave_outcome c.leave.result ∷ []) is c.shut-in-Listening.ensures.adapter c.shut-in-Listening.ensures.calls (leave_outcome c.leave.result, refl, c.shut-in-Listening.ensures.state))
    more)
    c.in-Listening.is)
