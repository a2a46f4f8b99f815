-- What a hub is told of a read.
use Rattle.std.proofs.Common.{◌≡◌, ◌≢◌, ℕ, List, [], ◌∷◌, ◌++◌, refl, sym, ap, ◌∙◌, Result, Ok, Err}
use Rattle.group_world.specs.declared.event.Event.{Event}
use Rattle.group_world.specs.declared.event.Event.TheVariants as events
use Rattle.group_world.specs.declared.event.Outcome.{Outcome}
use Rattle.group_world.specs.declared.event.Outcome.TheVariants as outcomes
use Rattle.group_world.specs.declared.answer.InputStatus.{InputStatus}
use Rattle.group_world.specs.declared.answer.InputStatus.TheVariants as statuses
use Rattle.group_world.specs.declared.fault.HubFault.{HubFault}
use Rattle.group_world.specs.declared.fault.HubFault.TheVariants as faults
use Rattle.group_world.specs.Outcomes.{heard_outcome, bytes_outcome}
use Rattle.turns.specs.Turns.{IsTold, once, again, heard_event}

-- one event with one outcome
pub record IsOne (e : Event) (o : Outcome) (es : List Event) (os : List Outcome) : Type 0 where
  pub events_are : es ≡ e ∷ []
  pub outcomes_are : os ≡ o ∷ []

pub one : (e : Event) (o : Outcome) → IsOne e o (e ∷ []) (o ∷ [])
one e o = record { events_are = refl; outcomes_are = refl }

-- two events, one behind the other
pub record AreTwo (e f : Event) (o p : Outcome) (es : List Event) (os : List Outcome) : Type 0 where
  pub events_are : es ≡ e ∷ f ∷ []
  pub outcomes_are : os ≡ o ∷ p ∷ []

pub two : (e f : Event) (o p : Outcome) (es fs : List Event) (os ps : List Outcome) → IsOne e o es os → IsOne f p fs ps → AreTwo e f o p (es ++ fs) (os ++ ps)
two e f o p es fs os ps first second = record {
  events_are = ap (λ (l : List Event). l ++ fs) first.events_are ∙ ap (λ (l : List Event). e ∷ l) second.events_are;
  outcomes_are = ap (λ (l : List Outcome). l ++ ps) first.outcomes_are ∙ ap (λ (l : List Outcome). o ∷ l) second.outcomes_are;
}

no_fault : (status : InputStatus) → heard_outcome status ≢ outcomes.Fault faults.Crowded
no_fault statuses.More = λ e. cc e
no_fault statuses.Ready = λ e. cc e
no_fault statuses.Finished = λ e. cc e
no_fault statuses.Waiting = λ e. cc e

fault_in : (a b : HubFault) → outcomes.Fault a ≡ outcomes.Fault b → a ≡ b
fault_in a b is = cc is

module _ (id : ℕ) (piece : List ℕ) (now : ℕ) (result : Result InputStatus HubFault) where
  pub told_well : (status : InputStatus) → result ≡ Ok status → IsTold id piece (heard_event id piece now ∷ []) (bytes_outcome result ∷ []) (heard_outcome status)
  told_well status is = once now refl (ap (λ r. bytes_outcome r ∷ []) is) (no_fault status)

  pub told_fault : (fault : HubFault) → result ≡ Err fault → (fault ≡ faults.Crowded → ⊥) → IsTold id piece (heard_event id piece now ∷ []) (bytes_outcome result ∷ []) (outcomes.Fault fault)
  told_fault fault is other = once now refl (ap (λ r. bytes_outcome r ∷ []) is) (λ e. other (fault_in fault faults.Crowded e))

  pub told_again : (later : ℕ) (fault : HubFault) (flushed outcome : Outcome) → result ≡ Err fault → fault ≡ faults.Crowded → (es fs : List Event) (os ps : List Outcome) → IsOne (heard_event id piece now) (bytes_outcome result) es os →
      AreTwo events.Flush (heard_event id piece later) flushed outcome fs ps → IsTold id piece (es ++ fs) (os ++ ps) outcome
  told_again later fault flushed outcome is crowded es fs os ps first others = again now later flushed
      (ap (λ (l : List Event). l ++ fs) first.events_are ∙ ap (λ (l : List Event). heard_event id piece now ∷ l) others.events_are)
      (ap (λ (l : List Outcome). l ++ ps) first.outcomes_are ∙ ap (λ (l : List Outcome). bytes_outcome result ∷ l) others.outcomes_are ∙ ap (λ (o : Outcome). o ∷ flushed ∷ outcome ∷ []) (ap bytes_outcome is ∙ ap outcomes.Fault crowded))
