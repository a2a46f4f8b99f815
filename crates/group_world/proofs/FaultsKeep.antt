-- An answer that is a fault leaves the world as it was, and says what it says for its reason.
use Rattle.std.proofs.Common.{◌≡◌, ℕ, ◌-◌, ◌^◌, Bool, true, false, List, [], ◌∷◌, ◌++◌, ◌==◌, length, nat_le, refl, sym, ap, ◌∙◌, inl, inr, eqb-true, if◌then◌else◌}
use Rattle.std.specs.Prelude.{Option, Some, None, is_some, Result, Ok, Err}
use Rattle.std.proofs.lemmas.Bool.{cases_Bool}
use Rattle.host_types.specs.Site.{Site}
use Rattle.host_types.specs.Change.{apply}
use Rattle.common_types.specs.declared.refused.Refused.{Refused}
use Rattle.request_reader.specs.Request.{Request}
use Rattle.group_world.specs.World.{World, Phase, Heard, Waits, Reply, Early, phase_in, phase_of, moved_in, count_waiting}
use Rattle.group_world.specs.Step.{StepResult, Next, listens, ends, draws, most_waiting, settled, heard_by, at_session, at_hearing, joined, left, changed, answer, failed_answer}
use Rattle.group_world.specs.Run.{is_there}
use Rattle.group_world.specs.declared.event.Event.{Event}
use Rattle.group_world.specs.declared.event.Event.TheVariants.{Join, Bytes, End, Draw, Leave, Admin, Flush}
use Rattle.group_world.specs.declared.event.Outcome.{Outcome}
use Rattle.group_world.specs.declared.event.Outcome.TheVariants.{Fault}
use Rattle.group_world.specs.declared.fault.HubFault.{HubFault}
use Rattle.group_world.specs.declared.fault.HubFault.TheVariants as hub
use Rattle.group_world.proofs.Stored.{listens_fault, ends_fault}

abbrev KeepsOnFault : World → Next → Type 0
KeepsOnFault w next = (fault : HubFault) → Fault fault ≡ next.outcome → next.world ≡ w

-- one that is never answered
abbrev Never : HubFault → Next → Type 0
Never fault next = Fault fault ≡ next.outcome → ⊥

abbrev SaysNone : (Phase → StepResult) → Type 0
SaysNone f = (p : Phase) (fault : HubFault) → Fault fault ≡ (f p).outcome → ⊥

-- ---- the world stays

-- the same phase again
pub stays_in : (ss : List (ℕ × Phase)) (id : ℕ) (p : Phase) → phase_in ss id ≡ Some p → moved_in ss id p ≡ ss
stays_in [] id p has = refl
stays_in (s ∷ ss) id p has =
    elim (cases_Bool (s.0 == id)) [
      | inl e ↦
          let number : id ≡ s.0 = sym (eqb-true s.0 id e) in
          let here : Some s.1 ≡ Some p = sym (rw e refl) ∙ has in
          let is : p ≡ s.1 = cc here in
          rw e (ap (λ (k : ℕ). (k, p) ∷ ss) number ∙ ap (λ (q : Phase). (s.0, q) ∷ ss) is)
      | inr n ↦ rw n (ap (λ (others : List (ℕ × Phase)). s ∷ others) (stays_in ss id p (sym (rw n refl) ∙ has)))
    ]

joined_keeps : (w : World) → KeepsOnFault w (joined w)
unfolding joined
joined_keeps w fault is =
    elim (cases_Bool (nat_le 32 (length w.sessions))) [
      | inl full ↦ rw full refl
      | inr room ↦ elim (cases_Bool (w.next == 2 ^ 64 - 1)) [
        | inl last ↦ rw (room, last) refl
        | inr less ↦ (let no = rw (room, less) at is in absurd (cc no))
      ]
    ]

-- a session that says a fault stays in its phase
draws_keeps : (room : ℕ) (p : Phase) (fault : HubFault) → Fault fault ≡ (draws room p).outcome → (draws room p).phase ≡ p
draws_keeps room (Heard stream) fault is = refl
draws_keeps room (Waits request since) fault is = refl
draws_keeps room Early fault is = refl
draws_keeps room (Reply []) fault is = refl
draws_keeps room (Reply (b ∷ rest)) fault is = absurd (cc is)

at_keeps : (w : World) (id : ℕ) (f : Phase → StepResult) (o : Option Phase) → phase_of w id ≡ o → ((p : Phase) (fault : HubFault) → Fault fault ≡ (f p).outcome → (f p).phase ≡ p) → KeepsOnFault w (at_session w id f o)
at_keeps w id f None at keeps fault is = refl
at_keeps w id f (Some p) at keeps fault is = ap (λ (ss : List (ℕ × Phase)). let v : World = record w { sessions = ss } in v) (ap (moved_in w.sessions id) (keeps p fault is) ∙ stays_in w.sessions id p at)

settled_keeps : (w : World) (id now : ℕ) (r : StepResult) (p : Phase) → ((fault : HubFault) → Fault fault ≡ r.outcome → ⊥) → KeepsOnFault w (settled w id now r p)
settled_keeps w id now r (Heard stream) none fault is = absurd (none fault is)
settled_keeps w id now r (Reply rest) none fault is = absurd (none fault is)
settled_keeps w id now r Early none fault is = absurd (none fault is)
settled_keeps w id now r (Waits request since) none fault is =
    elim (cases_Bool (nat_le most_waiting (count_waiting w.sessions))) [ inl full ↦ rw full refl | inr room ↦ (let no = rw room at is in absurd (none fault no)) ]

heard_keeps : (w : World) (id now : ℕ) (r : StepResult) (p : Phase) → ((fault : HubFault) → Fault fault ≡ r.outcome → ⊥) → KeepsOnFault w (heard_by w id now r p)
heard_keeps w id now r (Heard stream) none fault is = settled_keeps w id now r r.phase none fault is
heard_keeps w id now r (Waits request since) none fault is = absurd (none fault is)
heard_keeps w id now r (Reply rest) none fault is = absurd (none fault is)
heard_keeps w id now r Early none fault is = absurd (none fault is)

hearing_keeps : (w : World) (id now : ℕ) (f : Phase → StepResult) (o : Option Phase) → SaysNone f → KeepsOnFault w (at_hearing w id now f o)
hearing_keeps w id now f None none fault is = refl
hearing_keeps w id now f (Some p) none fault is = heard_keeps w id now (f p) p (none p) fault is

left_keeps : (w : World) (id : ℕ) (o : Option Phase) → KeepsOnFault w (left w id o)
left_keeps w id None fault is = refl
left_keeps w id (Some p) fault is = absurd (cc is)

changed_keeps : (w : World) (r : Result Site Refused) → KeepsOnFault w (changed w r)
changed_keeps w (Ok site) fault is = absurd (cc is)
changed_keeps w (Err refused) fault is = refl

answer_keeps : (w : World) (e : Event) → KeepsOnFault w (answer w e)
answer_keeps w Join = joined_keeps w
answer_keeps w (Bytes id piece now) = hearing_keeps w id now (listens w.grouped w.site now piece) (phase_of w id) (listens_fault w.grouped w.site now piece)
answer_keeps w (End id now) = hearing_keeps w id now (ends w.grouped w.site now) (phase_of w id) (ends_fault w.grouped w.site now)
answer_keeps w (Draw id room) = at_keeps w id (draws room) (phase_of w id) refl (draws_keeps room)
answer_keeps w (Leave id) = left_keeps w id (phase_of w id)
answer_keeps w (Admin change now) = changed_keeps w (apply w.site change now)
answer_keeps w Flush = λ fault is. absurd (cc is)

failed_keeps : (w : World) (e : Event) → KeepsOnFault w (failed_answer w e)
failed_keeps w (Leave id) = left_keeps w id (phase_of w id)
failed_keeps w Join = λ fault is. refl
failed_keeps w (Bytes id piece now) = λ fault is. refl
failed_keeps w (End id now) = λ fault is. refl
failed_keeps w (Draw id room) = λ fault is. refl
failed_keeps w (Admin change now) = λ fault is. refl
failed_keeps w Flush = λ fault is. refl

pub by_keeps : (b : Bool) (w : World) (e : Event) → KeepsOnFault w (if b then failed_answer w e else answer w e)
by_keeps true w e = failed_keeps w e
by_keeps false w e = answer_keeps w e

-- ---- `Failed` and `Unknown`

joined_never : (w : World) (fault : HubFault) → (fault ≡ hub.Crowded → ⊥) → (fault ≡ hub.Spent → ⊥) → Never fault (joined w)
unfolding joined
joined_never w fault crowded spent is =
    elim (cases_Bool (nat_le 32 (length w.sessions))) [
      | inl full ↦ (let no = rw full at is in crowded (cc no))
      | inr room ↦ elim (cases_Bool (w.next == 2 ^ 64 - 1)) [
        | inl last ↦ (let no = rw (room, last) at is in spent (cc no))
        | inr less ↦ (let no = rw (room, less) at is in absurd (cc no))
      ]
    ]

draws_never : (room : ℕ) (p : Phase) (fault : HubFault) → (fault ≡ hub.NotReady → ⊥) → Fault fault ≡ (draws room p).outcome → ⊥
draws_never room (Heard stream) fault other is = other (cc is)
draws_never room (Waits request since) fault other is = other (cc is)
draws_never room Early fault other is = absurd (cc is)
draws_never room (Reply []) fault other is = absurd (cc is)
draws_never room (Reply (b ∷ rest)) fault other is = absurd (cc is)

-- no session, where the answer is `Unknown`; and it is no other
abbrev OnlyUnknown : HubFault → Option Phase → Next → Type 0
OnlyUnknown fault o next = Fault fault ≡ next.outcome → (fault ≡ hub.Unknown) × (is_some o ≡ false)

session_only : (w : World) (id : ℕ) (f : Phase → StepResult) (o : Option Phase) (fault : HubFault) → ((p : Phase) → Fault fault ≡ (f p).outcome → ⊥) → OnlyUnknown fault o (at_session w id f o)
session_only w id f None fault none is = (cc is, refl)
session_only w id f (Some p) fault none is = absurd (none p is)

settled_only : (w : World) (id now : ℕ) (r : StepResult) (p : Phase) (fault : HubFault) → (fault ≡ hub.Crowded → ⊥) → (Fault fault ≡ r.outcome → ⊥) → Never fault (settled w id now r p)
settled_only w id now r (Heard stream) fault other none is = none is
settled_only w id now r (Reply rest) fault other none is = none is
settled_only w id now r Early fault other none is = none is
settled_only w id now r (Waits request since) fault other none is =
    elim (cases_Bool (nat_le most_waiting (count_waiting w.sessions))) [ inl full ↦ (let no = rw full at is in other (cc no)) | inr room ↦ (let no = rw room at is in none no) ]

heard_only : (w : World) (id now : ℕ) (r : StepResult) (p : Phase) (fault : HubFault) → (fault ≡ hub.Crowded → ⊥) → (Fault fault ≡ r.outcome → ⊥) → Never fault (heard_by w id now r p)
heard_only w id now r (Heard stream) fault other none is = settled_only w id now r r.phase fault other none is
heard_only w id now r (Waits request since) fault other none is = none is
heard_only w id now r (Reply rest) fault other none is = none is
heard_only w id now r Early fault other none is = none is

hearing_only : (w : World) (id now : ℕ) (f : Phase → StepResult) (o : Option Phase) (fault : HubFault) → (fault ≡ hub.Crowded → ⊥) → SaysNone f → OnlyUnknown fault o (at_hearing w id now f o)
hearing_only w id now f None fault other none is = (cc is, refl)
hearing_only w id now f (Some p) fault other none is = absurd (heard_only w id now (f p) p fault other (none p fault) is)

left_only : (w : World) (id : ℕ) (o : Option Phase) (fault : HubFault) → OnlyUnknown fault o (left w id o)
left_only w id None fault is = (cc is, refl)
left_only w id (Some p) fault is = absurd (cc is)

changed_never : (w : World) (r : Result Site Refused) (fault : HubFault) → ((refused : Refused) → fault ≡ hub.Refused refused → ⊥) → Never fault (changed w r)
changed_never w (Ok site) fault other is = absurd (cc is)
changed_never w (Err refused) fault other is = other refused (cc is)

no_failed : (o : Option Phase) → (hub.Failed ≡ hub.Unknown) × (is_some o ≡ false) → ⊥
no_failed o is = cc is.0

-- a hub that hasn't failed never answers that it has
pub answer_so : (w : World) (e : Event) → Never hub.Failed (answer w e)
answer_so w Join = joined_never w hub.Failed (λ e. cc e) (λ e. cc e)
answer_so w (Bytes id piece now) = λ is. no_failed (phase_of w id) (hearing_only w id now (listens w.grouped w.site now piece) (phase_of w id) hub.Failed (λ e. cc e) (listens_fault w.grouped w.site now piece) is)
answer_so w (End id now) = λ is. no_failed (phase_of w id) (hearing_only w id now (ends w.grouped w.site now) (phase_of w id) hub.Failed (λ e. cc e) (ends_fault w.grouped w.site now) is)
answer_so w (Draw id room) = λ is. no_failed (phase_of w id) (session_only w id (draws room) (phase_of w id) hub.Failed (λ p. draws_never room p hub.Failed (λ e. cc e)) is)
answer_so w (Leave id) = λ is. no_failed (phase_of w id) (left_only w id (phase_of w id) hub.Failed is)
answer_so w (Admin change now) = changed_never w (apply w.site change now) hub.Failed (λ r e. cc e)
answer_so w Flush = λ is. cc is

answer_knows : (w : World) (e : Event) → Fault hub.Unknown ≡ (answer w e).outcome → is_there w e ≡ false
answer_knows w Join is = absurd (joined_never w hub.Unknown (λ e. cc e) (λ e. cc e) is)
answer_knows w (Bytes id piece now) is = (hearing_only w id now (listens w.grouped w.site now piece) (phase_of w id) hub.Unknown (λ e. cc e) (listens_fault w.grouped w.site now piece) is).1
answer_knows w (End id now) is = (hearing_only w id now (ends w.grouped w.site now) (phase_of w id) hub.Unknown (λ e. cc e) (ends_fault w.grouped w.site now) is).1
answer_knows w (Draw id room) is = (session_only w id (draws room) (phase_of w id) hub.Unknown (λ p. draws_never room p hub.Unknown (λ e. cc e)) is).1
answer_knows w (Leave id) is = (left_only w id (phase_of w id) hub.Unknown is).1
answer_knows w (Admin change now) is = absurd (changed_never w (apply w.site change now) hub.Unknown (λ r e. cc e) is)
answer_knows w Flush is = absurd (cc is)

failed_knows : (w : World) (e : Event) → Fault hub.Unknown ≡ (failed_answer w e).outcome → is_there w e ≡ false
failed_knows w (Leave id) is = (left_only w id (phase_of w id) hub.Unknown is).1
failed_knows w Join is = absurd (cc is)
failed_knows w (Bytes id piece now) is = absurd (cc is)
failed_knows w (End id now) is = absurd (cc is)
failed_knows w (Draw id room) is = absurd (cc is)
failed_knows w (Admin change now) is = absurd (cc is)
failed_knows w Flush is = absurd (cc is)

-- `Unknown` is answered only where the session isn't there
pub nobody_there : (b : Bool) (w : World) (e : Event) → Fault hub.Unknown ≡ (if b then failed_answer w e else answer w e).outcome → is_there w e ≡ false
nobody_there true w e is = failed_knows w e is
nobody_there false w e is = answer_knows w e is
