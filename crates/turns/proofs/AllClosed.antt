-- Nobody waits behind a pass, and all are closed at the end.
use Rattle.std.proofs.Common.{◌≡◌, ◌≢◌, inl, inr, ℕ, zero, suc, Bool, true, false, List, [], ◌∷◌, refl, subst, sym, ◌∙◌, ap}
use Rattle.std.specs.Prelude.{All}
use Rattle.std.proofs.lemmas.List.Elements.{All-nil, All-cons, All-head, All-tail}
use Rattle.group_world.specs.declared.event.Event.{Event}
use Rattle.group_world.specs.declared.event.Outcome.{Outcome}
use Rattle.group_world.specs.declared.event.Outcome.TheVariants as outcomes
use Rattle.turns.specs.WireCalls.{WireCall}
use Rattle.turns.specs.Turns.{Trace, is_closed, is_waiting, For, Turn, Learns, EndsConnection, Joins, StepOf, StepsInOrder, Times, Pass, Serves, AreClosed, NobodyWaits, heard_stage, learned_stage, replied_stage, joined_stage}
use Rattle.turns.specs.declared.connection.Connection.{Connection}
use Rattle.turns.specs.declared.connection.Stage.{Stage}
use Rattle.turns.specs.declared.connection.Stage.TheVariants.{New, Listening, Waiting, Replying, Served, Left}

joined_new : (o : Outcome) → joined_stage o ≢ New
joined_new (outcomes.Joined id) = λ e. cc e
joined_new o = λ e. cc e

heard_new : (id : ℕ) (o : Outcome) → heard_stage id o ≢ New
heard_new id outcomes.More = λ e. cc e
heard_new id outcomes.Waiting = λ e. cc e
heard_new id outcomes.Ready = λ e. cc e
heard_new id o = λ e. cc e

learned_new : (id : ℕ) (o : Outcome) → learned_stage id o ≢ New
learned_new id (outcomes.Drawn bytes) = λ e. cc e
learned_new id outcomes.Finished = λ e. cc e
learned_new id o = λ e. cc e

replied_new : (id : ℕ) (o : Outcome) (whole : Bool) → replied_stage id o whole ≢ New
replied_new id (outcomes.Drawn bytes) true = λ e. cc e
replied_new id (outcomes.Drawn bytes) false = λ e. cc e
replied_new id outcomes.Finished whole = λ e. cc e
replied_new id o whole = λ e. cc e

other : (a b : Stage) → a ≡ b → b ≢ New → a ≢ New
other a b is isnt = λ e. isnt (sym is ∙ e)

joins_new : (s : Stage) (t : Trace) (after : Stage) → Joins s t after → after ≢ New
joins_new New t after j = other after _ j.after_is (joined_new j.outcome)
joins_new (Listening id) t after j = other after _ j.1 (λ e. cc e)
joins_new (Waiting id) t after j = other after _ j.1 (λ e. cc e)
joins_new (Replying id) t after j = other after _ j.1 (λ e. cc e)
joins_new Served t after j = other after _ j.1 (λ e. cc e)
joins_new Left t after j = other after _ j.1 (λ e. cc e)

turn_new : (s : Stage) (t : Trace) (after : Stage) → s ≢ New → Turn s t after → after ≢ New
turn_new New t after isnt d = absurd (isnt refl)
turn_new (Listening id) t after isnt d = elim d.does [ inl h ↦ other after _ h.after_is (heard_new id h.outcome) | inr h ↦ other after _ h.after_is (λ e. cc e) ]
turn_new (Waiting id) t after isnt d = other after _ d.1 (λ e. cc e)
turn_new (Replying id) t after isnt d = other after _ d.does.after_is (replied_new id d.does.outcome d.does.whole)
turn_new Served t after isnt d = other after _ d.1 (λ e. cc e)
turn_new Left t after isnt d = other after _ d.1 (λ e. cc e)

learns_new : (s : Stage) (t : Trace) (after : Stage) → s ≢ New → Learns s t after → after ≢ New
learns_new (Waiting id) t after isnt d = other after _ d.does.after_is (learned_new id d.does.outcome)
learns_new New t after isnt d = absurd (isnt refl)
learns_new (Listening id) t after isnt d = other after _ d.1 (λ e. cc e)
learns_new (Replying id) t after isnt d = other after _ d.1 (λ e. cc e)
learns_new Served t after isnt d = other after _ d.1 (λ e. cc e)
learns_new Left t after isnt d = other after _ d.1 (λ e. cc e)

learned_waits : (id : ℕ) (o : Outcome) → is_waiting (learned_stage id o) ≡ false
learned_waits id (outcomes.Drawn bytes) = refl
learned_waits id outcomes.Finished = refl
learned_waits id o = refl

-- who has learned what came of its post waits no more
learns_out : (s : Stage) (t : Trace) (after : Stage) → Learns s t after → is_waiting after ≡ false
learns_out (Waiting id) t after d = ap is_waiting d.does.after_is ∙ learned_waits id d.does.outcome
learns_out New t after d = ap is_waiting d.1
learns_out (Listening id) t after d = ap is_waiting d.1
learns_out (Replying id) t after d = ap is_waiting d.1
learns_out Served t after d = ap is_waiting d.1
learns_out Left t after d = ap is_waiting d.1

ends_closed : (s : Stage) (t : Trace) (after : Stage) → s ≢ New → EndsConnection s t after → is_closed after ≡ true
ends_closed New t after isnt d = absurd (isnt refl)
ends_closed (Listening id) t after isnt d = ap is_closed d.1
ends_closed (Waiting id) t after isnt d = ap is_closed d.1
ends_closed (Replying id) t after isnt d = ap is_closed d.1
ends_closed Served t after isnt d = ap is_closed d.1
ends_closed Left t after isnt d = ap is_closed d.1

pub all_after : {X : Type 0} (step : StepOf X) (P Q : X → Type 0) → ((x y : X) (es : List Event) (os : List Outcome) → P x → step x es os y → Q y) → (xs ys : List X) (es : List Event) (os : List Outcome) → All P xs → StepsInOrder step xs es os ys → All Q ys
all_after step P Q f [] [] es os p d = All-nil Q
all_after step P Q f (x ∷ xs) (y ∷ ys) es os p d = All-cons Q y ys (f x y d.first_events d.first_outcomes (All-head P x xs p) d.first) (all_after step P Q f xs ys d.later_events d.later_outcomes (All-tail P x xs p) d.others)
all_after step P Q f [] (y ∷ ys) es os p d = absurd d
all_after step P Q f (x ∷ xs) [] es os p d = absurd d

pub anything : {X : Type 0} (xs : List X) → All (λ x. Unit {0}) xs
anything xs = λ k d lt. tt

times_keep : {X : Type 0} (step : StepOf X) (P : X → Type 0) → ((x y : X) (es : List Event) (os : List Outcome) → P x → step x es os y → P y) → (n : ℕ) (x y : X) (es : List Event) (os : List Outcome) → P x → Times n step x es os y → P y
times_keep step P f zero x y es os p d = subst P (sym d.2) p
times_keep step P f (suc n) x y es os p d = f d.mid y d.later_events d.later_outcomes (times_keep step P f n x d.mid d.first_events d.first_outcomes p d.first) d.later

pub nobody_waits : {W : Type 0} (calls : W → List WireCall) (old new : List (Connection W)) (es : List Event) (os : List Outcome) → Pass calls old es os new → NobodyWaits new
nobody_waits calls old new es os pass =
    all_after (For calls Learns) (λ c. Unit {0}) (λ c. is_waiting c.stage ≡ false) (λ x y fs ps p d. learns_out x.stage _ y.stage d.does) pass.later.mid new pass.later.later_events pass.later.later_outcomes (anything pass.later.mid) pass.later.later

module _ {W : Type 0} (calls : W → List WireCall) where
  abbrev IsOld : Connection W → Type 0
  IsOld c = c.stage ≢ New

  turns_old : (xs ys : List (Connection W)) (es : List Event) (os : List Outcome) → All IsOld xs → StepsInOrder (For calls Turn) xs es os ys → All IsOld ys
  turns_old xs ys es os p d = all_after (For calls Turn) IsOld IsOld (λ x y gs qs o t. turn_new x.stage _ y.stage o t.does) xs ys es os p d

  pass_old : (xs ys : List (Connection W)) (es : List Event) (os : List Outcome) → All IsOld xs → Pass calls xs es os ys → All IsOld ys
  pass_old xs ys es os p d =
      all_after (For calls Learns) IsOld IsOld (λ x y gs qs o t. learns_new x.stage _ y.stage o t.does) d.later.mid ys d.later.later_events d.later.later_outcomes
      (subst (All IsOld) (sym d.later.first.same) (turns_old xs d.mid d.first_events d.first_outcomes p d.first)) d.later.later

  pub serves_closed : (old new : List (Connection W)) (es : List Event) (os : List Outcome) → Serves calls old es os new → AreClosed new
  serves_closed old new es os s =
      all_after (For calls EndsConnection) IsOld (λ c. is_closed c.stage ≡ true) (λ x y fs ps p d. ends_closed x.stage _ y.stage p d.does) s.later.mid new s.later.later_events s.later.later_outcomes
      (times_keep (Pass calls) (All IsOld) pass_old s.later.first.count s.mid s.later.mid s.later.first_events s.later.first_outcomes
      (all_after (For calls Joins) (λ c. Unit {0}) IsOld (λ x y fs ps p d. joins_new x.stage _ y.stage d.does) old s.mid s.first_events s.first_outcomes (anything old) s.first) s.later.first.passes)
      s.later.later
