-- A request that was served in a turn of the office.
use Rattle.std.proofs.Common.{◌≡◌, ℕ, Bool, true, false, not, ◌&&◌, ◌||◌, Option, Some, None, List, [], ◌∷◌, ◌++◌, refl, sym, ap, subst, ◌∙◌, append_assoc}
use Rattle.std.specs.Prelude.{if◌then◌else◌}
use Rattle.std.proofs.lemmas.List.{append-nil}
use Rattle.group_world.specs.declared.event.Event.{Event}
use Rattle.group_world.specs.declared.event.Outcome.{Outcome}
use Rattle.change_file.specs.declared.fault.ApplyFault.{ApplyFault}
use Rattle.turns.specs.Turns.{trace, nothing, then as one_after}
use Rattle.turns.specs.WireCalls.{WireCall, HasMade, Closed}
use Rattle.admin_office.specs.Offices.{state_of, is_over, TakesTurn, HasRequestTurn, LeavesIf, IsLetGo, IsServed, ForRequest, in_still, Receives, WorksFor}
use Rattle.admin_office.specs.declared.gate_log.Arrival.{Arrival}
use Rattle.admin_office.specs.declared.office.AdminOffice.{AdminOffice}
use Rattle.admin_office.specs.Requests.{TakesStep, is_late}
use Rattle.admin_office.specs.Tasks.{Over}
use Rattle.admin_office.specs.declared.request.Request.{Request}

module _ {W : Type 0} (calls : W → List WireCall) (text : ApplyFault → List ℕ) where
  -- it rests
  pub rested : (called : Bool) (now : ℕ) (request : Request W) → (request.rests && not called) ≡ true → ForRequest calls (HasRequestTurn text called now) request [] [] request
  rested called now request rests = record {
    made = [];
    calls_are = sym (append-nil (calls request.wire));
    does = subst (λ b. TakesTurn text b now (state_of request) nothing (state_of request)) (sym rests) (refl, refl);
  }

  -- it acted
  pub acted : (called : Bool) (now : ℕ) (old new : Request W) (es : List Event) (os : List Outcome) → (old.rests && not called) ≡ false → new.moved ≡ (if new.rests then old.moved else now) → HasMade (calls old.wire) (calls new.wire) (λ made. TakesStep text (state_of old).task (trace made es os) (state_of new).task new.rests) → ForRequest calls (HasRequestTurn text called now) old es os new
  acted called now old new es os acts moved made = record {
    made = made.0;
    calls_are = made.1;
    does = subst (λ b. TakesTurn text b now (state_of old) (trace made.0 es os) (state_of new)) (sym acts) (made.2, moved);
  }

  -- its time is not over, or it is over already
  pub stayed : (now : ℕ) (request : Request W) → (is_late request.moved now && not (is_over (state_of request).task)) ≡ false → ForRequest calls (IsLetGo now) request [] [] request
  stayed now request early = record {
    made = [];
    calls_are = sym (append-nil (calls request.wire));
    does = subst (λ b. LeavesIf b (state_of request) nothing (state_of request)) (sym early) (refl, refl);
  }

  pub went : (now : ℕ) (old new : Request W) → (is_late old.moved now && not (is_over (state_of old).task)) ≡ true → calls new.wire ≡ calls old.wire ++ Closed ∷ [] → (state_of new).task ≡ Over → ForRequest calls (IsLetGo now) old [] [] new
  went now old new late closed over = record {
    made = Closed ∷ [];
    calls_are = closed;
    does = subst (λ b. LeavesIf b (state_of old) (trace (Closed ∷ []) [] []) (state_of new)) (sym late) (refl, over);
  }

  same_trace : (made other : List WireCall) (es : List Event) (os : List Outcome) → trace (made ++ other) es os ≡ one_after (trace made es os) (trace other [] [])
  same_trace made other es os = ap (λ l. trace (made ++ other) l os) (sym (append-nil es)) ∙ ap (λ l. trace (made ++ other) (es ++ []) l) (sym (append-nil os))

  pub served : (called : Bool) (now : ℕ) (old mid new : Request W) (es : List Event) (os : List Outcome) → ForRequest calls (HasRequestTurn text called now) old es os mid → ForRequest calls (IsLetGo now) mid [] [] new → ForRequest calls (IsServed text called now) old es os new
  served called now old mid new es os turn goes = record {
    made = turn.made ++ goes.made;
    calls_are = goes.calls_are ∙ ap (λ l. l ++ goes.made) turn.calls_are ∙ append_assoc (calls old.wire) turn.made goes.made;
    does = record {
      mid = state_of mid;
      first = trace turn.made es os;
      last = trace goes.made [] [];
      turn = turn.does;
      dismissed = goes.does;
      is = same_trace turn.made goes.made es os;
    };
  }

module _ {W G T : Type 0} (calls : W → List WireCall) (answers : G → List Arrival) (text : ApplyFault → List ℕ) (called : Bool) (now : ℕ) (old : AdminOffice G W T) (was : Option (Request W)) where
  -- a request is in
  pub worked_for : (request after : Request W) (es : List Event) (os : List Outcome) (new : AdminOffice G W T) → was ≡ Some request → ForRequest calls (IsServed text called now) request es os after → new.request ≡ in_still after → new.gate ≡ old.gate → new.knocks ≡ (old.knocks || called) →
      WorksFor calls answers text was called now old es os new
  worked_for request after es os new is served in_is gate knocks = subst (λ r. WorksFor calls answers text r called now old es os new) (sym is) (after, served, in_is, gate, knocks)

  -- nobody is
  pub worked_for_nobody : (new : AdminOffice G W T) → was ≡ None → Receives calls answers (old.knocks || called) now old.gate new → WorksFor calls answers text was called now old [] [] new
  worked_for_nobody new is received = subst (λ r. WorksFor calls answers text r called now old [] [] new) (sym is) (refl, refl, received)
