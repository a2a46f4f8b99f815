-- What is done in a turn, put together.
use Rattle.std.proofs.Common.{◌≡◌, ◌⊎◌, inl, inr, ⊎_elim, ℕ, suc, ◌+◌, ◌≤◌, ◌<◌, add-one, Bool, true, false, List, [], ◌∷◌, ◌++◌, length, take, refl, sym, ap, subst, ◌∙◌, append_assoc, arith, Result, Ok, Err, min}
use Rattle.std.proofs.lemmas.List.{append-nil, take_all, length-take}
use Rattle.std.proofs.lemmas.Bool.{cases_lt}
use Rattle.group_world.specs.declared.event.Event.{Event}
use Rattle.group_world.specs.declared.event.Event.TheVariants as events
use Rattle.group_world.specs.declared.event.Outcome.{Outcome}
use Rattle.group_world.specs.declared.event.Outcome.TheVariants as outcomes
use Rattle.group_world.specs.declared.answer.InputStatus.{InputStatus}
use Rattle.group_world.specs.declared.answer.InputStatus.TheVariants as statuses
use Rattle.group_world.specs.declared.fault.HubFault.{HubFault}
use Rattle.group_world.specs.declared.fault.HubFault.TheVariants as faults
use Rattle.group_world.specs.Outcomes.{join_outcome, heard_outcome, bytes_outcome, draw_outcome}
use Rattle.group_world.specs.declared.answer.Drawn.{Drawn}
use Rattle.group_world.specs.declared.answer.Drawn.TheVariants as drawn
use Rattle.turns.specs.Runs.{moment_of}
use Rattle.turns.specs.WireCalls.{WireCall, Read, ReadFailed, Closed, HasMade, IsSent}
use Rattle.turns.specs.Turns.{Trace, trace, nothing, is_closed, For, Turn, Learns, EndsConnection, Joins, ActsInOneTurn, Follows, LeavesAndCloses, HearsOneRead, HearsNothing, IsTold, AsksForReply, DrawsAndSends, StepOf, StepsInOrder, Times, Both, IsFlushed, Pass, AreClosed, MakesPasses, heard_event, heard_stage, heard_reply, drawn_bytes, learned_stage, replied_stage, joined_stage, joined_calls}
use Rattle.turns.specs.declared.connection.Connection.{Connection}
use Rattle.turns.specs.declared.connection.Stage.{Stage}
use Rattle.turns.specs.declared.connection.Stage.TheVariants.{New, Listening, Waiting, Replying, Served, Left}
use Rattle.turns.proofs.Sendings.{sent_none}

abbrev ok_of : Drawn → Result Drawn HubFault
ok_of d = Ok d

-- no more bytes are drawn than there is room for
pub draws_few : (room : ℕ) (result : Result Drawn HubFault) (buffer : List ℕ) → length buffer ≡ room → length (drawn_bytes (draw_outcome result buffer)) ≤ room
draws_few room (Ok (drawn.Bytes n)) buffer size = omega (arith, size, length-take n buffer)
draws_few room (Ok drawn.Finished) buffer size = omega arith
draws_few room (Err fault) buffer size = omega arith

pub sent_nothing : (calls : List WireCall) (bytes : List ℕ) → bytes ≡ [] → HasMade calls calls (λ made. (whole : Bool) × IsSent bytes made whole)
sent_nothing calls bytes none =
    let s = sent_none calls in
    (s.0, s.1, (true, subst (λ b. IsSent b s.0 true) (sym none) s.2))

-- a sending, whichever way it ended
pub sent_somehow : (old new : List WireCall) (bytes : List ℕ) (whole : Bool) → HasMade old new (λ made. IsSent bytes made whole) → HasMade old new (λ made. (w : Bool) × IsSent bytes made w)
sent_somehow old new bytes whole s = (s.0, s.1, (whole, s.2))

-- the moment of what is heard
pub heard_moment : (id now : ℕ) (piece : List ℕ) → moment_of (heard_event id piece now) ≡ now ∷ []
heard_moment id now [] = refl
heard_moment id now (b ∷ bytes) = refl

-- a read, and the sending of a reply to it
pub heard_made : (id : ℕ) (old mid new : List WireCall) (piece : List ℕ) (es : List Event) (os : List Outcome) (outcome : Outcome) (after : Stage) → length piece ≤ 512 → mid ≡ old ++ Read 512 piece ∷ [] → IsTold id piece es os outcome →
    HasMade mid new (λ made. (whole : Bool) × IsSent (heard_reply outcome) made whole) → after ≡ heard_stage id outcome → HasMade old new (λ made. HearsOneRead id (trace made es os) after ⊎ HearsNothing (trace made es os) after)
heard_made id old mid new piece es os outcome after room read told sent is = (
  Read 512 piece ∷ sent.0,
  sent.1 ∙ ap (λ l. l ++ sent.0) read ∙ append_assoc old (Read 512 piece ∷ []) sent.0,
  inl (record {
    piece = piece;
    outcome = outcome;
    sent = sent.0;
    whole = sent.2.0;
    room = room;
    calls_are = refl;
    told = told;
    reply = sent.2.1;
    after_is = is;
  }),
)

pub heard_nothing : (id : ℕ) (old new : List WireCall) (after : Stage) → new ≡ old ++ ReadFailed 512 ∷ [] → after ≡ Left → HasMade old new (λ made. HearsOneRead id (trace made [] []) after ⊎ HearsNothing (trace made [] []) after)
heard_nothing id old new after read is = (ReadFailed 512 ∷ [], read, inr (record { is = refl; after_is = is }))

-- a draw, and its sending
pub replied_made : (id : ℕ) (old new : List WireCall) (outcome : Outcome) (whole : Bool) (after : Stage) → length (drawn_bytes outcome) ≤ 512 → HasMade old new (λ made. IsSent (drawn_bytes outcome) made whole) → after ≡ replied_stage id outcome whole → HasMade old new (λ made. DrawsAndSends id (trace made (events.Draw id 512 ∷ []) (outcome ∷ [])) after)
replied_made id old new outcome whole after room sent is = (sent.0, sent.1, record { outcome = outcome; whole = whole; room = room; events_are = refl; outcomes_are = refl; sent = sent.2; after_is = is })

-- a session whose post waited is asked, and its client hears of what came of it
pub asked_made : (id : ℕ) (old new : List WireCall) (outcome : Outcome) (after : Stage) → length (drawn_bytes outcome) ≤ 0 → HasMade old new (λ made. (whole : Bool) × IsSent (heard_reply outcome) made whole) → after ≡ learned_stage id outcome → HasMade old new (λ made. AsksForReply id (trace made (events.Draw id 0 ∷ []) (outcome ∷ [])) after)
asked_made id old new outcome after few sent is =
    (sent.0, sent.1, record { outcome = outcome; whole = sent.2.0; none = none_of (drawn_bytes outcome) few; events_are = refl; outcomes_are = refl; sent = sent.2.1; after_is = is })
  where
    none_of : (bytes : List ℕ) → length bytes ≤ 0 → bytes ≡ []
    none_of [] few = refl
    none_of (b ∷ bytes) few = absurd (omega (arith, few))

-- its reply stands
pub learned_well : (id : ℕ) (calls : List WireCall) (result : Result Drawn HubFault) (d : Drawn) (buffer : List ℕ) → length buffer ≡ 0 → result ≡ Ok d → HasMade calls calls (λ made. AsksForReply id (trace made (events.Draw id 0 ∷ []) (draw_outcome result buffer ∷ [])) (Replying id))
learned_well id calls result d buffer size is = asked_made id calls calls (draw_outcome result buffer) (Replying id) (draws_few 0 result buffer size)
    (sent_nothing calls (heard_reply (draw_outcome result buffer)) (ap (λ r. heard_reply (draw_outcome r buffer)) is ∙ unheard d)) (sym (ap (λ r. learned_stage id (draw_outcome r buffer)) is ∙ replies d))
  where
    unheard : (d : Drawn) → heard_reply (draw_outcome (ok_of d) buffer) ≡ []
    unheard (drawn.Bytes n) = refl
    unheard drawn.Finished = refl

    replies : (d : Drawn) → learned_stage id (draw_outcome (ok_of d) buffer) ≡ Replying id
    replies (drawn.Bytes n) = refl
    replies drawn.Finished = refl

-- or a fault, of which it may hear
pub learned_fault : (id : ℕ) (old new : List WireCall) (result : Result Drawn HubFault) (fault : HubFault) (buffer : List ℕ) → length buffer ≡ 0 → result ≡ Err fault → HasMade old new (λ made. (whole : Bool) × IsSent (heard_reply (outcomes.Fault fault)) made whole) →
    HasMade old new (λ made. AsksForReply id (trace made (events.Draw id 0 ∷ []) (draw_outcome result buffer ∷ [])) Left)
learned_fault id old new result fault buffer size is sent = asked_made id old new (draw_outcome result buffer) Left (draws_few 0 result buffer size)
    (sent.0, sent.1, (sent.2.0, subst (λ o. IsSent (heard_reply o) sent.0 sent.2.0) (sym outcome) sent.2.1)) (ap (learned_stage id) (sym outcome))
  where
    outcome : draw_outcome result buffer ≡ outcomes.Fault fault
    outcome = ap (λ r. draw_outcome r buffer) is

pub left_made : (id : ℕ) (old new : List WireCall) (outcome : Outcome) → new ≡ old ++ Closed ∷ [] → HasMade old new (λ made. LeavesAndCloses id (trace made (events.Leave id ∷ []) (outcome ∷ [])))
left_made id old new outcome closed = (Closed ∷ [], closed, record { outcome = outcome; is = refl })

pub follows_closed : (id : ℕ) (after : Stage) (old new : List WireCall) (es : List Event) (os : List Outcome) → is_closed after ≡ true → HasMade old new (λ made. LeavesAndCloses id (trace made es os)) → HasMade old new (λ made. Follows id (is_closed after) (trace made es os))
follows_closed id after old new es os closed m = (m.0, m.1, subst (λ b. Follows id b (trace m.0 es os)) (sym closed) m.2)

pub follows_open : (id : ℕ) (after : Stage) (calls : List WireCall) → is_closed after ≡ false → HasMade calls calls (λ made. Follows id (is_closed after) (trace made [] []))
follows_open id after calls is_open = ([], sym (append-nil calls), subst (λ b. Follows id b nothing) (sym is_open) refl)

-- a turn is what is done, and what follows
takes_made : (id : ℕ) (Does : Trace → Stage → Type 0) (old mid new : List WireCall) (after : Stage) (es fs : List Event) (os ps : List Outcome) → HasMade old mid (λ made. Does (trace made es os) after) → HasMade mid new (λ made. Follows id (is_closed after) (trace made fs ps)) →
    HasMade old new (λ made. ActsInOneTurn id Does (trace made (es ++ fs) (os ++ ps)) after)
takes_made id Does old mid new after es fs os ps first second =
    (first.0 ++ second.0, second.1 ∙ ap (λ l. l ++ second.0) first.1 ∙ append_assoc old first.0 second.0, record { done = trace first.0 es os; rest = trace second.0 fs ps; is = refl; does = first.2; follows = second.2 })

module _ {W : Type 0} (calls : W → List WireCall) (old new : Connection W) where
  pub listened : (id : ℕ) (after : Stage) (mid : List WireCall) (es fs : List Event) (os ps : List Outcome) → old.stage ≡ Listening id → new.stage ≡ after → HasMade (calls old.wire) mid (λ made. HearsOneRead id (trace made es os) after ⊎ HearsNothing (trace made es os) after) →
      HasMade mid (calls new.wire) (λ made. Follows id (is_closed after) (trace made fs ps)) → For calls Turn old (es ++ fs) (os ++ ps) new
  listened id after mid es fs os ps was is first second =
      let m = takes_made id (λ t s. HearsOneRead id t s ⊎ HearsNothing t s) (calls old.wire) mid (calls new.wire) after es fs os ps first second in
      record { made = m.0; calls_are = m.1; does = subst (λ s. Turn s (trace m.0 (es ++ fs) (os ++ ps)) new.stage) (sym was) (subst (λ s. Turn (Listening id) (trace m.0 (es ++ fs) (os ++ ps)) s) (sym is) m.2) }

  pub replied : (id : ℕ) (after : Stage) (mid : List WireCall) (es fs : List Event) (os ps : List Outcome) → old.stage ≡ Replying id → new.stage ≡ after → HasMade (calls old.wire) mid (λ made. DrawsAndSends id (trace made es os) after) →
      HasMade mid (calls new.wire) (λ made. Follows id (is_closed after) (trace made fs ps)) → For calls Turn old (es ++ fs) (os ++ ps) new
  replied id after mid es fs os ps was is first second =
      let m = takes_made id (DrawsAndSends id) (calls old.wire) mid (calls new.wire) after es fs os ps first second in
      record { made = m.0; calls_are = m.1; does = subst (λ s. Turn s (trace m.0 (es ++ fs) (os ++ ps)) new.stage) (sym was) (subst (λ s. Turn (Replying id) (trace m.0 (es ++ fs) (os ++ ps)) s) (sym is) m.2) }

  pub learned : (id : ℕ) (after : Stage) (mid : List WireCall) (es fs : List Event) (os ps : List Outcome) → old.stage ≡ Waiting id → new.stage ≡ after → HasMade (calls old.wire) mid (λ made. AsksForReply id (trace made es os) after) →
      HasMade mid (calls new.wire) (λ made. Follows id (is_closed after) (trace made fs ps)) → For calls Learns old (es ++ fs) (os ++ ps) new
  learned id after mid es fs os ps was is first second =
      let m = takes_made id (AsksForReply id) (calls old.wire) mid (calls new.wire) after es fs os ps first second in
      record { made = m.0; calls_are = m.1; does = subst (λ s. Learns s (trace m.0 (es ++ fs) (os ++ ps)) new.stage) (sym was) (subst (λ s. Learns (Waiting id) (trace m.0 (es ++ fs) (os ++ ps)) s) (sym is) m.2) }

  -- nothing is done for a connection that is as it was
  pub does_nothing : (Does : Stage → Trace → Stage → Type 0) → new ≡ old → Does old.stage nothing old.stage → For calls Does old [] [] new
  does_nothing Does same rests = subst (λ c. For calls Does old [] [] c) (sym same) (record { made = []; calls_are = sym (append-nil (calls old.wire)); does = rests })

-- one pass more
pub times_more : {X : Type 0} (n : ℕ) (step : StepOf X) (old mid new : X) (es fs : List Event) (os ps : List Outcome) → Times n step old es os mid → step mid fs ps new → Times (suc n) step old (es ++ fs) (os ++ ps) new
times_more n step old mid new es fs os ps before one = record { mid = mid; first_events = es; first_outcomes = os; later_events = fs; later_outcomes = ps; first = before; later = one; events_are = refl; outcomes_are = refl }

pub both_made : {X : Type 0} (First Second : StepOf X) (old mid new : X) (es fs : List Event) (os ps : List Outcome) → First old es os mid → Second mid fs ps new → Both First Second old (es ++ fs) (os ++ ps) new
both_made First Second old mid new es fs os ps first later = record { mid = mid; first_events = es; first_outcomes = os; later_events = fs; later_outcomes = ps; first = first; later = later; events_are = refl; outcomes_are = refl }

-- the posts that wait are made
pub flush_made : {X : Type 0} (x : X) (outcome : Outcome) → IsFlushed x (events.Flush ∷ []) (outcome ∷ []) x
flush_made x outcome = record { outcome = outcome; events_are = refl; outcomes_are = refl; same = refl }

-- ---- outcomes of the hub's calls

pub heard_is : (answer : Result InputStatus HubFault) (status : InputStatus) → answer ≡ Ok status → bytes_outcome answer ≡ bytes_outcome (Ok status)
heard_is answer status is = ap bytes_outcome is

pub told_nothing : (fault : HubFault) → ((need free : ℕ) → fault ≡ faults.Full need free → ⊥) → (fault ≡ faults.Crowded → ⊥) → (fault ≡ faults.NotReady → ⊥) → heard_reply (outcomes.Fault fault) ≡ []
told_nothing (faults.Full need free) full crowded waits = absurd (full need free refl)
told_nothing faults.Crowded full crowded waits = absurd (crowded refl)
told_nothing faults.NotReady full crowded waits = absurd (waits refl)
told_nothing fault full crowded waits = refl

pub fault_is : (answer : Result InputStatus HubFault) (fault : HubFault) → answer ≡ Err fault → bytes_outcome answer ≡ outcomes.Fault fault
fault_is answer fault is = ap bytes_outcome is

pub drawn_is : (result : Result Drawn HubFault) (d : Drawn) (count : ℕ) (buffer : List ℕ) → result ≡ Ok d → d ≡ drawn.Bytes count → draw_outcome result buffer ≡ outcomes.Drawn (take count buffer)
drawn_is result d count buffer is which = ap (λ r. draw_outcome r buffer) is ∙ ap (λ (x : Drawn). draw_outcome (ok_of x) buffer) which

-- as many as fit
pub take_min : (count room : ℕ) (buffer : List ℕ) → length buffer ≡ room → take (min count room) buffer ≡ take count buffer
take_min count room buffer size = ⊎_elim (λ (lt : room < count). ap (λ n. take n buffer) (omega arith) ∙ take_all room buffer (omega (arith, size)) ∙ sym (take_all count buffer (omega (arith, size)))) (λ (le : count ≤ room). ap (λ n. take n buffer) (omega arith)) (cases_lt room count)

pub replied_drawn : (id : ℕ) (old new : List WireCall) (outcome : Outcome) (bytes : List ℕ) (whole : Bool) (after : Stage) → length (drawn_bytes outcome) ≤ 512 → outcome ≡ outcomes.Drawn bytes → HasMade old new (λ made. IsSent bytes made whole) → after ≡ replied_stage id (outcomes.Drawn bytes) whole →
    HasMade old new (λ made. DrawsAndSends id (trace made (events.Draw id 512 ∷ []) (outcome ∷ [])) after)
replied_drawn id old new outcome bytes whole after room is sent so =
    replied_made id old new outcome whole after room (sent.0, sent.1, subst (λ b. IsSent b sent.0 whole) (sym (ap drawn_bytes is)) sent.2) (so ∙ ap (λ o. replied_stage id o whole) (sym is))

pub replied_finished : (id : ℕ) (calls : List WireCall) (outcome : Outcome) → length (drawn_bytes outcome) ≤ 512 → outcome ≡ outcomes.Finished → HasMade calls calls (λ made. DrawsAndSends id (trace made (events.Draw id 512 ∷ []) (outcome ∷ [])) Served)
replied_finished id calls outcome room is =
    let sent = sent_none calls in
    replied_made id calls calls outcome true Served room (sent.0, sent.1, subst (λ b. IsSent b sent.0 true) (sym (ap drawn_bytes is)) sent.2) (ap (λ o. replied_stage id o true) (sym is))

pub replied_fault : (id : ℕ) (calls : List WireCall) (outcome : Outcome) (fault : HubFault) → length (drawn_bytes outcome) ≤ 512 → outcome ≡ outcomes.Fault fault → HasMade calls calls (λ made. DrawsAndSends id (trace made (events.Draw id 512 ∷ []) (outcome ∷ [])) Left)
replied_fault id calls outcome fault room is =
    let sent = sent_none calls in
    replied_made id calls calls outcome true Left room (sent.0, sent.1, subst (λ b. IsSent b sent.0 true) (sym (ap drawn_bytes is)) sent.2) (ap (λ o. replied_stage id o true) (sym is))

-- ---- connections for which nothing is done

pub joins_rest : (stage : Stage) → (stage ≡ New → ⊥) → Joins stage nothing stage
joins_rest New other = absurd (other refl)
joins_rest (Listening id) other = (refl, refl)
joins_rest (Waiting id) other = (refl, refl)
joins_rest (Replying id) other = (refl, refl)
joins_rest Served other = (refl, refl)
joins_rest Left other = (refl, refl)

pub turn_rests : (stage : Stage) → ((id : ℕ) → stage ≡ Listening id → ⊥) → ((id : ℕ) → stage ≡ Replying id → ⊥) → Turn stage nothing stage
turn_rests New a b = (refl, refl)
turn_rests (Listening id) a b = absurd (a id refl)
turn_rests (Waiting id) a b = (refl, refl)
turn_rests (Replying id) a b = absurd (b id refl)
turn_rests Served a b = (refl, refl)
turn_rests Left a b = (refl, refl)

pub learns_rests : (stage : Stage) → ((id : ℕ) → stage ≡ Waiting id → ⊥) → Learns stage nothing stage
learns_rests (Waiting id) a = absurd (a id refl)
learns_rests New a = (refl, refl)
learns_rests (Listening id) a = (refl, refl)
learns_rests (Replying id) a = (refl, refl)
learns_rests Served a = (refl, refl)
learns_rests Left a = (refl, refl)

pub ends_rest : (stage : Stage) → ((id : ℕ) → stage ≡ Listening id → ⊥) → ((id : ℕ) → stage ≡ Waiting id → ⊥) → ((id : ℕ) → stage ≡ Replying id → ⊥) → EndsConnection stage nothing stage
ends_rest New a w b = (refl, refl)
ends_rest (Listening id) a w b = absurd (a id refl)
ends_rest (Waiting id) a w b = absurd (w id refl)
ends_rest (Replying id) a w b = absurd (b id refl)
ends_rest Served a w b = (refl, refl)
ends_rest Left a w b = (refl, refl)

-- a session that joined, or could not
pub joined_made : {W : Type 0} (calls : W → List WireCall) (old new : Connection W) (outcome : Outcome) → old.stage ≡ New → calls new.wire ≡ calls old.wire ++ joined_calls outcome → new.stage ≡ joined_stage outcome → For calls Joins old (events.Join ∷ []) (outcome ∷ []) new
joined_made calls old new outcome was called is = record {
  made = joined_calls outcome;
  calls_are = called;
  does = subst (λ s. Joins s (trace (joined_calls outcome) (events.Join ∷ []) (outcome ∷ [])) new.stage) (sym was) (record { outcome = outcome; events_are = refl; outcomes_are = refl; calls_are = refl; after_is = is });
}

pub sent_drawn : (count n : ℕ) (buffer : List ℕ) (old new : List WireCall) (result whole : Bool) → n ≡ min count 512 → length buffer ≡ 512 → result ≡ whole → HasMade old new (λ made. IsSent (take n buffer) made result) → HasMade old new (λ made. IsSent (take count buffer) made whole)
sent_drawn count n buffer old new result whole is size which sent =
    (sent.0, sent.1, subst (λ b. IsSent b sent.0 whole) (ap (λ m. take m buffer) is ∙ take_min count 512 buffer size) (subst (λ w. IsSent (take n buffer) sent.0 w) which sent.2))

pub finished_is : (result : Result Drawn HubFault) (d : Drawn) (buffer : List ℕ) → result ≡ Ok d → d ≡ drawn.Finished → draw_outcome result buffer ≡ outcomes.Finished
finished_is result d buffer is which = ap (λ r. draw_outcome r buffer) is ∙ ap (λ (x : Drawn). draw_outcome (ok_of x) buffer) which

module _ {W : Type 0} (calls : W → List WireCall) (old new : Connection W) (result : Result ℕ HubFault) where
  pub joined_well : (id : ℕ) → old.stage ≡ New → result ≡ Ok id → new.wire ≡ old.wire → new.stage ≡ Listening id → For calls Joins old (events.Join ∷ []) (join_outcome result ∷ []) new
  joined_well id was is wire stage =
      let outcome = ap join_outcome is in
      joined_made calls old new (join_outcome result) was (ap calls wire ∙ sym (append-nil (calls old.wire)) ∙ ap (λ o. calls old.wire ++ joined_calls o) (sym outcome)) (stage ∙ ap joined_stage (sym outcome))

  pub joined_not : (fault : HubFault) → old.stage ≡ New → result ≡ Err fault → calls new.wire ≡ calls old.wire ++ Closed ∷ [] → new.stage ≡ Left → For calls Joins old (events.Join ∷ []) (join_outcome result ∷ []) new
  joined_not fault was is closed stage =
      let outcome = ap join_outcome is in
      joined_made calls old new (join_outcome result) was (closed ∙ ap (λ o. calls old.wire ++ joined_calls o) (sym outcome)) (stage ∙ ap joined_stage (sym outcome))

pub times_next : {X : Type 0} (n : ℕ) (step : StepOf X) (old mid new : X) (es fs : List Event) (os ps : List Outcome) → Times n step old es os mid → step mid fs ps new → Times (n + 1) step old (es ++ fs) (os ++ ps) new
times_next n step old mid new es fs os ps before one = subst (λ m. Times m step old (es ++ fs) (os ++ ps) new) (sym (add-one n)) (times_more n step old mid new es fs os ps before one)

-- the passes end
pub passes_made : {W : Type 0} (calls : W → List WireCall) (count : ℕ) (old new : List (Connection W)) (es : List Event) (os : List Outcome) → count ≤ 1000000 → (count < 1000000 → AreClosed new) → Times count (Pass calls) old es os new → MakesPasses calls old es os new
passes_made calls count old new es os few until passes = record { count = count; few = few; passes = passes; until = until }

-- a client hears nothing of what the hub took
pub says_nothing : (status : InputStatus) → heard_reply (heard_outcome status) ≡ []
says_nothing statuses.More = refl
says_nothing statuses.Ready = refl
says_nothing statuses.Finished = refl
says_nothing statuses.Waiting = refl
