-- What is done for a session in its turn, and how turns make up the whole.
use Rattle.std.specs.Prelude.{◌≡◌, ◌≢◌, ◌⊎◌, ◌≤◌, ◌<◌, ℕ, zero, suc, Bool, true, false, List, [], ◌∷◌, ◌++◌, All, length}
use Rattle.text_writer.specs.Errors.{error_reply}
use Rattle.text_writer.specs.declared.error.ErrorText.TheVariants.{TryAgainLater}
use Rattle.group_world.specs.declared.event.Event.{Event}
use Rattle.group_world.specs.declared.event.Event.TheVariants as events
use Rattle.group_world.specs.declared.event.Outcome.{Outcome}
use Rattle.group_world.specs.declared.event.Outcome.TheVariants as outcomes
use Rattle.group_world.specs.declared.fault.HubFault.TheVariants.{Full, Crowded, NotReady}
use Rattle.turns.specs.WireCalls.{WireCall, Read, ReadFailed, Closed, IsSent}
use Rattle.turns.specs.declared.connection.Connection.{Connection}
use Rattle.turns.specs.declared.connection.Stage.{Stage}
use Rattle.turns.specs.declared.connection.Stage.TheVariants.{New, Listening, Waiting, Replying, Served, Left}

-- ---- one connection

-- how many bytes a read asks for
abbrev pub piece_size : ℕ
piece_size = 512

-- What was done for one connection: the calls of its wire, and the events of the hub with their outcomes.
pub record Trace : Type 0 where
  pub calls : List WireCall
  pub events : List Event
  pub outcomes : List Outcome

abbrev pub trace : List WireCall → List Event → List Outcome → Trace
trace made es os = record { calls = made; events = es; outcomes = os }

abbrev pub nothing : Trace
nothing = trace [] [] []

-- one thing and then another
abbrev pub then : Trace → Trace → Trace
then s t = record { calls = s.calls ++ t.calls; events = s.events ++ t.events; outcomes = s.outcomes ++ t.outcomes }

abbrev pub is_closed : Stage → Bool
is_closed New = false
is_closed (Listening id) = false
is_closed (Waiting id) = false
is_closed (Replying id) = false
is_closed Served = true
is_closed Left = true

abbrev pub is_served : Stage → Bool
is_served Served = true
is_served stage = false

-- A session joins, or its wire is closed.
abbrev pub joined_stage : Outcome → Stage
joined_stage (outcomes.Joined id) = Listening id
joined_stage outcome = Left

abbrev pub joined_calls : Outcome → List WireCall
joined_calls (outcomes.Joined id) = []
joined_calls outcome = Closed ∷ []

pub record IsJoin (t : Trace) (after : Stage) : Type 0 where
  pub outcome : Outcome
  pub events_are : t.events ≡ events.Join ∷ []
  pub outcomes_are : t.outcomes ≡ outcome ∷ []
  pub calls_are : t.calls ≡ joined_calls outcome
  pub after_is : after ≡ joined_stage outcome

-- What a read is to the session: no bytes are the end of its input.
abbrev pub heard_event : ℕ → List ℕ → ℕ → Event
heard_event id [] now = events.End id now
heard_event id (b ∷ bytes) now = events.Bytes id (b ∷ bytes) now

abbrev pub heard_stage : ℕ → Outcome → Stage
heard_stage id outcomes.More = Listening id
heard_stage id outcomes.Waiting = Waiting id
heard_stage id outcomes.Ready = Replying id
heard_stage id outcome = Left

-- A client is asked to try again later where there is no room for its post, too many wait, or its own still waits once the others were made; it hears of no other fault.
abbrev pub heard_reply : Outcome → List ℕ
heard_reply (outcomes.Fault (Full need free)) = error_reply true TryAgainLater []
heard_reply (outcomes.Fault Crowded) = error_reply true TryAgainLater []
heard_reply (outcomes.Fault NotReady) = error_reply true TryAgainLater []
heard_reply outcome = []

-- The hub gets a read as one event at a moment. Where no more posts may wait those that do are made, and it gets it once more, at a later moment; what it answers last counts.
pub data IsTold (id : ℕ) (piece : List ℕ) (es : List Event) (os : List Outcome) (outcome : Outcome) : Type 0 where
  once : (now : ℕ) → es ≡ heard_event id piece now ∷ [] → os ≡ outcome ∷ [] → outcome ≢ outcomes.Fault Crowded → IsTold id piece es os outcome
  again : (now later : ℕ) (flushed : Outcome) → es ≡ heard_event id piece now ∷ events.Flush ∷ heard_event id piece later ∷ [] → os ≡ outcomes.Fault Crowded ∷ flushed ∷ outcome ∷ [] → IsTold id piece es os outcome

-- One read into room for 512 bytes, of which the hub is told.
pub record HearsOneRead (id : ℕ) (t : Trace) (after : Stage) : Type 0 where
  pub piece : List ℕ
  pub outcome : Outcome
  pub sent : List WireCall
  pub whole : Bool
  pub room : length piece ≤ piece_size
  pub calls_are : t.calls ≡ Read piece_size piece ∷ sent
  pub told : IsTold id piece t.events t.outcomes outcome
  pub reply : IsSent (heard_reply outcome) sent whole
  pub after_is : after ≡ heard_stage id outcome

-- A read that failed: the hub gets nothing.
pub record HearsNothing (t : Trace) (after : Stage) : Type 0 where
  pub is : t ≡ trace (ReadFailed piece_size ∷ []) [] []
  pub after_is : after ≡ Left

abbrev pub drawn_bytes : Outcome → List ℕ
drawn_bytes (outcomes.Drawn bytes) = bytes
drawn_bytes outcome = []

-- A session goes on where all that was drawn was taken, and is served where nothing was left to be drawn.
abbrev pub replied_stage : ℕ → Outcome → Bool → Stage
replied_stage id (outcomes.Drawn bytes) true = Replying id
replied_stage id (outcomes.Drawn bytes) false = Left
replied_stage id outcomes.Finished whole = Served
replied_stage id outcome whole = Left

-- One draw of at most 512 bytes, which are sent.
pub record DrawsAndSends (id : ℕ) (t : Trace) (after : Stage) : Type 0 where
  pub outcome : Outcome
  pub whole : Bool
  pub room : length (drawn_bytes outcome) ≤ piece_size
  pub events_are : t.events ≡ events.Draw id piece_size ∷ []
  pub outcomes_are : t.outcomes ≡ outcome ∷ []
  pub sent : IsSent (drawn_bytes outcome) t.calls whole
  pub after_is : after ≡ replied_stage id outcome whole

-- A session whose post waited is asked by a draw of no bytes: a reply stands, or it leaves; its client is asked to try again later where the post still waits.
abbrev pub learned_stage : ℕ → Outcome → Stage
learned_stage id (outcomes.Drawn bytes) = Replying id
learned_stage id outcomes.Finished = Replying id
learned_stage id outcome = Left

pub record AsksForReply (id : ℕ) (t : Trace) (after : Stage) : Type 0 where
  pub outcome : Outcome
  pub whole : Bool
  pub none : drawn_bytes outcome ≡ []
  pub events_are : t.events ≡ events.Draw id 0 ∷ []
  pub outcomes_are : t.outcomes ≡ outcome ∷ []
  pub sent : IsSent (heard_reply outcome) t.calls whole
  pub after_is : after ≡ learned_stage id outcome

-- A session leaves, and its wire is closed.
pub record LeavesAndCloses (id : ℕ) (t : Trace) : Type 0 where
  pub outcome : Outcome
  pub is : t ≡ trace (Closed ∷ []) (events.Leave id ∷ []) (outcome ∷ [])

-- What follows in the same turn: a session that doesn't go on leaves.
abbrev pub Follows : ℕ → Bool → Trace → Type 0
Follows id true t = LeavesAndCloses id t
Follows id false t = t ≡ nothing

-- One turn of the session: what it does, and what follows.
pub record ActsInOneTurn (id : ℕ) (Does : Trace → Stage → Type 0) (t : Trace) (after : Stage) : Type 0 where
  pub done : Trace
  pub rest : Trace
  pub is : t ≡ then done rest
  pub does : Does done after
  pub follows : Follows id (is_closed after) rest

-- Nothing is done.
abbrev pub Rests : Stage → Trace → Stage → Type 0
Rests before t after = (t ≡ nothing) × (after ≡ before)

-- What is done for a connection at the start: one that is new joins.
abbrev pub Joins : Stage → Trace → Stage → Type 0
Joins New t after = IsJoin t after
Joins stage t after = Rests stage t after

-- One turn of a connection: one read or one draw, with its writes.
abbrev pub Turn : Stage → Trace → Stage → Type 0
Turn (Listening id) t after = ActsInOneTurn id (λ s stage. HearsOneRead id s stage ⊎ HearsNothing s stage) t after
Turn (Replying id) t after = ActsInOneTurn id (DrawsAndSends id) t after
Turn stage t after = Rests stage t after

-- What is done for a connection behind a pass, once the posts that wait were made: a session whose post waited learns what came of it.
abbrev pub Learns : Stage → Trace → Stage → Type 0
Learns (Waiting id) t after = ActsInOneTurn id (AsksForReply id) t after
Learns stage t after = Rests stage t after

-- What is done for a connection at the end: one that is still open leaves.
abbrev pub EndsConnection : Stage → Trace → Stage → Type 0
EndsConnection (Listening id) t after = LeavesAndCloses id t × (after ≡ Left)
EndsConnection (Waiting id) t after = LeavesAndCloses id t × (after ≡ Left)
EndsConnection (Replying id) t after = LeavesAndCloses id t × (after ≡ Left)
EndsConnection stage t after = Rests stage t after

-- ---- connections

-- a step from one value to another, by events with these outcomes
abbrev pub StepOf : Type 0 → Type 1
StepOf X = X → List Event → List Outcome → X → Type 0

-- This is done for a connection.
pub record For {W : Type 0} (calls : W → List WireCall) (Does : Stage → Trace → Stage → Type 0) (old : Connection W) (es : List Event) (os : List Outcome) (new : Connection W) : Type 0 where
  pub made : List WireCall
  pub calls_are : calls new.wire ≡ calls old.wire ++ made
  pub does : Does old.stage (trace made es os) new.stage

-- one step and then another
pub record Both {X : Type 0} (First Second : StepOf X) (old : X) (es : List Event) (os : List Outcome) (new : X) : Type 0 where
  pub mid : X
  pub first_events : List Event
  pub first_outcomes : List Outcome
  pub later_events : List Event
  pub later_outcomes : List Outcome
  pub first : First old first_events first_outcomes mid
  pub later : Second mid later_events later_outcomes new
  pub events_are : es ≡ first_events ++ later_events
  pub outcomes_are : os ≡ first_outcomes ++ later_outcomes

-- one step for the first, and then others
pub record OneOf {X : Type 0} (step : StepOf X) (x y : X) (Others : List Event → List Outcome → Type 0) (es : List Event) (os : List Outcome) : Type 0 where
  pub first_events : List Event
  pub first_outcomes : List Outcome
  pub later_events : List Event
  pub later_outcomes : List Outcome
  pub first : step x first_events first_outcomes y
  pub others : Others later_events later_outcomes
  pub events_are : es ≡ first_events ++ later_events
  pub outcomes_are : os ≡ first_outcomes ++ later_outcomes

-- For each in order one step.
abbrev pub StepsInOrder : {X : Type 0} → StepOf X → StepOf (List X)
StepsInOrder step [] es os [] = (es ≡ []) × (os ≡ [])
StepsInOrder step (x ∷ xs) es os (y ∷ ys) = OneOf step x y (λ fs ps. StepsInOrder step xs fs ps ys) es os
StepsInOrder step [] es os (y ∷ ys) = ⊥
StepsInOrder step (x ∷ xs) es os [] = ⊥

-- so many times one after another
abbrev pub Times : {X : Type 0} → ℕ → StepOf X → StepOf X
Times zero step old es os new = (es ≡ []) × (os ≡ []) × (new ≡ old)
Times (suc n) step old es os new = Both (λ x fs ps y. Times n step x fs ps y) step old es os new

abbrev pub AreClosed : {W : Type 0} → List (Connection W) → Type 0
AreClosed connections = All (λ c. is_closed c.stage ≡ true) connections

-- The posts that wait are made, and nothing is done for a connection.
pub record IsFlushed {X : Type 0} (old : X) (es : List Event) (os : List Outcome) (new : X) : Type 0 where
  pub outcome : Outcome
  pub events_are : es ≡ events.Flush ∷ []
  pub outcomes_are : os ≡ outcome ∷ []
  pub same : new ≡ old

-- One pass: each connection has one turn, in order; then the posts that wait are made, and each session whose post waited learns what came of it, in order.
abbrev pub Pass : {W : Type 0} → (W → List WireCall) → StepOf (List (Connection W))
Pass calls old es os new = Both (StepsInOrder (For calls Turn)) (Both IsFlushed (StepsInOrder (For calls Learns))) old es os new

abbrev pub is_waiting : Stage → Bool
is_waiting (Waiting id) = true
is_waiting stage = false

-- no post of theirs waits
abbrev pub NobodyWaits : {W : Type 0} → List (Connection W) → Type 0
NobodyWaits connections = All (λ c. is_waiting c.stage ≡ false) connections

-- Passes over all connections; they end where all are closed, or after 1,000,000.
pub record MakesPasses {W : Type 0} (calls : W → List WireCall) (old : List (Connection W)) (es : List Event) (os : List Outcome) (new : List (Connection W)) : Type 0 where
  pub count : ℕ
  pub few : count ≤ 1000000
  pub passes : Times count (Pass calls) old es os new
  pub until : count < 1000000 → AreClosed new

-- All that is done for some connections: those that are new join in order, passes are made over all, and who is still open leaves.
abbrev pub Serves : {W : Type 0} → (W → List WireCall) → StepOf (List (Connection W))
Serves calls old es os new = Both (StepsInOrder (For calls Joins)) (Both (MakesPasses calls) (StepsInOrder (For calls EndsConnection))) old es os new
