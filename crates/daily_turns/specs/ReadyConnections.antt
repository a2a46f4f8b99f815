-- What is done for a session in its turn, where its wire is ready.
use Rattle.std.specs.Prelude.{◌≡◌, ◌≢◌, ◌⊎◌, ◌≤◌, ◌==◌, ℕ, Bool, true, false, not, ◌&&◌, List, [], ◌∷◌, ◌++◌, length, Option, Some, None}
use Rattle.text_writer.specs.Errors.{error_reply}
use Rattle.text_writer.specs.declared.error.ErrorText.TheVariants.{TryAgainLater}
use Rattle.old_clients.specs.Clients.{Adapting, HasAnswered, HasClosed, HasHeard, fresh_client, is_through}
use Rattle.group_world.specs.declared.event.Event.{Event}
use Rattle.group_world.specs.declared.event.Event.TheVariants as events
use Rattle.group_world.specs.declared.event.Outcome.{Outcome}
use Rattle.group_world.specs.declared.event.Outcome.TheVariants as outcomes
use Rattle.group_world.specs.declared.fault.HubFault.{HubFault}
use Rattle.group_world.specs.declared.fault.HubFault.TheVariants as faults
use Rattle.turns.specs.WireCalls.{WireCall, HasMade, Read, ReadFailed, ReadWaited, Wrote, WriteFailed, WriteWaited, Closed}
use Rattle.turns.specs.Turns.{Trace, trace, nothing, then, IsTold, drawn_bytes, piece_size}
use Rattle.daily_turns.specs.DrawSizes.{draw_size}
use Rattle.daily_turns.specs.declared.ready_connection.Ending.{Ending}
use Rattle.daily_turns.specs.declared.ready_connection.Ending.TheVariants.{Served, Full, Failed, Cut, Late, Often}
use Rattle.daily_turns.specs.declared.ready_connection.ConnectionStage.{ConnectionStage}
use Rattle.daily_turns.specs.declared.ready_connection.ConnectionStage.TheVariants as stages
use Rattle.daily_turns.specs.declared.ready_connection.ReadyConnection.{ReadyConnection}

-- How far a session is, which bytes its wire has not taken yet, and whether it rests until its wire is ready again.
pub record ConnectionState : Type 0 where
  pub stage : ConnectionStage
  pub unsent : List ℕ
  pub waits : Bool

abbrev pub at : ConnectionStage → List ℕ → Bool → ConnectionState
at stage unsent waits = record { stage = stage; unsent = unsent; waits = waits }

abbrev pub state_of : {W : Type 0} → ReadyConnection W → ConnectionState
state_of connection = at connection.stage connection.unsent.items connection.waits

-- a session that goes no further: the rest is to be sent, and then its wire is closed
abbrev pub leaving : Ending → List ℕ → ConnectionState
leaving ending unsent = at (stages.Leaving ending) unsent false

abbrev pub has_left : ConnectionStage → Bool
has_left (stages.Listening id) = false
has_left (stages.Waiting id) = false
has_left (stages.Replying id) = false
has_left (stages.Leaving ending) = true
has_left (stages.Closed ending) = true

-- there is something to do in its turn
abbrev pub acts : ConnectionStage → Bool
acts (stages.Listening id) = true
acts (stages.Waiting id) = false
acts (stages.Replying id) = true
acts (stages.Leaving ending) = true
acts (stages.Closed ending) = false

-- its post waits for others
abbrev pub is_waiting : ConnectionStage → Bool
is_waiting (stages.Waiting id) = true
is_waiting stage = false

-- how the session of a closed wire ended
abbrev pub ending_of : ConnectionStage → Option Ending
ending_of (stages.Closed ending) = Some ending
ending_of stage = None

-- ---- what follows an outcome of the hub

abbrev pub joined_state : Outcome → ConnectionState
joined_state (outcomes.Joined id) = at (stages.Listening id) [] false
joined_state outcome = leaving Failed []

-- A client is asked to try again later where there is no room for its post, too many wait, or its own still waits once the others were made; it hears of no other fault.
abbrev pub refused_state : HubFault → ConnectionState
refused_state (faults.Full need free) = leaving Full (error_reply true TryAgainLater [])
refused_state faults.Crowded = leaving Full (error_reply true TryAgainLater [])
refused_state faults.NotReady = leaving Full (error_reply true TryAgainLater [])
refused_state fault = leaving Failed []

abbrev pub heard_state : ℕ → Outcome → ConnectionState
heard_state id outcomes.More = at (stages.Listening id) [] false
heard_state id outcomes.Waiting = at (stages.Waiting id) [] false
heard_state id outcomes.Ready = at (stages.Replying id) [] false
heard_state id outcomes.Finished = leaving Cut []
heard_state id (outcomes.Fault fault) = refused_state fault
heard_state id outcome = leaving Failed []

-- of a session whose post waited, once the posts were made, by what a draw of no bytes answers
abbrev pub learned_state : ℕ → Outcome → ConnectionState
learned_state id (outcomes.Drawn bytes) = at (stages.Replying id) [] false
learned_state id outcomes.Finished = at (stages.Replying id) [] false
learned_state id (outcomes.Fault fault) = refused_state fault
learned_state id outcome = leaving Failed []

-- where this part is sent of what was drawn
abbrev pub drawn_state : ℕ → Outcome → List ℕ → ConnectionState
drawn_state id (outcomes.Drawn bytes) part = at (stages.Replying id) part false
drawn_state id outcomes.Finished part = leaving Served part
drawn_state id outcome part = leaving Failed []

-- ---- what is done in a turn

-- all of a piece is held back
abbrev pub is_held : List ℕ → List ℕ → Bool
is_held piece passed = not (length piece == 0) && (length passed == 0)

-- The hub is told of what was passed on, or nothing where all was held back.
abbrev pub TellsUnless : Bool → ℕ → List ℕ → List Event → List Outcome → ConnectionState → Type 0
TellsUnless true id passed es os after = (es ≡ []) × (os ≡ []) × (after ≡ at (stages.Listening id) [] false)
TellsUnless false id passed es os after = (outcome : Outcome) × IsTold id passed es os outcome × (after ≡ heard_state id outcome)

-- A piece was heard by the client's adapter, and the hub is told of what that passed on.
pub record HearsPiece (old new : Adapting) (id : ℕ) (piece : List ℕ) (es : List Event) (os : List Outcome) (after : ConnectionState) : Type 0 where
  pub passed : List ℕ
  pub heard : HasHeard old piece passed new
  pub told : TellsUnless (is_held piece passed) id passed es os after

-- One read into room for 512 bytes, which are heard.
pub record HearsRead (old new : Adapting) (id : ℕ) (t : Trace) (after : ConnectionState) : Type 0 where
  pub piece : List ℕ
  pub room : length piece ≤ piece_size
  pub calls_are : t.calls ≡ Read piece_size piece ∷ []
  pub hears : HearsPiece old new id piece t.events t.outcomes after

-- A read that failed: the hub gets nothing.
abbrev pub FailsToRead : Trace → ConnectionState → Type 0
FailsToRead t after = (t ≡ trace (ReadFailed piece_size ∷ []) [] []) × (after ≡ leaving Cut [])

-- A read or a write that would have had to wait: the session rests.
abbrev pub Waits : WireCall → ConnectionState → Trace → ConnectionState → Type 0
Waits call before t after = (t ≡ trace (call ∷ []) [] []) × (after ≡ at before.stage before.unsent true)

-- how many bytes are drawn in a turn, at most: fewer where they are adapted
abbrev pub most_drawn : Bool → ℕ
most_drawn true = draw_size
most_drawn false = 500

abbrev pub draw_room : Adapting → ℕ
draw_room adapter = most_drawn (is_through adapter.answers)

-- what is sent of a draw, by the client's adapter
abbrev pub IsAdapted : Adapting → Outcome → List ℕ → Adapting → Type 0
IsAdapted old (outcomes.Drawn bytes) part new = HasAnswered old bytes part new
IsAdapted old outcomes.Finished part new = HasClosed old part new
IsAdapted old outcome part new = (part ≡ []) × (new ≡ old)

-- One draw, and what is to be sent of it.
pub record Draws (old new : Adapting) (id : ℕ) (t : Trace) (after : ConnectionState) : Type 0 where
  pub outcome : Outcome
  pub part : List ℕ
  pub room : length (drawn_bytes outcome) ≤ draw_room old
  pub is : t ≡ trace [] (events.Draw id (draw_room old) ∷ []) (outcome ∷ [])
  pub adapted : IsAdapted old outcome part new
  pub after_is : after ≡ drawn_state id outcome part

-- A session whose post waited is asked by a draw of no bytes.
pub record AsksWhatCame (id : ℕ) (t : Trace) (after : ConnectionState) : Type 0 where
  pub outcome : Outcome
  pub none : drawn_bytes outcome ≡ []
  pub is : t ≡ trace [] (events.Draw id 0 ∷ []) (outcome ∷ [])
  pub after_is : after ≡ learned_state id outcome

-- One write of all the bytes that are to be sent, which takes the next of them.
pub record Sends (before : ConnectionState) (t : Trace) (after : ConnectionState) : Type 0 where
  pub piece : List ℕ
  pub rest : List ℕ
  pub some : piece ≢ []
  pub unsent : before.unsent ≡ piece ++ rest
  pub is : t ≡ trace (Wrote before.unsent (length piece) ∷ []) [] []
  pub after_is : after ≡ at before.stage rest false

-- A write of all of them that failed, or that took none: nothing more is sent.
abbrev pub FailsToSend : List ℕ → Trace → ConnectionState → Type 0
FailsToSend unsent t after = ((t ≡ trace (WriteFailed unsent ∷ []) [] []) ⊎ (t ≡ trace (Wrote unsent 0 ∷ []) [] [])) × (after ≡ leaving Cut [])

abbrev pub WritesOn : ConnectionState → Trace → ConnectionState → Type 0
WritesOn before t after = Sends before t after ⊎ FailsToSend before.unsent t after ⊎ Waits (WriteWaited before.unsent) before t after

-- What follows in the same turn: a session that goes no further leaves the hub.
abbrev pub LeavesIfOver : ℕ → Bool → Trace → Type 0
LeavesIfOver id true t = (outcome : Outcome) × (t ≡ trace [] (events.Leave id ∷ []) (outcome ∷ []))
LeavesIfOver id false t = t ≡ nothing

-- One turn of a session in the hub: what it does, and what follows.
pub record ActsInHub (id : ℕ) (Does : Trace → ConnectionState → Type 0) (t : Trace) (after : ConnectionState) : Type 0 where
  pub done : Trace
  pub rest : Trace
  pub is : t ≡ then done rest
  pub does : Does done after
  pub follows : LeavesIfOver id (has_left after.stage) rest

abbrev pub StaysAtRest : ConnectionState → Trace → ConnectionState → Type 0
StaysAtRest before t after = (t ≡ nothing) × (after ≡ before)

-- the wire is closed
abbrev pub Closes : Ending → Trace → ConnectionState → Type 0
Closes ending t after = (t ≡ trace (Closed ∷ []) [] []) × (after ≡ at (stages.Closed ending) [] false)

-- so it is, and the client's adapter stays
abbrev pub KeepsClient : Adapting → Adapting → Type 0 → Type 0
KeepsClient old new P = (new ≡ old) × P

-- A session that hears makes one read.
abbrev pub Listens : Adapting → Adapting → ℕ → List ℕ → Trace → ConnectionState → Type 0
Listens old new id unsent t after = HearsRead old new id t after ⊎ KeepsClient old new (FailsToRead t after) ⊎ KeepsClient old new (Waits (ReadWaited piece_size) (at (stages.Listening id) unsent false) t after)

-- One that is replied to makes one draw, or one write of what is to be sent.
abbrev pub DrawsOrWrites : Adapting → Adapting → ℕ → List ℕ → Trace → ConnectionState → Type 0
DrawsOrWrites old new id [] t after = Draws old new id t after
DrawsOrWrites old new id (b ∷ bytes) t after = KeepsClient old new (WritesOn (at (stages.Replying id) (b ∷ bytes) false) t after)

-- One that has left makes one write of what is to be sent, and then its wire is closed.
abbrev pub Finishes : Ending → List ℕ → Trace → ConnectionState → Type 0
Finishes ending [] t after = Closes ending t after
Finishes ending (b ∷ bytes) t after = WritesOn (leaving ending (b ∷ bytes)) t after

-- One turn of a session that doesn't rest.
abbrev pub Acts : Adapting → Adapting → ConnectionStage → List ℕ → Trace → ConnectionState → Type 0
Acts old new (stages.Listening id) unsent t after = ActsInHub id (Listens old new id unsent) t after
Acts old new (stages.Waiting id) unsent t after = KeepsClient old new (StaysAtRest (at (stages.Waiting id) unsent false) t after)
Acts old new (stages.Replying id) unsent t after = ActsInHub id (DrawsOrWrites old new id unsent) t after
Acts old new (stages.Leaving ending) unsent t after = KeepsClient old new (Finishes ending unsent t after)
Acts old new (stages.Closed ending) unsent t after = KeepsClient old new (StaysAtRest (at (stages.Closed ending) unsent false) t after)

abbrev pub WhereReady : Adapting → Adapting → Bool → ConnectionState → Trace → ConnectionState → Type 0
WhereReady old new true before t after = Acts old new before.stage before.unsent t after
WhereReady old new false before t after = KeepsClient old new (StaysAtRest before t after)

-- One turn of a session, from how its client's adapter was to how it is.
abbrev pub ConnectionTurn : Adapting → Adapting → ConnectionState → Trace → ConnectionState → Type 0
ConnectionTurn old new before t after = WhereReady old new (not before.waits) before t after

abbrev pub LearnsAt : ConnectionStage → ConnectionState → Trace → ConnectionState → Type 0
LearnsAt (stages.Waiting id) before t after = ActsInHub id (AsksWhatCame id) t after
LearnsAt stage before t after = StaysAtRest before t after

-- What is done for a session once the posts that wait were made: one whose post waited learns what came of it.
abbrev pub LearnsWhatCame : ConnectionState → Trace → ConnectionState → Type 0
LearnsWhatCame before t after = LearnsAt before.stage before t after

-- the session leaves the hub, and its wire is closed
abbrev pub LeavesLate : ℕ → Trace → ConnectionState → Type 0
LeavesLate id t after = (outcome : Outcome) × (t ≡ trace (Closed ∷ []) (events.Leave id ∷ []) (outcome ∷ [])) × (after ≡ at (stages.Closed Late) [] false)

abbrev pub DismissedAt : ConnectionStage → ConnectionState → Trace → ConnectionState → Type 0
DismissedAt (stages.Listening id) before t after = LeavesLate id t after
DismissedAt (stages.Waiting id) before t after = LeavesLate id t after
DismissedAt (stages.Replying id) before t after = LeavesLate id t after
DismissedAt (stages.Leaving ending) before t after = Closes Late t after
DismissedAt (stages.Closed ending) before t after = StaysAtRest before t after

-- What is done for a session whose time is over.
abbrev pub Dismissed : ConnectionState → Trace → ConnectionState → Type 0
Dismissed before t after = DismissedAt before.stage before t after

-- a session whose post waits leaves the hub, and its client is asked to try again later
abbrev pub LeavesUnmade : ℕ → Trace → ConnectionState → Type 0
LeavesUnmade id t after = (outcome : Outcome) × (t ≡ trace [] (events.Leave id ∷ []) (outcome ∷ [])) × (after ≡ leaving Often (error_reply true TryAgainLater []))

abbrev pub TurnedDownAt : ConnectionStage → ConnectionState → Trace → ConnectionState → Type 0
TurnedDownAt (stages.Waiting id) before t after = LeavesUnmade id t after
TurnedDownAt stage before t after = StaysAtRest before t after

-- What is done for a session whose post is not to be made.
abbrev pub TurnedDown : ConnectionState → Trace → ConnectionState → Type 0
TurnedDown before t after = TurnedDownAt before.stage before t after

-- ---- connections

-- This is done for a connection.
pub record DoneFor {W : Type 0} (calls : W → List WireCall) (Does : ConnectionState → Trace → ConnectionState → Type 0) (old : ReadyConnection W) (es : List Event) (os : List Outcome) (new : ReadyConnection W) : Type 0 where
  pub made : List WireCall
  pub calls_are : calls new.wire ≡ calls old.wire ++ made
  pub does : Does (state_of old) (trace made es os) (state_of new)

-- One turn was had by a connection.
abbrev pub HasTurn : {W : Type 0} → (W → List WireCall) → ReadyConnection W → List Event → List Outcome → ReadyConnection W → Type 0
HasTurn calls old es os new = DoneFor calls (ConnectionTurn old.adapter new.adapter) old es os new

-- And this was done for a connection, whose client's adapter stays.
abbrev pub HasKept : {W : Type 0} → (W → List WireCall) → (ConnectionState → Trace → ConnectionState → Type 0) → ReadyConnection W → List Event → List Outcome → ReadyConnection W → Type 0
HasKept calls Does old es os new = DoneFor calls Does old es os new × (new.adapter ≡ old.adapter)

-- A session heard what was read, or rested.
abbrev pub HearsFor : {W : Type 0} → (W → List WireCall) → ℕ → ReadyConnection W → List Event → List Outcome → ReadyConnection W → Type 0
HearsFor calls id old es os new = HasMade (calls old.wire) (calls new.wire) (λ made. Listens old.adapter new.adapter id old.unsent.items (trace made es os) (state_of new))

-- A session drew, or wrote what was to be sent.
abbrev pub RepliesFor : {W : Type 0} → (W → List WireCall) → ℕ → ReadyConnection W → List Event → List Outcome → ReadyConnection W → Type 0
RepliesFor calls id old es os new = HasMade (calls old.wire) (calls new.wire) (λ made. DrawsOrWrites old.adapter new.adapter id old.unsent.items (trace made es os) (state_of new))

-- A session joins on a wire, of which no call is made, for a client of which nothing came.
pub record IsConnected {W : Type 0} (wire : W) (old_client : Bool) (es : List Event) (os : List Outcome) (connection : ReadyConnection W) : Type 0 where
  pub outcome : Outcome
  pub events_are : es ≡ events.Join ∷ []
  pub outcomes_are : os ≡ outcome ∷ []
  pub wire_is : connection.wire ≡ wire
  pub adapter_is : connection.adapter ≡ fresh_client old_client
  pub state_is : state_of connection ≡ joined_state outcome
