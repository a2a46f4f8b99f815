-- What a client was given, beside what was drawn for its session.
use Rattle.std.specs.Prelude.{◌≡◌, ℕ, Bool, true, false, List, [], ◌∷◌, ◌++◌, flat_map, take}
use Rattle.old_clients.specs.AdaptedReply.{adapted_reply}
use Rattle.old_clients.specs.Clients.{Adapting}
use Rattle.old_clients.specs.Streams.{fresh_reply, will_give, will_rewrite}
use Rattle.group_world.specs.declared.event.Event.{Event}
use Rattle.group_world.specs.declared.event.Event.TheVariants.{Flush}
use Rattle.group_world.specs.declared.event.Outcome.{Outcome}
use Rattle.group_world.specs.declared.event.Outcome.TheVariants as outcomes
use Rattle.turns.specs.Turns.{heard_reply}
use Rattle.turns.specs.WireCalls.{WireCall, Read, ReadFailed, ReadWaited, Wrote, WriteFailed, WriteWaited, Closed}
use Rattle.text_writer.specs.Errors.{error_reply}
use Rattle.text_writer.specs.declared.error.ErrorText.TheVariants.{TryAgainLater}
use Rattle.daily_turns.specs.ReadyConnections.{ConnectionState, has_left, is_waiting, state_of}
use Rattle.daily_turns.specs.declared.ready_connection.ConnectionStage.{ConnectionStage}
use Rattle.daily_turns.specs.declared.ready_connection.ConnectionStage.TheVariants.{Listening, Waiting}
use Rattle.daily_server.specs.DailyClients.{HadTurn, WasTurnedDown, Learned, WasDismissed, IsNew, woken}
use Rattle.daily_server.specs.declared.terms.Terms.{Terms}
use Rattle.daily_server.specs.declared.daily_client.DailyClient.{DailyClient}

-- the bytes that a call wrote
abbrev pub bytes_by : WireCall → List ℕ
bytes_by (Read room bytes) = []
bytes_by (ReadFailed room) = []
bytes_by (ReadWaited room) = []
bytes_by (Wrote bytes taken) = take taken bytes
bytes_by (WriteFailed bytes) = []
bytes_by (WriteWaited bytes) = []
bytes_by Closed = []

-- what an outcome has for a client: what was drawn, or that it is to try again later where its post is not made
abbrev pub due_by : Outcome → List ℕ
due_by (outcomes.Drawn bytes) = bytes
due_by outcome = heard_reply outcome

-- What the outcomes of some events of its session have for it. A flush has nothing, and neither has what was answered right before one, since the hub is told of the same input once more.
abbrev pub all_due : List Event → List Outcome → List ℕ
all_due (e ∷ Flush ∷ es) (o ∷ flushed ∷ os) = all_due es os
all_due (e ∷ es) (o ∷ os) = due_by o ++ all_due es os
all_due es os = []

-- a reply is given, or it has left
abbrev pub is_answered : ConnectionStage → Bool
is_answered (Listening id) = false
is_answered (Waiting id) = false
is_answered stage = true

-- What was due goes on to be given, adapted where the request was rewritten: whatever is due next, what was written, what is to be sent, and what the client's adapter will give are that.
abbrev pub IsGoingOut : Adapting → List ℕ → List ℕ → List ℕ → Type 0
IsGoingOut adapter due written unsent = (rest : List ℕ) → written ++ (unsent ++ will_give adapter.answers rest) ≡ adapted_reply (will_rewrite adapter.asks []) (due ++ rest)

-- A front of what was due, adapted, was written, and then what is left of it is to be sent, or is dropped.
pub record HasGoneOut (adapter : Adapting) (due written unsent : List ℕ) : Type 0 where
  pub front : List ℕ
  pub cut : List ℕ
  pub dropped : List ℕ
  pub due_is : due ≡ front ++ cut
  pub is : written ++ (unsent ++ dropped) ≡ adapted_reply (will_rewrite adapter.asks []) front

-- by whether the session has left the hub
abbrev pub GivenIf : Bool → Adapting → List ℕ → List ℕ → List ℕ → Type 0
GivenIf false adapter due written unsent = IsGoingOut adapter due written unsent
GivenIf true adapter due written unsent = HasGoneOut adapter due written unsent

-- nothing was due yet
pub record IsUnanswered (adapter : Adapting) (due written unsent : List ℕ) : Type 0 where
  pub none_due : due ≡ []
  pub none_written : written ≡ []
  pub none_unsent : unsent ≡ []
  pub fresh : adapter.answers ≡ fresh_reply (will_rewrite adapter.asks [])

-- What was due was given by these calls, and is to be sent. Only where the session has left the hub, the rest of it may be dropped.
pub record IsGiven (adapter : Adapting) (due : List ℕ) (calls : List WireCall) (state : ConnectionState) : Type 0 where
  pub given : GivenIf (has_left state.stage) adapter due (flat_map bytes_by calls) state.unsent
  pub hears : is_answered state.stage ≡ false → IsUnanswered adapter due (flat_map bytes_by calls) state.unsent

-- a client was given of what was due to it
abbrev pub WasGiven : List ℕ → DailyClient → Type 0
WasGiven due client = IsGiven client.connection.adapter due client.connection.wire.made.calls (state_of client.connection)

-- Nothing is due to who comes in. By each turn, by what it learns of its post, and by a dismissal, what the outcomes of its own events have for a client is due to it next, and no more; where its post is turned down, that it is to try again later; a wait changes nothing.
pub record GivesWhatIsDue : Type 0 where
  pub at_first : (terms : Terms) (now : ℕ) (outcome : Outcome) (client : DailyClient) → IsNew terms now outcome client → WasGiven [] client
  pub by_turn : (due : List ℕ) (now : ℕ) (old new : DailyClient) (es : List Event) (os : List Outcome) → WasGiven due old → HadTurn now old es os new → WasGiven (due ++ all_due es os) new
  pub by_refusal : (due : List ℕ) (old new : DailyClient) (es : List Event) (os : List Outcome) → WasGiven due old → is_waiting old.connection.stage ≡ true → WasTurnedDown old es os new → WasGiven (due ++ error_reply true TryAgainLater []) new
  pub by_learning : (due : List ℕ) (old new : DailyClient) (es : List Event) (os : List Outcome) → WasGiven due old → Learned old es os new → WasGiven (due ++ all_due es os) new
  pub by_dismissal : (due : List ℕ) (now : ℕ) (old new : DailyClient) (es : List Event) (os : List Outcome) → WasGiven due old → WasDismissed now old es os new → WasGiven (due ++ all_due es os) new
  pub by_wait : (due : List ℕ) (client : DailyClient) → WasGiven due client → WasGiven due (woken client)
