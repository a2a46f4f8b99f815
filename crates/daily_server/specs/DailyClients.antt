-- What is done for clients that are in.
use Rattle.std.specs.Prelude.{◌≡◌, ◌≤◌, ◌<◌, ◌==◌, ℕ, Bool, true, false, not, ◌&&◌, ◌||◌, is_some, if◌then◌else◌, Option, Some, None, Result, List, [], ◌∷◌, ◌++◌, All, nat_lt, map, filter, length, vec_len, vec_capacity}
use Rattle.std.specs.Global.{Vec}
use Rattle.std.specs.List.{list_all, list_any}
use Rattle.std.specs.declared.net.ip_addr.IpAddr.{IpAddr}
use Rattle.mio.specs.Event.{event_token}
use Rattle.mio.specs.declared.event.event.Event.{Event as SocketEvent}
use Rattle.mio.specs.declared.token.Token.{Token}
use Rattle.text_writer.specs.Errors.{error_reply}
use Rattle.text_writer.specs.declared.error.ErrorText.TheVariants.{TryAgainLater}
use Rattle.group_world.specs.declared.event.Event.{Event}
use Rattle.group_world.specs.declared.event.Event.TheVariants as events
use Rattle.group_world.specs.declared.event.Outcome.{Outcome}
use Rattle.turns.specs.Turns.{StepOf, Both, StepsInOrder, IsFlushed, Times}
use Rattle.turns.specs.WireCalls.{Closed}
use Rattle.turns.specs.declared.wire.WireFault.{WireFault}
use Rattle.old_clients.specs.Clients.{fresh_client}
use Rattle.daily_turns.specs.ReadyConnections.{HasTurn, HasKept, LearnsWhatCame, Dismissed, TurnedDown, IsConnected, acts, is_waiting, ending_of, joined_state, state_of}
use Rattle.daily_turns.specs.Tries.{write_try}
use Rattle.daily_turns.specs.declared.ready_connection.ReadyConnection.{ReadyConnection}
use Rattle.daily_server.specs.ListenerCalls.{ListenerCall, Waited, WaitFailed, Came, NotHad, both_ways, is_nobody}
use Rattle.daily_server.specs.Listeners.{listener_token, HasSameListener, IsClients}
use Rattle.daily_server.specs.Limits.{is_over, longest_stay}
use Rattle.daily_server.specs.Origins.{Origin, origin_of, is_same}
use Rattle.daily_server.specs.Posts.{may_post, noted}
use Rattle.daily_server.specs.Sent.{has_line, taken_by}
use Rattle.daily_server.specs.declared.crowd.Away.{Away}
use Rattle.daily_server.specs.declared.listener_log.Missed.{Missed}
use Rattle.daily_server.specs.declared.pace.Pace.{Pace}
use Rattle.daily_server.specs.declared.pace.Pace.TheVariants.{Idle, Waits, Busy}
use Rattle.daily_server.specs.declared.ready_socket.ReadySocket.{ReadySocket}
use Rattle.daily_server.specs.declared.posts.RecentPost.{RecentPost}
use Rattle.daily_server.specs.declared.terms.Terms.{Terms}
use Rattle.daily_server.specs.declared.daily_client.DailyClient.{DailyClient}
use Rattle.daily_server.specs.declared.service.Service.{Service}

-- its wire is closed
abbrev pub has_gone : DailyClient → Bool
has_gone client = is_some (ending_of client.connection.stage)

-- it would do something in its turn
abbrev pub has_turn : DailyClient → Bool
has_turn client = not client.connection.waits && acts client.connection.stage

-- no client's post waits for others
abbrev pub NoClientWaits : List DailyClient → Type 0
NoClientWaits clients = All (λ client. is_waiting client.connection.stage ≡ false) clients

-- A turn of its session at this moment: where it doesn't rest afterwards, it moved.
pub record HadTurn (now : ℕ) (old : DailyClient) (es : List Event) (os : List Outcome) (new : DailyClient) : Type 0 where
  pub turn : HasTurn (λ (socket : ReadySocket). socket.made.calls) old.connection es os new.connection
  pub moved : new.moved ≡ (if new.connection.waits then old.moved else now)

-- ---- posts that are too many

-- a client beside the posts that came of late, and all clients beside them
abbrev pub Beside : Type 0 → Type 0
Beside X = X × List RecentPost

-- Its session is turned down, and nothing else of it changes.
pub record WasTurnedDown (old : DailyClient) (es : List Event) (os : List Outcome) (new : DailyClient) : Type 0 where
  pub turned_down : HasKept (λ (socket : ReadySocket). socket.made.calls) TurnedDown old.connection es os new.connection
  pub from : new.from ≡ old.from
  pub token : new.token ≡ old.token
  pub came : new.came ≡ old.came
  pub moved : new.moved ≡ old.moved

-- A post came to wait: it goes on to, where it may, and else its client is turned down.
abbrev pub IsLetThrough : Bool → ℕ → StepOf (Beside DailyClient)
IsLetThrough true now old es os new = (es ≡ []) × (os ≡ []) × (new ≡ (old.0, noted true now old.0.from old.1))
IsLetThrough false now old es os new = WasTurnedDown old.0 es os new.0 × (new.1 ≡ noted false now old.0.from old.1)

-- so it is where posts are limited, and else nothing is done
abbrev pub IsLetThroughBy : Option ℕ → ℕ → StepOf (Beside DailyClient)
IsLetThroughBy (Some most) now old es os new = IsLetThrough (may_post most now old.0.from old.1) now old es os new
IsLetThroughBy None now old es os new = (es ≡ []) × (os ≡ []) × (new ≡ old)

-- by whether its post came to wait in this turn
abbrev pub IsLimited : Bool → Option ℕ → ℕ → StepOf (Beside DailyClient)
IsLimited true most now old es os new = IsLetThroughBy most now old es os new
IsLimited false most now old es os new = (es ≡ []) × (os ≡ []) × (new ≡ old)

-- It had a turn, and where its post came to wait in it, that is limited.
pub record HadLimitedTurn (most : Option ℕ) (now : ℕ) (old : Beside DailyClient) (es : List Event) (os : List Outcome) (new : Beside DailyClient) : Type 0 where
  pub mid : DailyClient
  pub first_events : List Event
  pub first_outcomes : List Outcome
  pub later_events : List Event
  pub later_outcomes : List Outcome
  pub turn : HadTurn now old.0 first_events first_outcomes mid
  pub limited : IsLimited (not (is_waiting old.0.connection.stage) && is_waiting mid.connection.stage) most now (mid, old.1) later_events later_outcomes new
  pub events_are : es ≡ first_events ++ later_events
  pub outcomes_are : os ≡ first_outcomes ++ later_outcomes

-- one step for the first beside what they share, and then others
pub record OneBeside {X Y : Type 0} (step : StepOf (X × Y)) (x : X) (before : Y) (y : X) (Others : Y → List Event → List Outcome → Type 0) (es : List Event) (os : List Outcome) : Type 0 where
  pub between : Y
  pub first_events : List Event
  pub first_outcomes : List Outcome
  pub later_events : List Event
  pub later_outcomes : List Outcome
  pub first : step (x, before) first_events first_outcomes (y, between)
  pub others : Others between later_events later_outcomes
  pub events_are : es ≡ first_events ++ later_events
  pub outcomes_are : os ≡ first_outcomes ++ later_outcomes

-- For each in order one step, beside something that they share.
abbrev pub InOrderBeside : {X Y : Type 0} → StepOf (X × Y) → List X → Y → List Event → List Outcome → List X → Y → Type 0
InOrderBeside step [] before es os [] after = (es ≡ []) × (os ≡ []) × (after ≡ before)
InOrderBeside step (x ∷ xs) before es os (y ∷ ys) after = OneBeside step x before y (λ between fs ps. InOrderBeside step xs between fs ps ys after) es os
InOrderBeside step [] before es os (y ∷ ys) after = ⊥
InOrderBeside step (x ∷ xs) before es os [] after = ⊥

-- one pass: each has one turn, in order
abbrev pub HadPass : Option ℕ → ℕ → StepOf (Beside (List DailyClient))
HadPass most now old es os new = InOrderBeside (HadLimitedTurn most now) old.0 old.1 es os new.0 new.1

-- Where its post waited its session learns what came of it, and else nothing is done.
pub record Learned (old : DailyClient) (es : List Event) (os : List Outcome) (new : DailyClient) : Type 0 where
  pub learns : HasKept (λ (socket : ReadySocket). socket.made.calls) LearnsWhatCame old.connection es os new.connection
  pub came : new.came ≡ old.came
  pub moved : new.moved ≡ old.moved

-- its session is dismissed where its time is over, and else nothing is done
abbrev pub GoesIf : Bool → DailyClient → List Event → List Outcome → DailyClient → Type 0
GoesIf true old es os new = HasKept (λ (socket : ReadySocket). socket.made.calls) Dismissed old.connection es os new.connection
GoesIf false old es os new = (es ≡ []) × (os ≡ []) × (new ≡ old)

-- its time is over at this moment
abbrev pub is_late : ℕ → DailyClient → Bool
is_late now client = is_over (longest_stay client.connection.stage (has_line client.connection.wire.made.calls)) client.came client.moved now

abbrev pub WasDismissed : ℕ → DailyClient → List Event → List Outcome → DailyClient → Type 0
WasDismissed now old es os new = GoesIf (is_late now old) old es os new

-- ---- who has a turn again

-- an event is one of what has this token
abbrev pub is_called : List SocketEvent → Token → Bool
is_called events token = list_any (λ event. (event_token event).0 == token.0) events

-- it doesn't rest, and all else of it is as it was
abbrev pub woken : DailyClient → DailyClient
woken client = record {
  connection = record { wire = client.connection.wire; stage = client.connection.stage; unsent = client.connection.unsent; waits = false; adapter = client.connection.adapter };
  from = client.from;
  token = client.token;
  came = client.came;
  moved = client.moved;
}

abbrev pub woken_where : Bool → DailyClient → DailyClient
woken_where true client = woken client
woken_where false client = client

-- all have a turn again, or those that an event calls
abbrev pub woken_by : Bool → List SocketEvent → DailyClient → DailyClient
woken_by all events client = woken_where (all || is_called events client.token) client

-- It is the same client, on the same wire and as far as before; and where it had a turn, it has one.
pub record IsSameClient (old new : DailyClient) : Type 0 where
  pub wire : new.connection.wire ≡ old.connection.wire
  pub stage : new.connection.stage ≡ old.connection.stage
  pub unsent : new.connection.unsent ≡ old.connection.unsent
  pub adapter : new.connection.adapter ≡ old.connection.adapter
  pub from : new.from ≡ old.from
  pub token : new.token ≡ old.token
  pub came : new.came ≡ old.came
  pub moved : new.moved ≡ old.moved
  pub turn : has_turn old ≡ true → has_turn new ≡ true

-- Each client, in order, has its turn again or is as it was. Somebody may ask to come in where the listener is called too.
pub record HasWoken (all : Bool) (events : List SocketEvent) (old new : Service) : Type 0 where
  pub clients : new.clients.items ≡ map (woken_by all events) old.clients.items
  pub may_accept : new.may_accept ≡ (old.may_accept || (all || is_called events listener_token))

-- ---- a service

-- Nobody is in, somebody may ask to come in, and nothing was asked of the listener since it was opened.
pub record IsFreshService (service : Service) : Type 0 where
  pub nobody : service.clients.items ≡ []
  pub may_accept : service.may_accept ≡ true
  pub lost : service.lost ≡ false
  pub made : service.listener.made.calls ≡ []
  pub no_posts : service.posts.items ≡ []

-- the next client is asked for: fewer than 32 are in, and somebody may ask to come in
abbrev pub asks : Service → Bool
asks service = service.may_accept && nat_lt (length service.clients.items) 32

-- ---- a wait

-- nobody has a turn
abbrev pub all_wait : List DailyClient → Bool
all_wait clients = list_all (λ client. not (has_turn client)) clients

-- in nanoseconds: none where somebody has a turn, or where one who may ask to come in may do so and none was lost since the last wait; without end where nobody is in or may ask to come in; and else a second
abbrev pub own_patience : Service → Option ℕ
own_patience service = if not (all_wait service.clients.items) || (asks service && not service.lost) then Some 0 else (if length service.clients.items == 0 && not service.may_accept then None else Some 1_000_000_000)

abbrev pub at_most_a_second : Option ℕ → Option ℕ
at_most_a_second (Some nanos) = Some nanos
at_most_a_second None = Some 1_000_000_000

-- where an office lets a wait last so long: there is none either while it is busy, and a second at most while somebody is in
abbrev pub patience : Pace → Service → Option ℕ
patience Idle service = own_patience service
patience Waits service = at_most_a_second (own_patience service)
patience Busy service = Some 0

-- a wait that had patience ended with no event
abbrev pub was_in_vain : Option ℕ → List SocketEvent → Bool
was_in_vain (Some nanos) events = length events == 0 && not (nanos == 0)
was_in_vain None events = length events == 0

-- One wait of that patience ended with these events: who is called has a turn again, and all where it was in vain.
pub record HasWaited (pace : Pace) (events : List SocketEvent) (old new : Service) : Type 0 where
  pub made : new.listener.made.calls ≡ old.listener.made.calls ++ Waited (patience pace old) events ∷ []
  pub woken : HasWoken (was_in_vain (patience pace old) events) events old new
  pub lost : new.lost ≡ false
  pub posts : new.posts ≡ old.posts
  pub listener : HasSameListener old.listener new.listener

-- One wait of that patience failed: who is in stays as it was.
pub record HasNotWaited (pace : Pace) (old new : Service) : Type 0 where
  pub made : new.listener.made.calls ≡ old.listener.made.calls ++ WaitFailed (patience pace old) ∷ []
  pub clients : new.clients ≡ old.clients
  pub may_accept : new.may_accept ≡ old.may_accept
  pub lost : new.lost ≡ old.lost
  pub posts : new.posts ≡ old.posts
  pub listener : HasSameListener old.listener new.listener

-- ---- turns for all

-- Passes over all, in each of which each has one turn, in order. They end where nobody has a turn, or after 16.
pub record HadPasses (most : Option ℕ) (now : ℕ) (old : Beside (List DailyClient)) (es : List Event) (os : List Outcome) (new : Beside (List DailyClient)) : Type 0 where
  pub count : ℕ
  pub few : count ≤ 16
  pub passes : Times count (HadPass most now) old es os new
  pub until : count < 16 → all_wait new.0 ≡ true

-- this was done for all clients, and no post came
abbrev pub NoPostCame : StepOf (List DailyClient) → StepOf (Beside (List DailyClient))
NoPostCame step old es os new = step old.0 es os new.0 × (new.1 ≡ old.1)

-- Passes were made over all. Then the posts that wait were made, once, and each client whose post waited learned what came of it, in order. Then those were dismissed whose time is over.
abbrev pub WereServed : Option ℕ → ℕ → StepOf (Beside (List DailyClient))
WereServed most now old es os new = Both (HadPasses most now) (NoPostCame (Both (Both IsFlushed (StepsInOrder Learned)) (StepsInOrder (WasDismissed now)))) old es os new

-- ---- who comes in

-- one more can be in, and no memory is asked for
abbrev pub HasSpace : Vec DailyClient → Type 0
HasSpace clients = vec_len clients < vec_capacity clients

-- It came at this moment, no call was made of its socket, nothing came of it, and its session is the one whose number the hub answered, if it did; and it has a turn.
pub record IsNew (terms : Terms) (now : ℕ) (outcome : Outcome) (client : DailyClient) : Type 0 where
  pub came : client.came ≡ now
  pub moved : client.moved ≡ now
  pub unread : client.connection.wire.made.calls ≡ []
  pub adapter : client.connection.adapter ≡ fresh_client terms.old_clients
  pub session : state_of client.connection ≡ joined_state outcome
  pub turn : has_turn client ≡ true

-- A client of this address and token has come in behind the others, at this moment, and its session is all that joined.
pub record ComesIn (terms : Terms) (from : IpAddr) (token : Token) (now : ℕ) (old : List DailyClient) (es : List Event) (os : List Outcome) (new : List DailyClient) : Type 0 where
  pub client : DailyClient
  pub outcome : Outcome
  pub events_are : es ≡ events.Join ∷ []
  pub outcomes_are : os ≡ outcome ∷ []
  pub is : new ≡ old ++ client ∷ []
  pub from_is : client.from ≡ from
  pub token_is : client.token ≡ token
  pub is_new : IsNew terms now outcome client

-- A session joined, and was dismissed at once.
pub record FindsNoSpace (terms : Terms) (es : List Event) (os : List Outcome) : Type 0 where
  pub socket : ReadySocket
  pub connection : ReadyConnection ReadySocket
  pub gone : ReadyConnection ReadySocket
  pub join_events : List Event
  pub join_outcomes : List Outcome
  pub later_events : List Event
  pub later_outcomes : List Outcome
  pub connected : IsConnected socket terms.old_clients join_events join_outcomes connection
  pub dismissed : HasKept (λ (wire : ReadySocket). wire.made.calls) Dismissed connection later_events later_outcomes gone
  pub events_are : es ≡ join_events ++ later_events
  pub outcomes_are : os ≡ join_outcomes ++ later_outcomes

-- how many of them are of an origin
abbrev pub count_of : Origin → List DailyClient → ℕ
count_of origin clients = length (filter (λ client. is_same (origin_of client.from) origin) clients)

-- as many of them are of this address's origin as may be
abbrev pub is_crowded : ℕ → List DailyClient → IpAddr → Bool
is_crowded most clients from = not (nat_lt (count_of (origin_of from) clients) most)

-- of no origin are there more
abbrev pub IsSpread : ℕ → List DailyClient → Type 0
IsSpread most clients = (origin : Origin) → count_of origin clients ≤ most

-- A client has come in; or, where there is no space, it goes at once.
pub data ComesInOrNot (terms : Terms) (has_space : Type 0) (from : IpAddr) (token : Token) (now : ℕ) (old : List DailyClient) (es : List Event) (os : List Outcome) (new : List DailyClient) : Type 0 where
  comes : ComesIn terms from token now old es os new → ComesInOrNot terms has_space from token now old es os new
  no_space : (has_space → ⊥) → new ≡ old → FindsNoSpace terms es os → ComesInOrNot terms has_space from token now old es os new

-- The call by which it was asked for, if any: a client came; or none did, and somebody may ask to come in afterwards, but where nobody was there. One who was there was lost.
abbrev pub HasAsked : {W : Type 0} → Bool → Bool → Bool → Option (W × IpAddr × Token) → List ListenerCall → Type 0
HasAsked false may_accept lost next made = made ≡ []
HasAsked true may_accept lost (Some next) made = made ≡ Came next.1 next.2 both_ways ∷ []
HasAsked true may_accept lost None made = (missed : Missed) × (made ≡ NotHad missed ∷ []) × (may_accept ≡ not (is_nobody missed)) × (lost ≡ not (is_nobody missed))

-- One came with this token: there is space, and the next is asked for as before.
pub record HasTaken (old new : Service) (given : Token) : Type 0 where
  pub service : length old.clients.items < 32
  pub token : IsClients given
  pub may_accept : (old.may_accept ≡ true) × (new.may_accept ≡ true)
  pub lost : new.lost ≡ old.lost

-- what one is told who is turned away; as a plain client is told, since its request is not read
abbrev pub crowd_reply : List ℕ
crowd_reply = error_reply false TryAgainLater []

-- Two calls were made of its connection: one write, which was offered all of that, and then it was closed.
abbrev pub IsDeclined : ReadySocket → Type 0
IsDeclined socket = (tried : Result (Option ℕ) WireFault) × (socket.made.calls ≡ write_try tried crowd_reply ∷ Closed ∷ [])

-- one of this address who was turned away, and how many bytes it took
abbrev pub away_on : IpAddr → ReadySocket → Away
away_on from socket = record { from = from; taken = taken_by socket.made.calls }

-- One is turned away: no session joins, it is told so, its connection is closed, and it is noted who it was.
pub record IsKeptOut (from : IpAddr) (old : List DailyClient) (es : List Event) (os : List Outcome) (new : List DailyClient) (before after : List Away) : Type 0 where
  pub socket : ReadySocket
  pub declined : IsDeclined socket
  pub no_events : es ≡ []
  pub no_outcomes : os ≡ []
  pub same : new ≡ old
  pub noted : after ≡ before ++ away_on from socket ∷ []

-- one who came, by whether as many of its origin were in as may be
abbrev pub IsReceivedIf : Bool → Terms → Type 0 → IpAddr → Token → ℕ → List DailyClient → List Event → List Outcome → List DailyClient → List Away → List Away → Type 0
IsReceivedIf true terms has_space from token now old es os new before after = IsKeptOut from old es os new before after
IsReceivedIf false terms has_space from token now old es os new before after = ComesInOrNot terms has_space from token now old es os new × (after ≡ before)

abbrev pub IsReceived : Terms → Type 0 → IpAddr → Token → ℕ → List DailyClient → List Event → List Outcome → List DailyClient → List Away → List Away → Type 0
IsReceived terms has_space from token now old es os new before after = IsReceivedIf (is_crowded terms.most old from) terms has_space from token now old es os new before after
