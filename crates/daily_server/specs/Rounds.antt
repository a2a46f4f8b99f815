-- How rounds follow one another, each a wait, then whoever asks to come in, then turns, then the office's.
use Rattle.std.specs.Prelude.{◌≡◌, ℕ, ◌+◌, ◌-◌, ◌^◌, ◌≤◌, Bool, true, false, not, Option, Result, Ok, Err, List, [], ◌∷◌, ◌++◌, map, length, filter}
use Rattle.std.specs.declared.net.ip_addr.IpAddr.{IpAddr}
use Rattle.mio.specs.declared.event.event.Event.{Event as SocketEvent}
use Rattle.mio.specs.declared.token.Token.{Token}
use Rattle.group_hub.specs.Calls.{RunsHub}
use Rattle.group_hub.specs.Hub.{keeper_of}
use Rattle.group_hub.specs.declared.hub.Hub.{Hub}
use Rattle.group_world.specs.declared.event.Event.{Event}
use Rattle.group_world.specs.declared.event.Event.TheVariants as events
use Rattle.group_world.specs.declared.event.Outcome.{Outcome}
use Rattle.turns.specs.Runs.{HasRun}
use Rattle.turns.specs.WireCalls.{WireCall}
use Rattle.daily_server.specs.ListenerCalls.{ListenerCall, Came, NotHad, both_ways, is_nobody}
use Rattle.daily_server.specs.Logged.{IsLogged}
use Rattle.daily_server.specs.Offices.{WorksOf, calls_office}
use Rattle.daily_server.specs.Readings.{seconds_of}
use Rattle.daily_server.specs.DailyClients.{has_gone, asks, away_on, is_crowded, patience, IsDeclined, IsSpread, IsNew, HasWaited, HasNotWaited, WereServed, NoClientWaits}
use Rattle.daily_server.specs.declared.crowd.Away.{Away}
use Rattle.daily_server.specs.declared.listener_log.Missed.{Missed}
use Rattle.daily_server.specs.declared.pace.Pace.{Pace}
use Rattle.daily_server.specs.declared.ready_socket.ReadySocket.{ReadySocket}
use Rattle.daily_server.specs.declared.service.Service.{Service}
use Rattle.daily_server.specs.declared.terms.Terms.{Terms}
use Rattle.daily_server.specs.declared.stopwatch.Reading.{Reading}
use Rattle.daily_server.specs.declared.service.DailyFault.{DailyFault}
use Rattle.daily_server.specs.declared.service.DailyFault.TheVariants.{Net, Failed, Memory}
use Rattle.daily_server.specs.declared.daily_client.DailyClient.{DailyClient}

-- ---- who comes in

-- the call by which a client came
abbrev pub came_call : DailyClient → ListenerCall
came_call client = Came client.from client.token both_ways

-- Who came, one behind the other, by these events and by these calls of the listener. For one a session joined, and it is in, behind those who were in before; but where as many of its origin were in as may be, no session joined, and it was turned away: told to try again later, and
-- disconnected.
pub data AreReceived (terms : Terms) (now : ℕ) (old : List DailyClient) : List Event → List Outcome → List DailyClient → List ListenerCall → List Away → Type 0 where
  nobody : AreReceived terms now old [] [] old [] []
  in_behind : (es : List Event) (os : List Outcome) (clients : List DailyClient) (calls : List ListenerCall) (crowd : List Away) (client : DailyClient) (outcome : Outcome) → AreReceived terms now old es os clients calls crowd → is_crowded terms.most clients client.from ≡ false → IsNew terms now outcome client → AreReceived terms now old (es ++ events.Join ∷ []) (os ++ outcome ∷ []) (clients ++ client ∷ []) (calls ++ came_call client ∷ []) crowd
  away : (es : List Event) (os : List Outcome) (clients : List DailyClient) (calls : List ListenerCall) (crowd : List Away) (from : IpAddr) (token : Token) (socket : ReadySocket) → AreReceived terms now old es os clients calls crowd → is_crowded terms.most clients from ≡ true → IsDeclined socket → AreReceived terms now old es os clients (calls ++ Came from token both_ways ∷ []) (crowd ++ away_on from socket ∷ [])

-- Why no more clients are asked for, with the last call: no more may come in; 32 came; or none was had, and somebody may still ask to come in, but where nobody was there.
pub data EndsAsking (old new : Service) (came : ℕ) : List ListenerCall → Type 0 where
  may_not : asks new ≡ false → new.may_accept ≡ old.may_accept → new.lost ≡ old.lost → EndsAsking old new came []
  enough : came ≡ 32 → new.may_accept ≡ old.may_accept → new.lost ≡ old.lost → EndsAsking old new came []
  none_had : (missed : Missed) → new.may_accept ≡ not (is_nobody missed) → new.lost ≡ not (is_nobody missed) → EndsAsking old new came (NotHad missed ∷ [])

-- Clients were asked for, one by one and 32 times at most, until no more are, and received as they came; so no more than 32 are in, where there were no more, and of no origin more than may be, where there were no more. Nothing is done where none is to be asked for.
pub record HasLetIn (terms : Terms) (now : ℕ) (old : Service) (es : List Event) (os : List Outcome) (new : Service) (crowd : List Away) : Type 0 where
  pub calls : List ListenerCall
  pub last : List ListenerCall
  pub made : new.listener.made.calls ≡ old.listener.made.calls ++ (calls ++ last)
  pub least : length calls + length last ≤ 32
  pub ends : EndsAsking old new (length calls) last
  pub unasked : asks old ≡ false → new ≡ old
  pub received : AreReceived terms now old.clients.items es os new.clients.items calls crowd
  pub few : length old.clients.items ≤ 32 → length new.clients.items ≤ 32
  pub posts : new.posts ≡ old.posts

-- ---- rounds

-- who a client is, and when it came
abbrev pub who : DailyClient → IpAddr × Token × ℕ
who client = (client.from, client.token, client.came)

-- Whoever asked to come in was let in, and their sessions joined, or turned away. Then all who are in were served, nobody else came or went, no more was asked of the listener, and nobody's post waits any more.
pub record HasHadTurns (terms : Terms) (now : ℕ) (old : Service) (es : List Event) (os : List Outcome) (new : Service) (crowd : List Away) : Type 0 where
  pub full : Service
  pub join_events : List Event
  pub join_outcomes : List Outcome
  pub turn_events : List Event
  pub turn_outcomes : List Outcome
  pub let_in : HasLetIn terms now old join_events join_outcomes full crowd
  pub served : WereServed terms.posts now (full.clients.items, full.posts.items) turn_events turn_outcomes (new.clients.items, new.posts.items)
  pub events_are : es ≡ join_events ++ turn_events
  pub outcomes_are : os ≡ join_outcomes ++ turn_outcomes
  pub listener : new.listener ≡ full.listener
  pub may_accept : new.may_accept ≡ full.may_accept
  pub lost : new.lost ≡ full.lost
  pub same_who : map who new.clients.items ≡ map who full.clients.items
  pub nobody_waits : NoClientWaits new.clients.items

-- Who has gone is in no more, and no more was asked of the listener.
pub record HasSeenOff (old new : Service) : Type 0 where
  pub clients : new.clients.items ≡ filter (λ client. not (has_gone client)) old.clients.items
  pub listener : new.listener ≡ old.listener
  pub may_accept : new.may_accept ≡ old.may_accept
  pub lost : new.lost ≡ old.lost
  pub posts : new.posts ≡ old.posts

-- Turns with whoever asks to come in, and behind them one turn of an office, at the same second: first the events of the clients' turns, and then those of the office's.
pub record AllHadTurns {O : Type 0} (works : WorksOf O) (terms : Terms) (called : Bool) (now : ℕ) (old : Service × O) (es : List Event) (os : List Outcome) (new : Service × O) (crowd : List Away) : Type 0 where
  pub turn_events : List Event
  pub turn_outcomes : List Outcome
  pub office_events : List Event
  pub office_outcomes : List Outcome
  pub served : HasHadTurns terms now old.0 turn_events turn_outcomes new.0 crowd
  pub office : works called now old.1 office_events office_outcomes new.1
  pub events_are : es ≡ turn_events ++ office_events
  pub outcomes_are : os ≡ turn_outcomes ++ office_outcomes

-- A service, a log with the writes that were made of it, the readings of a watch, and an office.
abbrev pub House : Type 0 → Type 0 → Type 0
House L O = Service × (L × List WireCall) × List Reading × O

module _ {L O : Type 0} (contents : L → Option (List ℕ)) (lets_wait : O → Pace) (works : WorksOf O) (terms : Terms) where
  -- A round of a service with its log, with a watch that is read once, and with an office: one wait, as long as the office lets it last; then turns with whoever asks to come in, and behind them the office's, by these events and at the moment that was read. Then those go out who have gone, and of each of them, and of each who was turned away, the log gets a line.
  pub record HasHadRound (old : House L O) (es : List Event) (os : List Outcome) (new : House L O) : Type 0 where
    pub called : List SocketEvent
    pub reading : Reading
    pub waited : Service
    pub turned : Service
    pub crowd : List Away
    pub given_before : List ℕ
    pub given_now : List ℕ
    pub wait : HasWaited (lets_wait old.3) called old.0 waited
    pub read : new.2 ≡ old.2 ++ reading ∷ []
    pub turns : AllHadTurns works terms (calls_office (patience (lets_wait old.3) old.0) called) (seconds_of reading) (waited, old.3) es os (turned, new.3) crowd
    pub seen_off : HasSeenOff turned new.0
    pub logged : IsLogged contents terms.log given_before given_now crowd turned.clients.items old.1 new.1

  -- so many rounds, one after another, by these events
  pub data HasHadRounds : ℕ → House L O → List Event → List Outcome → House L O → Type 0 where
    none : (house : House L O) → HasHadRounds 0 house [] [] house
    more : (rounds : ℕ) (old mid new : House L O) (es fs : List Event) (os ps : List Outcome) → HasHadRounds rounds old es os mid → HasHadRound mid fs ps new → HasHadRounds (rounds + 1) old (es ++ fs) (os ++ ps) new

-- Why it ends behind so many rounds, by whether the site is still usable and how long the office lets a wait last: all were had, the next wait failed, or the site is not usable.
abbrev pub EndsServing : {X : Type 0} → Result X DailyFault → Bool → Pace → ℕ → Service → Service → Type 0
EndsServing (Ok _) usable pace rounds last new = (rounds ≡ 2 ^ 64 - 1) × (new ≡ last)
EndsServing (Err Net) usable pace rounds last new = (usable ≡ true) × HasNotWaited pace last new
EndsServing (Err Failed) usable pace rounds last new = (usable ≡ false) × (new ≡ last)
EndsServing (Err Memory) usable pace rounds last new = ⊥

-- A service, a log, the readings of a watch, and an office.
abbrev pub Premises : Type 0 → Type 0 → Type 0
Premises L O = Service × L × List Reading × O

-- Rounds were had by these events, in which of no origin more than so many are in, and why it ended; behind the last of them the log gets nothing, and the office has no turn. What is written to the log is written by the writes that are noted, from the first on.
pub record HasServed {L O X : Type 0} (contents : L → Option (List ℕ)) (lets_wait : O → Pace) (works : WorksOf O) (terms : Terms) (result : Result X DailyFault) (usable : Bool) (old : Premises L O) (es : List Event) (os : List Outcome) (new : Premises L O) : Type 0 where
  pub rounds : ℕ
  pub last : Service
  pub written : List WireCall
  pub had : HasHadRounds contents lets_wait works terms rounds (old.0, (old.1, []), old.2, old.3) es os (last, (new.1, written), new.2, new.3)
  pub ends : EndsServing result usable (lets_wait new.3) rounds last new.0

-- All that was done to a hub is a run, by the events of these rounds.
abbrev pub ServesInHub : {S Log O X : Type 0} {bound : _} {ghosts : _} → (Log → Option (List ℕ)) → (O → Pace) → WorksOf O → Terms → Result X DailyFault → Hub S bound ghosts → Hub S bound ghosts → Premises Log O → Premises Log O → List ℕ → List ℕ → Type 0
ServesInHub {ghosts = ghosts} contents lets_wait works terms result old new first last told_before told_now = HasRun RunsHub old new told_before told_now (λ es os.
    HasServed contents lets_wait works terms result (ghosts.site_state (keeper_of new)).usable first es os last)

-- Of no origin more are in than may be: so it is where nobody is, where others were let in, behind turns, and behind rounds.
pub record StaysSpread {L O : Type 0} (contents : L → Option (List ℕ)) (lets_wait : O → Pace) (works : WorksOf O) : Type 0 where
  pub at_first : (terms : Terms) → IsSpread terms.most []
  pub let_in : (terms : Terms) (now : ℕ) (old new : Service) (es : List Event) (os : List Outcome) (crowd : List Away) → HasLetIn terms now old es os new crowd → IsSpread terms.most old.clients.items → IsSpread terms.most new.clients.items
  pub by_turns : (terms : Terms) (now : ℕ) (old new : Service) (es : List Event) (os : List Outcome) (crowd : List Away) → HasHadTurns terms now old es os new crowd → IsSpread terms.most old.clients.items → IsSpread terms.most new.clients.items
  pub by_rounds : (terms : Terms) (rounds : ℕ) (old new : House L O) (es : List Event) (os : List Outcome) → HasHadRounds contents lets_wait works terms rounds old es os new → IsSpread terms.most old.0.clients.items → IsSpread terms.most new.0.clients.items
