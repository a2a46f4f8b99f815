-- Who comes in behind those who are in, and what was asked of the listener meanwhile.
use Rattle.std.proofs.Common.{◌≡◌, ℕ, ◌+◌, ◌<◌, ◌≤◌, Bool, true, false, not, ◌&&◌, nat_lt, Some, None, List, [], ◌∷◌, ◌++◌, length, length-append, refl, sym, ap, ◌∙◌, append_assoc, arith, subst}
use Rattle.std.proofs.lemmas.List.{append-nil}
use Rattle.std.proofs.lemmas.Bool.Decides.{nat_tests}
use Rattle.std.specs.declared.net.ip_addr.IpAddr.{IpAddr}
use Rattle.mio.specs.declared.net.stream.TcpStream.{TcpStream}
use Rattle.mio.specs.declared.token.Token.{Token}
use Rattle.group_world.specs.declared.event.Event.{Event}
use Rattle.group_world.specs.declared.event.Event.TheVariants as events
use Rattle.group_world.specs.declared.event.Outcome.{Outcome}
use Rattle.group_world.specs.declared.event.Outcome.TheVariants as outcomes
use Rattle.daily_turns.specs.ReadyConnections.{ConnectionState, IsConnected, Dismissed, HasKept, joined_state, acts}
use Rattle.daily_turns.specs.declared.ready_connection.ReadyConnection.{ReadyConnection}
use Rattle.daily_server.specs.declared.ready_socket.ReadySocket.{ReadySocket}
use Rattle.daily_server.specs.ListenerCalls.{ListenerCall, Came, NotHad, both_ways}
use Rattle.daily_server.specs.Rounds.{came_call, AreReceived, nobody, in_behind, away, may_not, enough, none_had, HasLetIn}
use Rattle.daily_server.specs.DailyClients.{asks, is_crowded, HasAsked, ComesIn, ComesInOrNot, IsReceived, IsReceivedIf, comes, no_space}
use Rattle.daily_server.specs.declared.crowd.Away.{Away}
use Rattle.daily_server.specs.declared.service.Service.{Service}
use Rattle.daily_server.specs.declared.terms.Terms.{Terms}
use Rattle.daily_server.specs.declared.daily_client.DailyClient.{DailyClient}

-- a session that has joined or could not has a turn
joined_turn : (outcome : Outcome) → (not (joined_state outcome).waits && acts (joined_state outcome).stage) ≡ true
joined_turn (outcomes.Joined id) = refl
joined_turn outcome = refl

pub comes_in : (terms : Terms) (has_space : Type 0) (from : IpAddr) (token : Token) (now : ℕ) (wire : ReadySocket) (connection : ReadyConnection ReadySocket) (old new : List DailyClient) (es : List Event) (os : List Outcome) → wire.made.calls ≡ [] → new ≡ old ++ record { connection = connection; from = from; token = token; came = now; moved = now } ∷ [] → IsConnected wire terms.old_clients es os connection → ComesInOrNot terms has_space from token now old es os new
comes_in terms has_space from token now wire connection old new es os unread is connected = comes (record {
  client = record { connection = connection; from = from; token = token; came = now; moved = now };
  outcome = connected.outcome;
  events_are = connected.events_are;
  outcomes_are = connected.outcomes_are;
  is = is;
  from_is = refl;
  token_is = refl;
  is_new = record {
    came = refl;
    moved = refl;
    unread = ap (λ (w : ReadySocket). w.made.calls) connected.wire_is ∙ unread;
    adapter = connected.adapter_is;
    session = connected.state_is;
    turn = ap (λ (s : ConnectionState). not s.waits && acts s.stage) connected.state_is ∙ joined_turn connected.outcome;
  };
})

pub finds_no_space : (terms : Terms) (has_space : Type 0) (from : IpAddr) (token : Token) (now : ℕ) (wire : ReadySocket) (connection back gone : ReadyConnection ReadySocket) (old new : List DailyClient) (es fs : List Event) (os ps : List Outcome) → (has_space → ⊥) → new ≡ old → back ≡ connection → IsConnected wire terms.old_clients es os connection → HasKept (λ (w : ReadySocket). w.made.calls) Dismissed back fs ps gone → ComesInOrNot terms has_space from token now old (es ++ fs) (os ++ ps) new
finds_no_space terms has_space from token now wire connection back gone old new es fs os ps full is same connected dismissed = no_space full is (record {
  socket = wire;
  connection = connection;
  gone = gone;
  join_events = es;
  join_outcomes = os;
  later_events = fs;
  later_outcomes = ps;
  connected = connected;
  dismissed = subst (λ (s : ReadyConnection ReadySocket). HasKept (λ (w : ReadySocket). w.made.calls) Dismissed s fs ps gone) same dismissed;
  events_are = refl;
  outcomes_are = refl;
})

-- where there is space it comes in
comes_surely : {terms : Terms} {has_space : Type 0} {from : IpAddr} {token : Token} {now : ℕ} {old new : List DailyClient} {es : List Event} {os : List Outcome} → ComesInOrNot terms has_space from token now old es os new → has_space → ComesIn terms from token now old es os new
comes_surely (comes one) space = one
comes_surely (no_space full is gone) space = absurd (full space)

-- ---- one who came

-- it is in, or was turned away, behind those who came before
received_next : (b : Bool) (terms : Terms) (now : ℕ) (old clients new : List DailyClient) (from : IpAddr) (token : Token) (has_space : Type 0) (es fs : List Event) (os ps : List Outcome) (calls : List ListenerCall) (crowd after : List Away) → has_space → is_crowded terms.most clients from ≡ b → AreReceived terms now old es os clients calls crowd → IsReceivedIf b terms has_space from token now clients fs ps new crowd after → AreReceived terms now old (es ++ fs) (os ++ ps) new (calls ++ Came from token both_ways ∷ []) after
received_next true terms now old clients new from token has_space es fs os ps calls crowd after space is before out =
    let all = calls ++ Came from token both_ways ∷ [] in
    subst (λ l. AreReceived terms now old l (os ++ ps) new all after) (sym (ap (λ l. es ++ l) out.no_events ∙ append-nil es))
    (subst (λ l. AreReceived terms now old es l new all after) (sym (ap (λ l. os ++ l) out.no_outcomes ∙ append-nil os))
    (subst (λ l. AreReceived terms now old es os l all after) (sym out.same)
    (subst (λ l. AreReceived terms now old es os clients all l) (sym out.noted) (away es os clients calls crowd from token out.socket before is out.declined))))
received_next false terms now old clients new from token has_space es fs os ps calls crowd after space is before received =
    let one = comes_surely received.0 space in
    let call_is : came_call one.client ≡ Came from token both_ways = cc (one.from_is, one.token_is) in
    subst (λ l. AreReceived terms now old (es ++ l) (os ++ ps) new (calls ++ Came from token both_ways ∷ []) after) (sym one.events_are)
    (subst (λ l. AreReceived terms now old (es ++ events.Join ∷ []) (os ++ l) new (calls ++ Came from token both_ways ∷ []) after) (sym one.outcomes_are)
    (subst (λ l. AreReceived terms now old (es ++ events.Join ∷ []) (os ++ one.outcome ∷ []) l (calls ++ Came from token both_ways ∷ []) after) (sym one.is)
    (subst (λ call. AreReceived terms now old (es ++ events.Join ∷ []) (os ++ one.outcome ∷ []) (clients ++ one.client ∷ []) (calls ++ call ∷ []) after) call_is
    (subst (λ l. AreReceived terms now old (es ++ events.Join ∷ []) (os ++ one.outcome ∷ []) (clients ++ one.client ∷ []) (calls ++ came_call one.client ∷ []) l) (sym received.1)
    (in_behind es os clients calls crowd one.client one.outcome before (ap (is_crowded terms.most clients) one.from_is ∙ is) one.is_new)))))

-- no more than one is in more
grown : (b : Bool) (terms : Terms) (clients new : List DailyClient) (from : IpAddr) (token : Token) (now : ℕ) (has_space : Type 0) (fs : List Event) (ps : List Outcome) (crowd after : List Away) → has_space → IsReceivedIf b terms has_space from token now clients fs ps new crowd after → length new ≤ length clients + 1
grown true terms clients new from token now has_space fs ps crowd after space out = omega (arith, ap length out.same)
grown false terms clients new from token now has_space fs ps crowd after space received =
    let one = comes_surely received.0 space in
    omega (arith, ap length one.is, length-append clients (one.client ∷ []))

-- ---- one after another

-- So many came so far, by these events, and no one else was asked for.
pub record IsLettingIn (terms : Terms) (now count : ℕ) (old : Service) (es : List Event) (os : List Outcome) (mid : Service) (crowd : List Away) : Type 0 where
  pub calls : List ListenerCall
  pub made : mid.listener.made.calls ≡ old.listener.made.calls ++ calls
  pub count_is : length calls ≡ count
  pub may_accept : mid.may_accept ≡ old.may_accept
  pub lost : mid.lost ≡ old.lost
  pub unasked : asks old ≡ false → mid ≡ old
  pub received : AreReceived terms now old.clients.items es os mid.clients.items calls crowd
  pub few : length old.clients.items ≤ 32 → length mid.clients.items ≤ 32
  pub posts : mid.posts ≡ old.posts

pub none_yet : (terms : Terms) (now : ℕ) (service : Service) (crowd : List Away) → crowd ≡ [] → IsLettingIn terms now 0 service [] [] service crowd
none_yet terms now service crowd is = record {
  calls = [];
  made = sym (append-nil service.listener.made.calls);
  count_is = refl;
  may_accept = refl;
  lost = refl;
  unasked = λ h. refl;
  received = subst (λ l. AreReceived terms now service.clients.items [] [] service.clients.items [] l) (sym is) nobody;
  few = λ h. h;
  posts = refl;
}

asks_if : (may : Bool) (count : ℕ) → may ≡ true → count < 32 → (may && nat_lt count 32) ≡ true
asks_if may count is few = grind (arith, nat_tests)

not_both : {X : Type 0} (b : Bool) → b ≡ true → b ≡ false → X
not_both b is is_not = absurd cc

-- a client that came was asked for by one call
came_by : (asked may lost : Bool) (next : TcpStream × IpAddr × Token) (made : List ListenerCall) → asked ≡ true → HasAsked asked may lost (Some next) made → made ≡ Came next.1 next.2 both_ways ∷ []
came_by true may lost next made is h = h
came_by false may lost next made is h = absurd cc

-- one more came
pub one_more : (terms : Terms) (now count : ℕ) (old mid asked new : Service) (next : TcpStream × IpAddr × Token) (has_space : Type 0) (es fs : List Event) (os ps : List Outcome) (crowd after : List Away) → has_space → asked.clients ≡ mid.clients → length mid.clients.items < 32 → (mid.may_accept ≡ true) × (asked.may_accept ≡ true) → asked.lost ≡ mid.lost → (made : List ListenerCall) × (asked.listener.made.calls ≡ mid.listener.made.calls ++ made) × HasAsked (asks mid) asked.may_accept asked.lost (Some next) made → new.listener ≡ asked.listener → new.may_accept ≡ asked.may_accept → new.lost ≡ asked.lost → new.posts ≡ mid.posts → IsLettingIn terms now count old es os mid crowd → IsReceived terms has_space next.1 next.2 now asked.clients.items fs ps new.clients.items crowd after → IsLettingIn terms now (count + 1) old (es ++ fs) (os ++ ps) new after
one_more terms now count old mid asked new next has_space es fs os ps crowd after space same service may lost_is calls listener kept kept_lost kept_posts before one =
    let asked_is : asks mid ≡ true = asks_if mid.may_accept (length mid.clients.items) may.0 service in
    let calls_are : asked.listener.made.calls ≡ mid.listener.made.calls ++ Came next.1 next.2 both_ways ∷ [] = calls.1 ∙ ap (λ l. mid.listener.made.calls ++ l) (came_by (asks mid) asked.may_accept asked.lost next calls.0 asked_is calls.2) in
    let here : AreReceived terms now old.clients.items es os asked.clients.items before.calls crowd = subst (λ v. AreReceived terms now old.clients.items es os v before.calls crowd) (ap (λ v. v.items) (sym same)) before.received in
    record {
      calls = before.calls ++ Came next.1 next.2 both_ways ∷ [];
      made = ap (λ d. d.made.calls) listener ∙ calls_are ∙ ap (λ l. l ++ Came next.1 next.2 both_ways ∷ []) before.made ∙ append_assoc old.listener.made.calls before.calls (Came next.1 next.2 both_ways ∷ []);
      count_is = omega (arith, before.count_is, length-append before.calls (Came next.1 next.2 both_ways ∷ []));
      may_accept = cc (kept, may.0, may.1, before.may_accept);
      lost = cc (kept_lost, lost_is, before.lost);
      unasked = λ h. not_both (asks mid) asked_is (ap asks (before.unasked h) ∙ h);
      received = received_next (is_crowded terms.most asked.clients.items next.1) terms now old.clients.items asked.clients.items new.clients.items next.1 next.2 has_space es fs os ps before.calls crowd after space refl here one;
      few = λ h. omega (arith, ap (λ v. length v.items) same, grown (is_crowded terms.most asked.clients.items next.1) terms asked.clients.items new.clients.items next.1 next.2 now has_space fs ps crowd after space one);
      posts = kept_posts ∙ before.posts;
    }

nobody_more : (terms : Terms) (now count : ℕ) (old mid new : Service) (es : List Event) (os : List Outcome) (crowd : List Away) (asked : Bool) (made : List ListenerCall) → asks mid ≡ asked → IsLettingIn terms now count old es os mid crowd → count < 32 → new.clients ≡ mid.clients → new.posts ≡ mid.posts → new.listener.made.calls ≡ mid.listener.made.calls ++ made → HasAsked {W = TcpStream} asked new.may_accept new.lost None made → (asks mid ≡ false → new ≡ mid) → HasLetIn terms now old es os new crowd
nobody_more terms now count old mid new es os crowd false made asked_is before few same posts calls none unasked = record {
  calls = before.calls;
  last = [];
  made = calls ∙ ap (λ l. mid.listener.made.calls ++ l) none ∙ append-nil mid.listener.made.calls ∙ before.made ∙ ap (λ l. old.listener.made.calls ++ l) (sym (append-nil before.calls));
  least = omega (arith, before.count_is);
  ends = may_not (ap asks (unasked asked_is) ∙ asked_is) (ap (λ r. r.may_accept) (unasked asked_is) ∙ before.may_accept) (ap (λ r. r.lost) (unasked asked_is) ∙ before.lost);
  unasked = λ h. unasked asked_is ∙ before.unasked h;
  received = subst (λ v. AreReceived terms now old.clients.items es os v before.calls crowd) (ap (λ v. v.items) (sym same)) before.received;
  few = λ h. omega (arith, before.few h, ap (λ v. length v.items) same);
  posts = posts ∙ before.posts;
}
nobody_more terms now count old mid new es os crowd true made asked_is before few same posts calls none unasked = record {
  calls = before.calls;
  last = NotHad none.0 ∷ [];
  made = calls ∙ ap (λ l. mid.listener.made.calls ++ l) none.1 ∙ ap (λ l. l ++ NotHad none.0 ∷ []) before.made ∙ append_assoc old.listener.made.calls before.calls (NotHad none.0 ∷ []);
  least = omega (arith, before.count_is);
  ends = none_had none.0 none.2 none.3;
  unasked = λ h. not_both (asks mid) asked_is (ap asks (before.unasked h) ∙ h);
  received = subst (λ v. AreReceived terms now old.clients.items es os v before.calls crowd) (ap (λ v. v.items) (sym same)) before.received;
  few = λ h. omega (arith, before.few h, ap (λ v. length v.items) same);
  posts = posts ∙ before.posts;
}

-- nobody more came
pub no_more : (terms : Terms) (now count : ℕ) (old mid new : Service) (es : List Event) (os : List Outcome) (crowd : List Away) → IsLettingIn terms now count old es os mid crowd → count < 32 → new.clients ≡ mid.clients → new.posts ≡ mid.posts → (made : List ListenerCall) × (new.listener.made.calls ≡ mid.listener.made.calls ++ made) × HasAsked {W = TcpStream} (asks mid) new.may_accept new.lost None made → (asks mid ≡ false → new ≡ mid) → HasLetIn terms now old es os new crowd
no_more terms now count old mid new es os crowd before few same posts calls = nobody_more terms now count old mid new es os crowd (asks mid) calls.0 refl before few same posts calls.1 calls.2

-- as many came as are asked for at most
pub all_came : (terms : Terms) (now : ℕ) (old new : Service) (es : List Event) (os : List Outcome) (crowd : List Away) → IsLettingIn terms now 32 old es os new crowd → HasLetIn terms now old es os new crowd
all_came terms now old new es os crowd before = record {
  calls = before.calls;
  last = [];
  made = before.made ∙ ap (λ l. old.listener.made.calls ++ l) (sym (append-nil before.calls));
  least = omega (arith, before.count_is);
  ends = enough before.count_is before.may_accept before.lost;
  unasked = before.unasked;
  received = before.received;
  few = before.few;
  posts = before.posts;
}
