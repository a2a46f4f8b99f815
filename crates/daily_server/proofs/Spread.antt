-- Of no origin more are in than may be.
use Rattle.std.proofs.Common.{◌≡◌, ℕ, ◌+◌, ◌<◌, ◌≤◌, Bool, true, false, not, ◌||◌, nat_lt, cond, List, [], ◌∷◌, ◌++◌, map, filter, length, length-append, refl, sym, ap, subst, ◌∙◌, arith}
use Rattle.std.proofs.lemmas.Bool.Decides.{nat_tests}
use Rattle.std.proofs.lemmas.List.Elements.{filter-append}
use Rattle.std.proofs.lemmas.Slice.Eq.{bytes_eq-Decides}
use Rattle.mio.specs.declared.event.event.Event.{Event as SocketEvent}
use Rattle.group_world.specs.declared.event.Event.{Event}
use Rattle.group_world.specs.declared.event.Outcome.{Outcome}
use Rattle.daily_server.specs.ListenerCalls.{ListenerCall}
use Rattle.daily_server.specs.Origins.{Origin, Ipv4, Ipv6, origin_of, is_same}
use Rattle.daily_server.specs.Rounds.{AreReceived, nobody, in_behind, away, HasHadTurns, HasHadRounds, House, none, more, who}
use Rattle.daily_server.specs.Offices.{WorksOf}
use Rattle.daily_server.specs.declared.pace.Pace.{Pace}
use Rattle.daily_server.specs.DailyClients.{count_of, has_gone, is_called, is_crowded, woken_by, woken_where, IsSpread}
use Rattle.daily_server.specs.declared.crowd.Away.{Away}
use Rattle.daily_server.specs.declared.terms.Terms.{Terms}
use Rattle.daily_server.specs.declared.daily_client.DailyClient.{DailyClient}

-- ---- one more

pub same_is : (one other : Origin) → is_same one other ≡ true → one ≡ other
same_is (Ipv4 a) (Ipv4 b) h = ap Ipv4 ((bytes_eq-Decides a b).0 h)
same_is (Ipv6 a) (Ipv6 b) h = ap Ipv6 ((bytes_eq-Decides a b).0 h)
same_is (Ipv4 a) (Ipv6 b) h = absurd cc
same_is (Ipv6 a) (Ipv4 b) h = absurd cc

one_of : (b : Bool) (origin : Origin) (client : DailyClient) → is_same (origin_of client.from) origin ≡ b → count_of origin (client ∷ []) ≡ cond b 1 0
one_of true origin client is = ap (λ c. length (cond c (client ∷ []) [])) is
one_of false origin client is = ap (λ c. length (cond c (client ∷ []) [])) is

count_more : (origin : Origin) (clients : List DailyClient) (client : DailyClient) → count_of origin (clients ++ client ∷ []) ≡ count_of origin clients + count_of origin (client ∷ [])
count_more origin clients client = let test = λ (v : DailyClient). is_same (origin_of v.from) origin in
    ap length (filter-append test clients (client ∷ [])) ∙ length-append (filter test clients) (filter test (client ∷ []))

less_if : (count most : ℕ) → not (nat_lt count most) ≡ false → count < most
less_if count most h = grind (arith, nat_tests)

spread_if : (b : Bool) (most : ℕ) (origin : Origin) (clients : List DailyClient) (client : DailyClient) → is_same (origin_of client.from) origin ≡ b → count_of origin clients ≤ most → is_crowded most clients client.from ≡ false → count_of origin (clients ++ client ∷ []) ≤ most
spread_if true most origin clients client is few free =
    let less : count_of (origin_of client.from) clients < most = less_if (count_of (origin_of client.from) clients) most free in
    let same : count_of (origin_of client.from) clients ≡ count_of origin clients = ap (λ o. count_of o clients) (same_is (origin_of client.from) origin is) in
    omega (arith, count_more origin clients client, one_of true origin client is, less, same)
spread_if false most origin clients client is few free = omega (arith, count_more origin clients client, one_of false origin client is, few)

spread_more : (most : ℕ) (clients : List DailyClient) (client : DailyClient) → IsSpread most clients → is_crowded most clients client.from ≡ false → IsSpread most (clients ++ client ∷ [])
spread_more most clients client spread free origin = spread_if (is_same (origin_of client.from) origin) most origin clients client refl (spread origin) free

pub received_spread : (terms : Terms) (now : ℕ) (old : List DailyClient) (es : List Event) (os : List Outcome) (new : List DailyClient) (calls : List ListenerCall) (crowd : List Away) → AreReceived terms now old es os new calls crowd → IsSpread terms.most old → IsSpread terms.most new
received_spread terms now old es os new calls crowd nobody spread = spread
received_spread terms now old es os new calls crowd (in_behind es_before os_before clients calls_before crowd_before client outcome before free is_new) spread = spread_more terms.most clients client (received_spread terms now old es_before os_before clients calls_before crowd_before before spread) free
received_spread terms now old es os new calls crowd (away es_before os_before clients calls_before crowd_before from token socket before full declined) spread = received_spread terms now old es_before os_before clients calls_before crowd_before before spread

-- ---- the same clients

counted_if : (b : Bool) (origin : Origin) (client : DailyClient) (clients : List DailyClient) → is_same (origin_of client.from) origin ≡ b → count_of origin (client ∷ clients) ≡ cond b 1 0 + count_of origin clients
counted_if true origin client clients is = let rest = filter (λ (v : DailyClient). is_same (origin_of v.from) origin) clients in
    ap (λ c. length (cond c (client ∷ rest) rest)) is ∙ omega arith
counted_if false origin client clients is = let rest = filter (λ (v : DailyClient). is_same (origin_of v.from) origin) clients in
    ap (λ c. length (cond c (client ∷ rest) rest)) is ∙ omega arith

counted : (origin : Origin) (client : DailyClient) (clients : List DailyClient) → count_of origin (client ∷ clients) ≡ cond (is_same (origin_of client.from) origin) 1 0 + count_of origin clients
counted origin client clients = counted_if (is_same (origin_of client.from) origin) origin client clients refl

pub same_count : (origin : Origin) (old new : List DailyClient) → map who new ≡ map who old → count_of origin new ≡ count_of origin old
same_count origin [] [] same = refl
same_count origin [] (v ∷ new) same = absurd cc
same_count origin (v ∷ old) [] same = absurd cc
same_count origin (v ∷ old) (w ∷ new) same =
    let first : who w ≡ who v = cc same in
    let rest : map who new ≡ map who old = cc same in
    counted origin w new ∙ ap (λ (f : _). cond (is_same (origin_of f.0) origin) 1 0 + count_of origin new) first ∙ ap (λ n. cond (is_same (origin_of v.from) origin) 1 0 + n) (same_count origin old new rest) ∙ sym (counted origin v old)

pub same_spread : (most : ℕ) (old new : List DailyClient) → map who new ≡ map who old → IsSpread most old → IsSpread most new
same_spread most old new same spread origin = subst (λ n. n ≤ most) (sym (same_count origin old new same)) (spread origin)

woken_who : (wakes : Bool) (client : DailyClient) → who (woken_where wakes client) ≡ who client
woken_who true client = refl
woken_who false client = refl

pub all_woken_who : (all : Bool) (events : List SocketEvent) (clients : List DailyClient) → map who (map (woken_by all events) clients) ≡ map who clients
all_woken_who all events [] = refl
all_woken_who all events (v ∷ clients) = cc (woken_who (all || is_called events v.token) v, all_woken_who all events clients)

-- ---- who has gone

kept_if : (b : Bool) (origin : Origin) (client : DailyClient) (clients : List DailyClient) → count_of origin (filter (λ v. not (has_gone v)) clients) ≤ count_of origin clients → count_of origin (cond b (client ∷ filter (λ v. not (has_gone v)) clients) (filter (λ v. not (has_gone v)) clients)) ≤ count_of origin (client ∷ clients)
kept_if true origin client clients fewer = omega (arith, counted origin client clients, counted origin client (filter (λ v. not (has_gone v)) clients), fewer)
kept_if false origin client clients fewer = omega (arith, counted origin client clients, fewer)

kept_count : (origin : Origin) (clients : List DailyClient) → count_of origin (filter (λ v. not (has_gone v)) clients) ≤ count_of origin clients
kept_count origin [] = omega arith
kept_count origin (v ∷ clients) = kept_if (not (has_gone v)) origin v clients (kept_count origin clients)

pub kept_spread : (most : ℕ) (old new : List DailyClient) → new ≡ filter (λ v. not (has_gone v)) old → IsSpread most old → IsSpread most new
kept_spread most old new is spread origin = omega (arith, ap (count_of origin) is, kept_count origin old, spread origin)

-- ---- turns and rounds

pub turns_spread : (terms : Terms) (now : ℕ) (old new : _) (es : List Event) (os : List Outcome) (crowd : List Away) → HasHadTurns terms now old es os new crowd → IsSpread terms.most old.clients.items → IsSpread terms.most new.clients.items
turns_spread terms now old new es os crowd had spread = same_spread terms.most had.full.clients.items new.clients.items had.same_who (received_spread terms now old.clients.items had.join_events had.join_outcomes had.full.clients.items had.let_in.calls crowd had.let_in.received spread)

pub rounds_spread : {L O : Type 0} (contents : L → _) (lets_wait : O → Pace) (works : WorksOf O) (terms : Terms) (rounds : ℕ) (old new : House L O) (es : List Event) (os : List Outcome) → HasHadRounds contents lets_wait works terms rounds old es os new → IsSpread terms.most old.0.clients.items → IsSpread terms.most new.0.clients.items
rounds_spread contents lets_wait works terms rounds old new es os (none house) spread = spread
rounds_spread contents lets_wait works terms rounds old new es os (more before _ mid _ es_before es_now os_before os_now had one) spread =
    kept_spread terms.most one.turned.clients.items new.0.clients.items one.seen_off.clients
    (turns_spread terms _ one.waited one.turned one.turns.turn_events one.turns.turn_outcomes one.crowd one.turns.served
    (same_spread terms.most mid.0.clients.items one.waited.clients.items (ap (map who) one.wait.woken.clients ∙ all_woken_who _ one.called mid.0.clients.items)
    (rounds_spread contents lets_wait works terms before old mid es_before os_before had spread)))
