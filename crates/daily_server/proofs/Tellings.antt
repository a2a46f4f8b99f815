-- What the hub is told of what a client sends, through its turns.
use Rattle.std.proofs.Common.{◌≡◌, ⊎_elim, ℕ, Bool, true, false, not, List, [], ◌∷◌, ◌++◌, ◌==◌, ◌||◌, length, refl, sym, ap, subst, ◌∙◌, arith, eqb-true, append_assoc}
use Rattle.std.proofs.lemmas.Bool.{and_parts, or_parts, true≢false}
use Rattle.std.proofs.lemmas.List.{append-nil}
use Rattle.std.proofs.lemmas.List.Folds.{list_any-append}
use Rattle.std.proofs.lemmas.Grind.{flat_map-append}
use Rattle.std.specs.Prelude.{flat_map}
use Rattle.std.specs.List.{list_any}
use Rattle.group_world.specs.declared.event.Event.{Event}
use Rattle.group_world.specs.declared.event.Event.TheVariants as events
use Rattle.group_world.specs.declared.event.Outcome.{Outcome}
use Rattle.group_world.specs.declared.event.Outcome.TheVariants as outcomes
use Rattle.old_clients.specs.AdaptedRequest.{adapted_request}
use Rattle.old_clients.specs.Clients.{Adapting, HasHeard, IsHeard, fresh_client}
use Rattle.old_clients.specs.Streams.{Hearing, will_pass}
use Rattle.turns.specs.WireCalls.{WireCall, Read, ReadFailed, ReadWaited, Wrote, WriteFailed, WriteWaited, Closed}
use Rattle.turns.specs.Turns.{Trace, trace, nothing, IsTold, once, again, heard_event}
use Rattle.daily_turns.specs.ReadyConnections.{ConnectionState, at, has_left, leaving, is_held, IsAdapted, TellsUnless, Listens, AsksWhatCame, DrawsOrWrites, WritesOn, Finishes, ActsInHub, LeavesIfOver, WhereReady, Acts, ConnectionTurn, LearnsAt, LearnsWhatCame, DismissedAt, Dismissed, TurnedDownAt, TurnedDown}
use Rattle.daily_turns.specs.declared.ready_connection.ConnectionStage.{ConnectionStage}
use Rattle.daily_turns.specs.declared.ready_connection.ConnectionStage.TheVariants as stages
use Rattle.daily_turns.specs.declared.ready_connection.Ending.{Ending}
use Rattle.daily_server.specs.Sent.{read_by}
use Rattle.daily_server.specs.Told.{bytes_told, all_told, is_end, passed_on}

abbrev read : List WireCall → List ℕ
read calls = flat_map read_by calls

-- what is so of a client's adapter, by what the hub was told and by the calls of its wire
abbrev pub Tells : Bool → Adapting → List ℕ → List WireCall → Type 0
Tells old_client adapter told calls = list_any is_end calls ≡ false → (rest : List ℕ) → told ++ will_pass adapter.asks rest ≡ passed_on old_client (read calls ++ rest)

-- ---- calls

none_ended : (calls made : List WireCall) → list_any is_end (calls ++ made) ≡ false → (list_any is_end calls ≡ false) × (list_any is_end made ≡ false)
none_ended calls made none = or_parts (list_any is_end calls) (list_any is_end made) (sym (list_any-append is_end calls made) ∙ none)

-- calls that read nothing
same_told : (old_client : Bool) (adapter later : Adapting) (told : List ℕ) (calls made : List WireCall) → later.asks ≡ adapter.asks → read made ≡ [] → Tells old_client adapter told calls → Tells old_client later told (calls ++ made)
same_told old_client adapter later told calls made same unread tells none rest =
    ap (λ asks. told ++ will_pass asks rest) same ∙ tells (none_ended calls made none).0 rest
    ∙ ap (λ l. passed_on old_client (l ++ rest)) (sym (flat_map-append read_by calls made ∙ ap (λ l. read calls ++ l) unread ∙ append-nil (read calls)))

-- ---- events

-- what a trace tells of is counted apart from a departure behind it
abbrev TellsApart : List Event → Type 0
TellsApart es = (id : ℕ) → all_told (es ++ events.Leave id ∷ []) ≡ all_told es

heard_alone : (id now : ℕ) (piece : List ℕ) → all_told (heard_event id piece now ∷ []) ≡ piece
heard_alone id now [] = refl
heard_alone id now (b ∷ piece) = append-nil (b ∷ piece)

heard_apart : (id now : ℕ) (piece : List ℕ) → TellsApart (heard_event id piece now ∷ [])
heard_apart id now [] leaving = refl
heard_apart id now (b ∷ piece) leaving = refl

told_is : (id : ℕ) (piece : List ℕ) (es : List Event) (os : List Outcome) (o : Outcome) → IsTold id piece es os o → (all_told es ≡ piece) × TellsApart es
told_is id piece es os o (once now is are other) = subst (λ (l : List Event). (all_told l ≡ piece) × TellsApart l) (sym is) (heard_alone id now piece, heard_apart id now piece)
told_is id piece es os o (again now later flushed is are) = subst (λ (l : List Event). (all_told l ≡ piece) × TellsApart l) (sym is) (heard_alone id later piece, heard_apart id later piece)

no_bytes : (bytes : List ℕ) → length bytes ≡ 0 → bytes ≡ []
no_bytes [] none = refl
no_bytes (b ∷ bytes) none = absurd (omega (arith, none))

held_none : (piece passed : List ℕ) → is_held piece passed ≡ true → passed ≡ []
held_none piece passed held = no_bytes passed (eqb-true (length passed) 0 (and_parts (not (length piece == 0)) _ held).1)

tells_passed : (held : Bool) (id : ℕ) (piece passed : List ℕ) (es : List Event) (os : List Outcome) (after : ConnectionState) → is_held piece passed ≡ held → TellsUnless held id passed es os after → (all_told es ≡ passed) × TellsApart es
tells_passed true id piece passed es os after held (none, no_outcomes, is) = subst (λ (l : List Event). (all_told l ≡ passed) × TellsApart l) (sym none) (sym (held_none piece passed held), λ leaving. refl)
tells_passed false id piece passed es os after held (outcome, told, is) = told_is id passed es os outcome told

-- ---- a turn

abbrev Leads : Bool → Adapting → Trace → Adapting → Type 0
Leads old_client old t new = (told : List ℕ) (calls : List WireCall) → Tells old_client old told calls → Tells old_client new (told ++ all_told t.events) (calls ++ t.calls)

-- one of which nothing is told, and in which nothing is read
quiet : (old_client : Bool) (old new : Adapting) (t : Trace) → new.asks ≡ old.asks → read t.calls ≡ [] → all_told t.events ≡ [] → Leads old_client old t new
quiet old_client old new t same unread untold told calls tells = subst (λ l. Tells old_client new l (calls ++ t.calls)) (sym (ap (λ l. told ++ l) untold ∙ append-nil told)) (same_told old_client old new told calls t.calls same unread tells)

quiet_by : (old_client : Bool) (old new : Adapting) (t u : Trace) → t ≡ u → new.asks ≡ old.asks → read u.calls ≡ [] → all_told u.events ≡ [] → Leads old_client old t new
quiet_by old_client old new t u is same unread untold = subst (λ (v : Trace). Leads old_client old v new) (sym is) (quiet old_client old new u same unread untold)

-- a piece that was heard
hears_piece : (old_client : Bool) (old new : Adapting) (piece passed told : List ℕ) (calls : List WireCall) → HasHeard old piece passed new → Tells old_client old told calls → Tells old_client new (told ++ passed) (calls ++ Read 512 piece ∷ [])
hears_piece old_client old new [] passed told calls heard tells none rest = absurd (true≢false (none_ended calls (Read 512 [] ∷ []) none).1)
hears_piece old_client old new (b ∷ piece) passed told calls heard tells none rest =
    append_assoc told passed (will_pass new.asks rest)
    ∙ ap (λ l. told ++ l) (heard.asks.passes rest)
    ∙ tells (none_ended calls (Read 512 (b ∷ piece) ∷ []) none).0 ((b ∷ piece) ++ rest)
    ∙ ap (passed_on old_client) (sym (append_assoc (read calls) (b ∷ piece) rest) ∙ ap (λ l. l ++ rest) (sym (flat_map-append read_by calls (Read 512 (b ∷ piece) ∷ []) ∙ ap (λ l. read calls ++ l) (append-nil (b ∷ piece)))))

-- where the client's adapter stays
stays : (old new : Adapting) → new ≡ old → new.asks ≡ old.asks
stays old new same = ap (λ c. c.asks) same

listens : (old_client : Bool) (old new : Adapting) (id : ℕ) (unsent : List ℕ) (t : Trace) (after : ConnectionState) → Listens old new id unsent t after → Leads old_client old t new × TellsApart t.events
listens old_client old new id unsent t after does = ⊎_elim
    (λ h.
    let passed = tells_passed (is_held h.piece h.hears.passed) id h.piece h.hears.passed t.events t.outcomes after refl h.hears.told in
    (λ told calls tells. subst (λ l. Tells old_client new (told ++ l) (calls ++ t.calls)) (sym passed.0) (subst (λ l. Tells old_client new (told ++ h.hears.passed) (calls ++ l)) (sym h.calls_are) (hears_piece old_client old new h.piece h.hears.passed told calls h.hears.heard tells)), passed.1))
    (λ more. ⊎_elim
    (λ f. (quiet_by old_client old new t _ f.1.0 (stays old new f.0) refl refl, subst (λ (u : Trace). TellsApart u.events) (sym f.1.0) (λ leaving. refl)))
    (λ w. (quiet_by old_client old new t _ w.1.0 (stays old new w.0) refl refl, subst (λ (u : Trace). TellsApart u.events) (sym w.1.0) (λ leaving. refl)))
    more)
    does

writes : (old_client : Bool) (old new : Adapting) (before after : ConnectionState) (t : Trace) → new ≡ old → WritesOn before t after → Leads old_client old t new × TellsApart t.events
writes old_client old new before after t same does = ⊎_elim
    (λ s. one _ s.is refl)
    (λ more. ⊎_elim
    (λ f. ⊎_elim (λ failed. one _ failed refl) (λ none. one _ none refl) f.0)
    (λ w. one _ w.0 refl)
    more)
    does
  where
    one : (call : WireCall) → t ≡ trace (call ∷ []) [] [] → read_by call ≡ [] → Leads old_client old t new × TellsApart t.events
    one call is unread = (quiet_by old_client old new t _ is (stays old new same) (ap (λ l. l ++ []) unread) refl, subst (λ (u : Trace). TellsApart u.events) (sym is) (λ leaving. refl))

asks_kept : (old new : Adapting) (outcome : Outcome) (part : List ℕ) → IsAdapted old outcome part new → new.asks ≡ old.asks
asks_kept old new (outcomes.Drawn bytes) part adapted = adapted.asks
asks_kept old new outcomes.Finished part adapted = adapted.asks
asks_kept old new outcome part adapted = ap (λ c. c.asks) adapted.1

replies : (old_client : Bool) (old new : Adapting) (id : ℕ) (unsent : List ℕ) (t : Trace) (after : ConnectionState) → DrawsOrWrites old new id unsent t after → Leads old_client old t new × TellsApart t.events
replies old_client old new id [] t after d = (quiet_by old_client old new t _ d.is (asks_kept old new d.outcome d.part d.adapted) refl refl, subst (λ (u : Trace). TellsApart u.events) (sym d.is) (λ leaving. refl))
replies old_client old new id (b ∷ bytes) t after w = writes old_client old new (at (stages.Replying id) (b ∷ bytes) false) after t w.0 w.1

-- a departure in the same turn tells nothing
takes : (old_client : Bool) (old new : Adapting) (id : ℕ) (Does : Trace → ConnectionState → Type 0) (t : Trace) (after : ConnectionState) → ((done : Trace) → Does done after → Leads old_client old done new × TellsApart done.events) → ActsInHub id Does t after → Leads old_client old t new
takes old_client old new id Does t after leads took told calls tells =
    subst (λ (u : Trace). Tells old_client new (told ++ all_told u.events) (calls ++ u.calls)) (sym took.is) (follows (has_left after.stage) took.follows)
  where
    done : Leads old_client old took.done new × TellsApart took.done.events
    done = leads took.done took.does

    follows : (left : Bool) → LeavesIfOver id left took.rest → Tells old_client new (told ++ all_told (took.done.events ++ took.rest.events)) (calls ++ (took.done.calls ++ took.rest.calls))
    follows true f = subst (λ (r : Trace). Tells old_client new (told ++ all_told (took.done.events ++ r.events)) (calls ++ (took.done.calls ++ r.calls))) (sym f.1)
        (subst (λ (l : List WireCall). Tells old_client new (told ++ all_told (took.done.events ++ events.Leave id ∷ [])) (calls ++ l)) (sym (append-nil took.done.calls))
        (subst (λ (l : List ℕ). Tells old_client new (told ++ l) (calls ++ took.done.calls)) (sym (done.1 id)) (done.0 told calls tells)))
    follows false f = subst (λ (r : Trace). Tells old_client new (told ++ all_told (took.done.events ++ r.events)) (calls ++ (took.done.calls ++ r.calls))) (sym f)
        (subst (λ (l : List WireCall). Tells old_client new (told ++ all_told (took.done.events ++ [])) (calls ++ l)) (sym (append-nil took.done.calls))
        (subst (λ (l : List Event). Tells old_client new (told ++ all_told l) (calls ++ took.done.calls)) (sym (append-nil took.done.events)) (done.0 told calls tells)))

finishes : (old_client : Bool) (old new : Adapting) (ending : Ending) (unsent : List ℕ) (t : Trace) (after : ConnectionState) → new ≡ old → Finishes ending unsent t after → Leads old_client old t new
finishes old_client old new ending [] t after same c = quiet_by old_client old new t _ c.0 (stays old new same) refl refl
finishes old_client old new ending (b ∷ bytes) t after same w = (writes old_client old new (leaving ending (b ∷ bytes)) after t same w).0

acts : (old_client : Bool) (old new : Adapting) (stage : ConnectionStage) (unsent : List ℕ) (t : Trace) (after : ConnectionState) → Acts old new stage unsent t after → Leads old_client old t new
acts old_client old new (stages.Listening id) unsent t after a = takes old_client old new id (Listens old new id unsent) t after (λ done does. listens old_client old new id unsent done after does) a
acts old_client old new (stages.Waiting id) unsent t after a = quiet_by old_client old new t _ a.1.0 (stays old new a.0) refl refl
acts old_client old new (stages.Replying id) unsent t after a = takes old_client old new id (DrawsOrWrites old new id unsent) t after (λ done does. replies old_client old new id unsent done after does) a
acts old_client old new (stages.Leaving ending) unsent t after a = finishes old_client old new ending unsent t after a.0 a.1
acts old_client old new (stages.Closed ending) unsent t after a = quiet_by old_client old new t _ a.1.0 (stays old new a.0) refl refl

ready : (old_client : Bool) (old new : Adapting) (waits : Bool) (before : ConnectionState) (t : Trace) (after : ConnectionState) → WhereReady old new (not waits) before t after → Leads old_client old t new
ready old_client old new true before t after r = quiet_by old_client old new t _ r.1.0 (stays old new r.0) refl refl
ready old_client old new false before t after a = acts old_client old new before.stage before.unsent t after a

pub turn_tells : (old_client : Bool) (old new : Adapting) (before after : ConnectionState) (t : Trace) → ConnectionTurn old new before t after → Leads old_client old t new
turn_tells old_client old new before after t turn = ready old_client old new before.waits before t after turn

-- ---- what came of a post, and a dismissal

learns_at : (old_client : Bool) (adapter : Adapting) (stage : ConnectionStage) (before after : ConnectionState) (t : Trace) → LearnsAt stage before t after → Leads old_client adapter t adapter
learns_at old_client adapter (stages.Waiting id) before after t l = takes old_client adapter adapter id (AsksWhatCame id) t after (λ done does. (quiet_by old_client adapter adapter done _ does.is refl refl refl, subst (λ (u : Trace). TellsApart u.events) (sym does.is) (λ leaving. refl))) l
learns_at old_client adapter (stages.Listening id) before after t l = quiet_by old_client adapter adapter t _ l.0 refl refl refl
learns_at old_client adapter (stages.Replying id) before after t l = quiet_by old_client adapter adapter t _ l.0 refl refl refl
learns_at old_client adapter (stages.Leaving ending) before after t l = quiet_by old_client adapter adapter t _ l.0 refl refl refl
learns_at old_client adapter (stages.Closed ending) before after t l = quiet_by old_client adapter adapter t _ l.0 refl refl refl

pub learning_tells : (old_client : Bool) (adapter : Adapting) (before after : ConnectionState) (t : Trace) → LearnsWhatCame before t after → Leads old_client adapter t adapter
learning_tells old_client adapter before after t l = learns_at old_client adapter before.stage before after t l

dismissed_at : (old_client : Bool) (adapter : Adapting) (stage : ConnectionStage) (before after : ConnectionState) (t : Trace) → DismissedAt stage before t after → Leads old_client adapter t adapter
dismissed_at old_client adapter (stages.Listening id) before after t d = quiet_by old_client adapter adapter t _ d.1 refl refl refl
dismissed_at old_client adapter (stages.Waiting id) before after t d = quiet_by old_client adapter adapter t _ d.1 refl refl refl
dismissed_at old_client adapter (stages.Replying id) before after t d = quiet_by old_client adapter adapter t _ d.1 refl refl refl
dismissed_at old_client adapter (stages.Leaving ending) before after t d = quiet_by old_client adapter adapter t _ d.0 refl refl refl
dismissed_at old_client adapter (stages.Closed ending) before after t d = quiet_by old_client adapter adapter t _ d.0 refl refl refl

pub dismissal_tells : (old_client : Bool) (adapter : Adapting) (before after : ConnectionState) (t : Trace) → Dismissed before t after → Leads old_client adapter t adapter
dismissal_tells old_client adapter before after t d = dismissed_at old_client adapter before.stage before after t d

turned_down_at : (old_client : Bool) (adapter : Adapting) (stage : ConnectionStage) (before after : ConnectionState) (t : Trace) → TurnedDownAt stage before t after → Leads old_client adapter t adapter
turned_down_at old_client adapter (stages.Waiting id) before after t d = quiet_by old_client adapter adapter t _ d.1 refl refl refl
turned_down_at old_client adapter (stages.Listening id) before after t d = quiet_by old_client adapter adapter t _ d.0 refl refl refl
turned_down_at old_client adapter (stages.Replying id) before after t d = quiet_by old_client adapter adapter t _ d.0 refl refl refl
turned_down_at old_client adapter (stages.Leaving ending) before after t d = quiet_by old_client adapter adapter t _ d.0 refl refl refl
turned_down_at old_client adapter (stages.Closed ending) before after t d = quiet_by old_client adapter adapter t _ d.0 refl refl refl

pub refusal_tells : (old_client : Bool) (adapter : Adapting) (before after : ConnectionState) (t : Trace) → TurnedDown before t after → Leads old_client adapter t adapter
refusal_tells old_client adapter before after t d = turned_down_at old_client adapter before.stage before after t d

-- ---- who comes in

pub fresh_tells : (old_client : Bool) → Tells old_client (fresh_client old_client) [] []
fresh_tells true none rest = refl
fresh_tells false none rest = refl
