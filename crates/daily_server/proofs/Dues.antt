-- What is due to a client through its turns.
use Rattle.std.proofs.Common.{◌≡◌, ⊎_elim, ℕ, Bool, true, false, not, List, [], ◌∷◌, ◌++◌, length, take, refl, sym, ap, subst, ◌∙◌, append_assoc}
use Rattle.std.proofs.lemmas.Bool.{true≢false}
use Rattle.std.proofs.lemmas.List.{append-nil, take_at}
use Rattle.std.proofs.lemmas.Grind.{flat_map-append}
use Rattle.std.specs.Prelude.{flat_map}
use Rattle.text_writer.specs.Errors.{error_reply}
use Rattle.text_writer.specs.declared.error.ErrorText.TheVariants.{TryAgainLater}
use Rattle.old_clients.specs.AdaptedReply.{adapted_reply}
use Rattle.old_clients.specs.AdaptedRequest.{is_rewritten}
use Rattle.old_clients.specs.Clients.{Adapting, fresh_client, HasHeard}
use Rattle.old_clients.specs.Streams.{fresh_reply, will_give, will_rewrite}
use Rattle.old_clients.proofs.Joins.{given_reply}
use Rattle.old_clients.proofs.Menus.{error_stays}
use Rattle.group_world.specs.declared.event.Event.{Event}
use Rattle.group_world.specs.declared.event.Outcome.{Outcome}
use Rattle.group_world.specs.declared.event.Outcome.TheVariants as outcomes
use Rattle.group_world.specs.declared.fault.HubFault.TheVariants as faults
use Rattle.turns.specs.WireCalls.{WireCall, Read, ReadFailed, ReadWaited, Wrote, WriteFailed, WriteWaited, Closed}
use Rattle.group_world.specs.declared.event.Event.TheVariants as events
use Rattle.group_world.specs.declared.fault.HubFault.{HubFault}
use Rattle.turns.specs.Turns.{Trace, trace, nothing, IsTold, once, again, heard_event, heard_reply, drawn_bytes}
use Rattle.daily_turns.specs.ReadyConnections.{ConnectionState, at, has_left, leaving, joined_state, refused_state, heard_state, learned_state, drawn_state, is_held, IsAdapted, TellsUnless, Listens, AsksWhatCame, DrawsOrWrites, WritesOn, Finishes, ActsInHub, LeavesIfOver, WhereReady, Acts, ConnectionTurn, LearnsAt, LearnsWhatCame, DismissedAt, Dismissed, TurnedDownAt, TurnedDown, is_waiting}
use Rattle.daily_turns.specs.declared.ready_connection.ConnectionStage.{ConnectionStage}
use Rattle.daily_turns.specs.declared.ready_connection.ConnectionStage.TheVariants as stages
use Rattle.daily_turns.specs.declared.ready_connection.Ending.{Ending}
use Rattle.daily_turns.specs.declared.ready_connection.Ending.TheVariants.{Served, Cut, Late, Often}
use Rattle.daily_server.specs.Due.{bytes_by, due_by, all_due, is_answered, IsGoingOut, HasGoneOut, GivenIf, IsUnanswered, IsGiven}

abbrev written : List WireCall → List ℕ
written calls = flat_map bytes_by calls

-- whether the request was rewritten
abbrev rewritten : Adapting → Bool
rewritten adapter = will_rewrite adapter.asks []

-- ---- a step that makes one call, which writes nothing

one_unwritten : (calls : List WireCall) (call : WireCall) → bytes_by call ≡ [] → written (calls ++ call ∷ []) ≡ written calls
one_unwritten calls call none = flat_map-append bytes_by calls (call ∷ []) ∙ ap (λ l. written calls ++ (l ++ [])) none ∙ append-nil (written calls)

-- what is so by these bytes, stage and unsent bytes is so by the same ones
given_by : (adapter : Adapting) (due before now unsent sent : List ℕ) (stage later : ConnectionStage) → now ≡ before → later ≡ stage → sent ≡ unsent → GivenIf (has_left stage) adapter due before unsent → GivenIf (has_left later) adapter due now sent
given_by adapter due before now unsent sent stage later w s u given =
    subst (λ l. GivenIf (has_left later) adapter due l sent) (sym w) (subst (λ st. GivenIf (has_left st) adapter due before sent) (sym s) (subst (λ l. GivenIf (has_left stage) adapter due before l) (sym u) given))

unanswered_by : (adapter : Adapting) (due before now unsent sent : List ℕ) → now ≡ before → sent ≡ unsent → IsUnanswered adapter due before unsent → IsUnanswered adapter due now sent
unanswered_by adapter due before now unsent sent w u first = record { none_due = first.none_due; none_written = w ∙ first.none_written; none_unsent = u ∙ first.none_unsent; fresh = first.fresh }

-- the same state, behind such a call
pub same_behind : (adapter : Adapting) (due : List ℕ) (calls : List WireCall) (call : WireCall) (state after : ConnectionState) → bytes_by call ≡ [] → after.stage ≡ state.stage → after.unsent ≡ state.unsent → IsGiven adapter due calls state → IsGiven adapter due (calls ++ call ∷ []) after
same_behind adapter due calls call state after none stage unsent given = record {
  given = given_by adapter due (written calls) (written (calls ++ call ∷ [])) state.unsent after.unsent state.stage after.stage (one_unwritten calls call none) stage unsent given.given;
  hears = λ is. unanswered_by adapter due (written calls) (written (calls ++ call ∷ [])) state.unsent after.unsent (one_unwritten calls call none) unsent (given.hears (ap is_answered (sym stage) ∙ is));
}

-- what goes on to be given may end here
ends_here : (left : Bool) (adapter : Adapting) (due before unsent : List ℕ) → GivenIf left adapter due before unsent → HasGoneOut adapter due before unsent
ends_here true adapter due before unsent ended = ended
ends_here false adapter due before unsent goes = record {
  front = due;
  cut = [];
  dropped = will_give adapter.answers [];
  due_is = sym (append-nil due);
  is = goes [] ∙ ap (adapted_reply (rewritten adapter)) (append-nil due);
}

drops_all : (adapter : Adapting) (due before unsent : List ℕ) → HasGoneOut adapter due before unsent → HasGoneOut adapter due before []
drops_all adapter due before unsent ended = record { front = ended.front; cut = ended.cut; dropped = unsent ++ ended.dropped; due_is = ended.due_is; is = ended.is }

-- what has ended, of a session that has left
left_given : (adapter : Adapting) (due : List ℕ) (calls : List WireCall) (state : ConnectionState) → has_left state.stage ≡ true → HasGoneOut adapter due (written calls) state.unsent → IsGiven adapter due calls state
left_given adapter due calls state left ended = record {
  given = subst (λ b. GivenIf b adapter due (written calls) state.unsent) (sym left) ended;
  hears = λ is. absurd (answered state.stage left is);
}
  where
    answered : (stage : ConnectionStage) → has_left stage ≡ true → is_answered stage ≡ false → ⊥
    answered (stages.Listening id) l is = true≢false (sym l)
    answered (stages.Waiting id) l is = true≢false (sym l)
    answered (stages.Replying id) l is = true≢false is
    answered (stages.Leaving ending) l is = true≢false is
    answered (stages.Closed ending) l is = true≢false is

-- it has left, and the rest is dropped
pub dropped_behind : (adapter : Adapting) (due : List ℕ) (calls : List WireCall) (call : WireCall) (state after : ConnectionState) → bytes_by call ≡ [] → has_left after.stage ≡ true → after.unsent ≡ [] → IsGiven adapter due calls state → IsGiven adapter due (calls ++ call ∷ []) after
dropped_behind adapter due calls call state after none left unsent given =
    let ended = drops_all adapter due (written calls) state.unsent (ends_here (has_left state.stage) adapter due (written calls) state.unsent given.given) in
    left_given adapter due (calls ++ call ∷ []) after left
    (subst (λ w. HasGoneOut adapter due w after.unsent) (sym (one_unwritten calls call none)) (subst (λ u. HasGoneOut adapter due (written calls) u) (sym unsent) ended))

-- ---- what follows an outcome

-- nothing of a reply is adapted to nothing
none_adapted : (old : Bool) → adapted_reply old [] ≡ []
none_adapted true = sym (given_reply true [])
none_adapted false = sym (given_reply false [])

-- nothing was written yet, and a reply may begin
begins : (adapter : Adapting) (before : List ℕ) → adapter.answers ≡ fresh_reply (rewritten adapter) → before ≡ [] → IsGoingOut adapter [] before []
begins adapter before fresh none rest = ap (λ l. l ++ will_give adapter.answers rest) none ∙ ap (λ a. will_give a rest) fresh ∙ given_reply (rewritten adapter) rest

-- a state in which nothing was due yet
pub fresh_given : (adapter : Adapting) (calls : List WireCall) (state : ConnectionState) → adapter.answers ≡ fresh_reply (rewritten adapter) → written calls ≡ [] → has_left state.stage ≡ false → state.unsent ≡ [] → IsGiven adapter [] calls state
fresh_given adapter calls state fresh none in_hub unsent = record {
  given = subst (λ b. GivenIf b adapter [] (written calls) state.unsent) (sym in_hub) (subst (λ u. IsGoingOut adapter [] (written calls) u) (sym unsent) (begins adapter (written calls) fresh none));
  hears = λ is. record { none_due = refl; none_written = none; none_unsent = unsent; fresh = fresh };
}

-- and one that has left with nothing
pub none_given : (adapter : Adapting) (due : List ℕ) (calls : List WireCall) (ending : Ending) → written calls ≡ [] → IsGiven adapter due calls (leaving ending [])
none_given adapter due calls ending none = left_given adapter due calls (leaving ending []) refl (record { front = []; cut = due; dropped = []; due_is = refl; is = ap (λ l. l ++ []) none ∙ sym (none_adapted (rewritten adapter)) })

-- or with an error, which is not adapted
error_given : (adapter : Adapting) (calls : List WireCall) (ending : Ending) → written calls ≡ [] → IsGiven adapter (error_reply true TryAgainLater []) calls (leaving ending (error_reply true TryAgainLater []))
error_given adapter calls ending none = left_given adapter text calls (leaving ending text) refl (record {
  front = text;
  cut = [];
  dropped = [];
  due_is = sym (append-nil text);
  is = ap (λ l. l ++ (text ++ [])) none ∙ append-nil text ∙ sym (error_stays (rewritten adapter) true TryAgainLater []);
})
  where
    text : List ℕ
    text = error_reply true TryAgainLater []

refused_given : (adapter : Adapting) (calls : List WireCall) (fault : HubFault) → written calls ≡ [] → IsGiven adapter (due_by (outcomes.Fault fault)) calls (refused_state fault)
refused_given adapter calls (faults.Full need free) none = error_given adapter calls _ none
refused_given adapter calls faults.Crowded none = error_given adapter calls _ none
refused_given adapter calls faults.NotReady none = error_given adapter calls _ none
refused_given adapter calls fault none = none_given adapter [] calls _ none

pub heard_given : (adapter : Adapting) (calls : List WireCall) (id : ℕ) (outcome : Outcome) → adapter.answers ≡ fresh_reply (rewritten adapter) → written calls ≡ [] → IsGiven adapter (due_by outcome) calls (heard_state id outcome)
heard_given adapter calls id outcomes.More fresh none = fresh_given adapter calls _ fresh none refl refl
heard_given adapter calls id outcomes.Waiting fresh none = fresh_given adapter calls _ fresh none refl refl
heard_given adapter calls id outcomes.Ready fresh none = fresh_given adapter calls _ fresh none refl refl
heard_given adapter calls id outcomes.Finished fresh none = none_given adapter [] calls _ none
heard_given adapter calls id (outcomes.Fault fault) fresh none = refused_given adapter calls fault none
heard_given adapter calls id (outcomes.Drawn bytes) fresh none = none_given adapter bytes calls _ none
heard_given adapter calls id outcome fresh none = none_given adapter [] calls _ none

pub learned_given : (adapter : Adapting) (calls : List WireCall) (id : ℕ) (outcome : Outcome) → adapter.answers ≡ fresh_reply (rewritten adapter) → written calls ≡ [] → drawn_bytes outcome ≡ [] → IsGiven adapter (due_by outcome) calls (learned_state id outcome)
learned_given adapter calls id (outcomes.Drawn bytes) fresh none empty = subst (λ l. IsGiven adapter l calls (at (stages.Replying id) [] false)) (sym empty) (fresh_given adapter calls (at (stages.Replying id) [] false) fresh none refl refl)
learned_given adapter calls id outcomes.Finished fresh none empty = fresh_given adapter calls _ fresh none refl refl
learned_given adapter calls id (outcomes.Fault fault) fresh none empty = refused_given adapter calls fault none
learned_given adapter calls id outcome fresh none empty = none_given adapter [] calls _ none

-- one that is replied to
replying : (adapter : Adapting) (due : List ℕ) (calls : List WireCall) (id : ℕ) (unsent : List ℕ) → IsGoingOut adapter due (written calls) unsent → IsGiven adapter due calls (at (stages.Replying id) unsent false)
replying adapter due calls id unsent goes = record { given = goes; hears = λ is. absurd (true≢false is) }

-- a fault, or another outcome that has nothing to be sent
cut_given : (old new : Adapting) (due more : List ℕ) (calls : List WireCall) (ending : Ending) → new ≡ old → IsGoingOut old due (written calls) [] → IsGiven new (due ++ more) calls (leaving ending [])
cut_given old new due more calls ending kept goes = subst (λ adapter. IsGiven adapter (due ++ more) calls (leaving ending [])) (sym kept) (left_given old (due ++ more) calls (leaving ending []) refl (record {
  front = due;
  cut = more;
  dropped = will_give old.answers [];
  due_is = refl;
  is = goes [] ∙ ap (adapted_reply (rewritten old)) (append-nil due);
}))

pub drawn_given : (old new : Adapting) (due : List ℕ) (calls : List WireCall) (id : ℕ) (outcome : Outcome) (part : List ℕ) → IsAdapted old outcome part new → IsGoingOut old due (written calls) [] → IsGiven new (due ++ due_by outcome) calls (drawn_state id outcome part)
drawn_given old new due calls id (outcomes.Drawn bytes) part answered goes = replying new (due ++ bytes) calls id part (λ rest.
    ap (λ l. written calls ++ l) (answered.gives rest) ∙ goes (bytes ++ rest) ∙ ap (adapted_reply (rewritten old)) (sym (append_assoc due bytes rest)) ∙ ap (λ asks. adapted_reply (will_rewrite asks []) ((due ++ bytes) ++ rest)) (sym answered.asks))
drawn_given old new due calls id outcomes.Finished part closed goes = left_given new (due ++ []) calls (leaving Served part) refl (record {
  front = due ++ [];
  cut = [];
  dropped = [];
  due_is = sym (append-nil (due ++ []));
  is = ap (λ l. written calls ++ l) (append-nil part ∙ closed.gives) ∙ goes [] ∙ ap (λ asks. adapted_reply (will_rewrite asks []) (due ++ [])) (sym closed.asks);
})
drawn_given old new due calls id (outcomes.Fault fault) part adapted goes = cut_given old new due (heard_reply (outcomes.Fault fault)) calls _ adapted.1 goes
drawn_given old new due calls id (outcomes.Joined other) part adapted goes = cut_given old new due [] calls _ adapted.1 goes
drawn_given old new due calls id outcomes.More part adapted goes = cut_given old new due [] calls _ adapted.1 goes
drawn_given old new due calls id outcomes.Ready part adapted goes = cut_given old new due [] calls _ adapted.1 goes
drawn_given old new due calls id outcomes.Waiting part adapted goes = cut_given old new due [] calls _ adapted.1 goes
drawn_given old new due calls id outcome part adapted goes = cut_given old new due (heard_reply outcome) calls _ adapted.1 goes

-- ---- what follows in the same turn

-- what is due to one that has left may be more
more_due : (adapter : Adapting) (due more : List ℕ) (calls : List WireCall) (state : ConnectionState) → has_left state.stage ≡ true → IsGiven adapter due calls state → IsGiven adapter (due ++ more) calls state
more_due adapter due more calls state left given =
    let ended = ends_here (has_left state.stage) adapter due (written calls) state.unsent given.given in
    left_given adapter (due ++ more) calls state left
    (record { front = ended.front; cut = ended.cut ++ more; dropped = ended.dropped; due_is = ap (λ (l : List ℕ). l ++ more) ended.due_is ∙ append_assoc ended.front ended.cut more; is = ended.is })

same_due : (adapter : Adapting) (due : List ℕ) (calls : List WireCall) (state : ConnectionState) → IsGiven adapter due calls state → IsGiven adapter (due ++ []) calls state
same_due adapter due calls state given = subst (λ (l : List ℕ). IsGiven adapter l calls state) (sym (append-nil due)) given

-- what a trace has for the client is counted apart from what a departure behind it has
abbrev pub CountsApart : Trace → Type 0
CountsApart t = (id : ℕ) (outcome : Outcome) → all_due (t.events ++ events.Leave id ∷ []) (t.outcomes ++ outcome ∷ []) ≡ all_due t.events t.outcomes ++ (due_by outcome ++ [])

-- ---- a turn

-- such a trace leads from one state to another
abbrev Leads : Adapting → ConnectionState → Trace → Adapting → ConnectionState → Type 0
Leads old before t new after = (due : List ℕ) (calls : List WireCall) → IsGiven old due calls before → IsGiven new (due ++ all_due t.events t.outcomes) (calls ++ t.calls) after

takes_due : (old new : Adapting) (id : ℕ) (Does : Trace → ConnectionState → Type 0) (before after : ConnectionState) (t : Trace) → ((done : Trace) → Does done after → Leads old before done new after) → ((done : Trace) → Does done after → CountsApart done) → ActsInHub id Does t after → Leads old before t new after
takes_due old new id Does before after t leads apart takes due calls given =
    subst (λ (u : Trace). IsGiven new (due ++ all_due u.events u.outcomes) (calls ++ u.calls) after) (sym takes.is) (follows (has_left after.stage) refl takes.follows)
  where
    first : IsGiven new (due ++ all_due takes.done.events takes.done.outcomes) (calls ++ takes.done.calls) after
    first = leads takes.done takes.does due calls given

    follows : (left : Bool) → left ≡ has_left after.stage → LeavesIfOver id left takes.rest → IsGiven new (due ++ all_due (takes.done.events ++ takes.rest.events) (takes.done.outcomes ++ takes.rest.outcomes)) (calls ++ (takes.done.calls ++ takes.rest.calls)) after
    follows true is f = subst (λ (r : Trace). IsGiven new (due ++ all_due (takes.done.events ++ r.events) (takes.done.outcomes ++ r.outcomes)) (calls ++ (takes.done.calls ++ r.calls)) after) (sym f.1)
        (subst (λ (l : List WireCall). IsGiven new (due ++ all_due (takes.done.events ++ events.Leave id ∷ []) (takes.done.outcomes ++ f.0 ∷ [])) (calls ++ l) after) (sym (append-nil takes.done.calls))
        (subst (λ (l : List ℕ). IsGiven new l (calls ++ takes.done.calls) after) (append_assoc due (all_due takes.done.events takes.done.outcomes) (due_by f.0 ++ []) ∙ ap (λ (l : List ℕ). due ++ l) (sym (apart takes.done takes.does id f.0)))
        (more_due new (due ++ all_due takes.done.events takes.done.outcomes) (due_by f.0 ++ []) (calls ++ takes.done.calls) after (sym is) first)))
    follows false is f = subst (λ (r : Trace). IsGiven new (due ++ all_due (takes.done.events ++ r.events) (takes.done.outcomes ++ r.outcomes)) (calls ++ (takes.done.calls ++ r.calls)) after) (sym f)
        (subst (λ (l : List WireCall). IsGiven new (due ++ all_due (takes.done.events ++ []) (takes.done.outcomes ++ [])) (calls ++ l) after) (sym (append-nil takes.done.calls))
        (subst (λ (l : List Event). IsGiven new (due ++ all_due l (takes.done.outcomes ++ [])) (calls ++ takes.done.calls) after) (sym (append-nil takes.done.events))
        (subst (λ (l : List Outcome). IsGiven new (due ++ all_due takes.done.events l) (calls ++ takes.done.calls) after) (sym (append-nil takes.done.outcomes)) first)))

-- of no event, of one, and of input that the hub was told of
apart_none : (t : Trace) (calls : List WireCall) → t ≡ trace calls [] [] → CountsApart t
apart_none t calls is = subst CountsApart (sym is) (λ id outcome. refl)

apart_one : (t : Trace) (calls : List WireCall) (room id : ℕ) (o : Outcome) → t ≡ trace calls (events.Draw id room ∷ []) (o ∷ []) → CountsApart t
apart_one t calls room id o is = subst CountsApart (sym is) (λ i outcome. sym (append_assoc (due_by o) [] (due_by outcome ++ [])))

heard_apart : (id now : ℕ) (piece : List ℕ) (o : Outcome) (i : ℕ) (outcome : Outcome) → all_due (heard_event id piece now ∷ events.Leave i ∷ []) (o ∷ outcome ∷ []) ≡ all_due (heard_event id piece now ∷ []) (o ∷ []) ++ (due_by outcome ++ [])
heard_apart id now [] o i outcome = sym (append_assoc (due_by o) [] (due_by outcome ++ []))
heard_apart id now (b ∷ piece) o i outcome = sym (append_assoc (due_by o) [] (due_by outcome ++ []))

heard_alone : (id now : ℕ) (piece : List ℕ) (o : Outcome) → all_due (heard_event id piece now ∷ []) (o ∷ []) ≡ due_by o ++ []
heard_alone id now [] o = refl
heard_alone id now (b ∷ piece) o = refl

told_apart : (id : ℕ) (piece : List ℕ) (es : List Event) (os : List Outcome) (o : Outcome) (calls : List WireCall) → IsTold id piece es os o → CountsApart (trace calls es os)
told_apart id piece es os o calls (once now is are other) = subst (λ (l : List Event). CountsApart (trace calls l os)) (sym is) (subst (λ (l : List Outcome). CountsApart (trace calls (heard_event id piece now ∷ []) l)) (sym are) (λ i outcome. heard_apart id now piece o i outcome))
told_apart id piece es os o calls (again now later flushed is are) = subst (λ (l : List Event). CountsApart (trace calls l os)) (sym is)
    (subst (λ (l : List Outcome). CountsApart (trace calls (heard_event id piece now ∷ events.Flush ∷ heard_event id piece later ∷ []) l)) (sym are) (λ i outcome. heard_apart id later piece o i outcome))

told_due : (id : ℕ) (piece : List ℕ) (es : List Event) (os : List Outcome) (o : Outcome) → IsTold id piece es os o → all_due es os ≡ due_by o
told_due id piece es os o (once now is are other) = ap (λ (l : List Event). all_due l os) is ∙ ap (λ (l : List Outcome). all_due (heard_event id piece now ∷ []) l) are ∙ heard_alone id now piece o ∙ append-nil (due_by o)
told_due id piece es os o (again now later flushed is are) = ap (λ (l : List Event). all_due l os) is ∙ ap (λ (l : List Outcome). all_due (heard_event id piece now ∷ events.Flush ∷ heard_event id piece later ∷ []) l) are ∙ heard_alone id later piece o ∙ append-nil (due_by o)

-- one call, without an outcome
one_call : (adapter : Adapting) (before after : ConnectionState) (call : WireCall) (t : Trace) → t ≡ trace (call ∷ []) [] [] → ((due : List ℕ) (calls : List WireCall) → IsGiven adapter due calls before → IsGiven adapter due (calls ++ call ∷ []) after) → Leads adapter before t adapter after
one_call adapter before after call t is f due calls given = subst (λ (u : Trace). IsGiven adapter (due ++ all_due u.events u.outcomes) (calls ++ u.calls) after) (sym is) (same_due adapter due (calls ++ call ∷ []) after (f due calls given))

cut_due : (adapter : Adapting) (before after : ConnectionState) (call : WireCall) (t : Trace) → bytes_by call ≡ [] → t ≡ trace (call ∷ []) [] [] → after ≡ leaving Cut [] → Leads adapter before t adapter after
cut_due adapter before after call t none is after_is = one_call adapter before after call t is (λ due calls given. dropped_behind adapter due calls call before after none (ap (λ s. has_left s.stage) after_is) (ap (λ s. s.unsent) after_is) given)

waits_due : (adapter : Adapting) (before after : ConnectionState) (call : WireCall) (t : Trace) → bytes_by call ≡ [] → t ≡ trace (call ∷ []) [] [] → after ≡ at before.stage before.unsent true → Leads adapter before t adapter after
waits_due adapter before after call t none is after_is = one_call adapter before after call t is (λ due calls given. same_behind adapter due calls call before after none (ap (λ s. s.stage) after_is) (ap (λ s. s.unsent) after_is) given)

rests_due : (adapter : Adapting) (before after : ConnectionState) (t : Trace) → t ≡ nothing → after ≡ before → Leads adapter before t adapter after
rests_due adapter before after t is after_is due calls given = subst (λ (u : Trace). IsGiven adapter (due ++ all_due u.events u.outcomes) (calls ++ u.calls) after) (sym is)
    (subst (λ (l : List WireCall). IsGiven adapter (due ++ []) l after) (sym (append-nil calls)) (same_due adapter due calls after (subst (λ s. IsGiven adapter due calls s) (sym after_is) given)))

-- where the client's adapter stays
kept_due : (old new : Adapting) (before after : ConnectionState) (t : Trace) → new ≡ old → Leads old before t old after → Leads old before t new after
kept_due old new before after t kept leads = subst (λ adapter. Leads old before t adapter after) (sym kept) leads

-- what was heard, where nothing was due yet
told_given : (held : Bool) (adapter : Adapting) (id : ℕ) (passed : List ℕ) (es : List Event) (os : List Outcome) (calls : List WireCall) (after : ConnectionState) → TellsUnless held id passed es os after → adapter.answers ≡ fresh_reply (rewritten adapter) → written calls ≡ [] → IsGiven adapter (all_due es os) calls after
told_given true adapter id passed es os calls after (no_events, no_outcomes, is) fresh none =
    subst (λ (l : List Event). IsGiven adapter (all_due l os) calls after) (sym no_events) (subst (λ (l : List Outcome). IsGiven adapter (all_due [] l) calls after) (sym no_outcomes)
    (subst (λ s. IsGiven adapter [] calls s) (sym is) (fresh_given adapter calls (at (stages.Listening id) [] false) fresh none refl refl)))
told_given false adapter id passed es os calls after (outcome, told, is) fresh none =
    subst (λ (l : List ℕ). IsGiven adapter l calls after) (sym (told_due id passed es os outcome told)) (subst (λ s. IsGiven adapter (due_by outcome) calls s) (sym is) (heard_given adapter calls id outcome fresh none))

listens_due : (old new : Adapting) (id : ℕ) (unsent : List ℕ) (t : Trace) (after : ConnectionState) → Listens old new id unsent t after → Leads old (at (stages.Listening id) unsent false) t new after
listens_due old new id unsent t after does = ⊎_elim
    (λ h due calls given.
    let first = given.hears refl in
    subst (λ (l : List WireCall). IsGiven new (due ++ all_due t.events t.outcomes) (calls ++ l) after) (sym h.calls_are)
    (subst (λ (l : List ℕ). IsGiven new (l ++ all_due t.events t.outcomes) (calls ++ Read 512 h.piece ∷ []) after) (sym first.none_due)
    (told_given (is_held h.piece h.hears.passed) new id h.hears.passed t.events t.outcomes (calls ++ Read 512 h.piece ∷ []) after h.hears.told h.hears.heard.answers (one_unwritten calls (Read 512 h.piece) refl ∙ first.none_written))))
    (λ more. ⊎_elim
    (λ f. kept_due old new _ after t f.0 (cut_due old (at (stages.Listening id) unsent false) after (ReadFailed 512) t refl f.1.0 f.1.1))
    (λ w. kept_due old new _ after t w.0 (waits_due old (at (stages.Listening id) unsent false) after (ReadWaited 512) t refl w.1.0 w.1.1))
    more)
    does

told_apart_unless : (held : Bool) (id : ℕ) (passed : List ℕ) (es : List Event) (os : List Outcome) (calls : List WireCall) (after : ConnectionState) → TellsUnless held id passed es os after → CountsApart (trace calls es os)
told_apart_unless true id passed es os calls after (no_events, no_outcomes, is) = subst (λ (l : List Event). CountsApart (trace calls l os)) (sym no_events) (subst (λ (l : List Outcome). CountsApart (trace calls [] l)) (sym no_outcomes) (λ i outcome. refl))
told_apart_unless false id passed es os calls after (outcome, told, is) = told_apart id passed es os outcome calls told

listens_apart : (old new : Adapting) (id : ℕ) (unsent : List ℕ) (t : Trace) (after : ConnectionState) → Listens old new id unsent t after → CountsApart t
listens_apart old new id unsent t after does = ⊎_elim (λ h. told_apart_unless (is_held h.piece h.hears.passed) id h.hears.passed t.events t.outcomes t.calls after h.hears.told) (λ more. ⊎_elim (λ f. apart_none t _ f.1.0) (λ w. apart_none t _ w.1.0) more) does

-- of no bytes none are left
rest_none : (piece rest : List ℕ) → piece ++ rest ≡ [] → rest ≡ []
rest_none [] rest is = is
rest_none (b ∷ piece) rest is = absurd cc

first_none : (piece rest : List ℕ) → piece ++ rest ≡ [] → piece ≡ []
first_none [] rest is = refl
first_none (b ∷ piece) rest is = absurd cc

-- the next bytes were written
goes_on : (left : Bool) (adapter : Adapting) (due before piece rest : List ℕ) → GivenIf left adapter due before (piece ++ rest) → GivenIf left adapter due (before ++ piece) rest
goes_on false adapter due before piece rest goes = λ more. append_assoc before piece (rest ++ will_give adapter.answers more) ∙ ap (λ (l : List ℕ). before ++ l) (sym (append_assoc piece rest (will_give adapter.answers more))) ∙ goes more
goes_on true adapter due before piece rest ended = record {
  front = ended.front;
  cut = ended.cut;
  dropped = ended.dropped;
  due_is = ended.due_is;
  is = append_assoc before piece (rest ++ ended.dropped) ∙ ap (λ (l : List ℕ). before ++ l) (sym (append_assoc piece rest ended.dropped)) ∙ ended.is;
}

-- a write that takes the next bytes
sends_due : (adapter : Adapting) (before after : ConnectionState) (piece rest : List ℕ) (t : Trace) → before.unsent ≡ piece ++ rest → t ≡ trace (Wrote before.unsent (length piece) ∷ []) [] [] → after ≡ at before.stage rest false → Leads adapter before t adapter after
sends_due adapter before after piece rest t unsent is after_is = one_call adapter before after (Wrote before.unsent (length piece)) t is (λ due calls given.
    let taken : take (length piece) before.unsent ≡ piece = ap (take (length piece)) unsent ∙ take_at piece rest (length piece) refl in
    let now : written (calls ++ Wrote before.unsent (length piece) ∷ []) ≡ written calls ++ piece = flat_map-append bytes_by calls (Wrote before.unsent (length piece) ∷ []) ∙ ap (λ (l : List ℕ). written calls ++ l) (append-nil (take (length piece) before.unsent) ∙ taken) in
    record {
      given = given_by adapter due (written calls ++ piece) (written (calls ++ Wrote before.unsent (length piece) ∷ [])) rest after.unsent before.stage after.stage now (ap (λ s. s.stage) after_is) (ap (λ s. s.unsent) after_is)
          (goes_on (has_left before.stage) adapter due (written calls) piece rest (subst (λ u. GivenIf (has_left before.stage) adapter due (written calls) u) unsent given.given));
      hears = λ is.
          let first = given.hears (sym (ap (λ s. is_answered s.stage) after_is) ∙ is) in
          let none : piece ++ rest ≡ [] = sym unsent ∙ first.none_unsent in
          record {
            none_due = first.none_due;
            none_written = now ∙ ap (λ (l : List ℕ). written calls ++ l) (first_none piece rest none) ∙ append-nil (written calls) ∙ first.none_written;
            none_unsent = ap (λ s. s.unsent) after_is ∙ rest_none piece rest none;
            fresh = first.fresh;
          };
    })

writes_due : (adapter : Adapting) (before after : ConnectionState) (t : Trace) → WritesOn before t after → Leads adapter before t adapter after
writes_due adapter before after t does = ⊎_elim
    (λ s. sends_due adapter before after s.piece s.rest t s.unsent s.is s.after_is)
    (λ more. ⊎_elim
    (λ f. ⊎_elim (λ failed. cut_due adapter before after (WriteFailed before.unsent) t refl failed f.1) (λ none. cut_due adapter before after (Wrote before.unsent 0) t refl none f.1) f.0)
    (λ w. waits_due adapter before after (WriteWaited before.unsent) t refl w.0 w.1)
    more)
    does

replies_due : (old new : Adapting) (id : ℕ) (unsent : List ℕ) (t : Trace) (after : ConnectionState) → DrawsOrWrites old new id unsent t after → Leads old (at (stages.Replying id) unsent false) t new after
replies_due old new id [] t after d due calls given = subst (λ (u : Trace). IsGiven new (due ++ all_due u.events u.outcomes) (calls ++ u.calls) after) (sym d.is)
    (subst (λ (l : List WireCall). IsGiven new (due ++ (due_by d.outcome ++ [])) l after) (sym (append-nil calls))
    (subst (λ (l : List ℕ). IsGiven new (due ++ l) calls after) (sym (append-nil (due_by d.outcome)))
    (subst (λ s. IsGiven new (due ++ due_by d.outcome) calls s) (sym d.after_is) (drawn_given old new due calls id d.outcome d.part d.adapted given.given))))
replies_due old new id (b ∷ bytes) t after w due calls given = kept_due old new (at (stages.Replying id) (b ∷ bytes) false) after t w.0 (writes_due old (at (stages.Replying id) (b ∷ bytes) false) after t w.1) due calls given

writes_apart : (before after : ConnectionState) (t : Trace) → WritesOn before t after → CountsApart t
writes_apart before after t does = ⊎_elim (λ s. apart_none t _ s.is) (λ more. ⊎_elim (λ f. ⊎_elim (λ failed. apart_none t _ failed) (λ none. apart_none t _ none) f.0) (λ w. apart_none t _ w.0) more) does

replies_apart : (old new : Adapting) (id : ℕ) (unsent : List ℕ) (t : Trace) (after : ConnectionState) → DrawsOrWrites old new id unsent t after → CountsApart t
replies_apart old new id [] t after d = apart_one t [] _ id d.outcome d.is
replies_apart old new id (b ∷ bytes) t after w = writes_apart (at (stages.Replying id) (b ∷ bytes) false) after t w.1

asks_due : (adapter : Adapting) (id : ℕ) (unsent : List ℕ) (waits : Bool) (t : Trace) (after : ConnectionState) → AsksWhatCame id t after → Leads adapter (at (stages.Waiting id) unsent waits) t adapter after
asks_due adapter id unsent waits t after a due calls given =
    let first = given.hears refl in
    subst (λ (u : Trace). IsGiven adapter (due ++ all_due u.events u.outcomes) (calls ++ u.calls) after) (sym a.is)
    (subst (λ (l : List WireCall). IsGiven adapter (due ++ (due_by a.outcome ++ [])) l after) (sym (append-nil calls))
    (subst (λ (l : List ℕ). IsGiven adapter (l ++ (due_by a.outcome ++ [])) calls after) (sym first.none_due)
    (subst (λ (l : List ℕ). IsGiven adapter l calls after) (sym (append-nil (due_by a.outcome)))
    (subst (λ s. IsGiven adapter (due_by a.outcome) calls s) (sym a.after_is) (learned_given adapter calls id a.outcome first.fresh first.none_written a.none)))))

asks_apart : (id : ℕ) (t : Trace) (after : ConnectionState) → AsksWhatCame id t after → CountsApart t
asks_apart id t after a = apart_one t [] 0 id a.outcome a.is

closes_due : (adapter : Adapting) (before after : ConnectionState) (ending : Ending) (t : Trace) → t ≡ trace (Closed ∷ []) [] [] → after ≡ at (stages.Closed ending) [] false → Leads adapter before t adapter after
closes_due adapter before after ending t is after_is = one_call adapter before after Closed t is (λ due calls given. dropped_behind adapter due calls Closed before after refl (ap (λ s. has_left s.stage) after_is) (ap (λ s. s.unsent) after_is) given)

finishes_due : (adapter : Adapting) (ending : Ending) (unsent : List ℕ) (t : Trace) (after : ConnectionState) → Finishes ending unsent t after → Leads adapter (leaving ending unsent) t adapter after
finishes_due adapter ending [] t after c = closes_due adapter (leaving ending []) after ending t c.0 c.1
finishes_due adapter ending (b ∷ bytes) t after w = writes_due adapter (leaving ending (b ∷ bytes)) after t w

acts_due : (old new : Adapting) (stage : ConnectionStage) (unsent : List ℕ) (t : Trace) (after : ConnectionState) → Acts old new stage unsent t after → Leads old (at stage unsent false) t new after
acts_due old new (stages.Listening id) unsent t after a = takes_due old new id (Listens old new id unsent) (at (stages.Listening id) unsent false) after t (λ done does. listens_due old new id unsent done after does) (λ done does. listens_apart old new id unsent done after does) a
acts_due old new (stages.Waiting id) unsent t after a = kept_due old new (at (stages.Waiting id) unsent false) after t a.0 (rests_due old (at (stages.Waiting id) unsent false) after t a.1.0 a.1.1)
acts_due old new (stages.Replying id) unsent t after a = takes_due old new id (DrawsOrWrites old new id unsent) (at (stages.Replying id) unsent false) after t (λ done does. replies_due old new id unsent done after does) (λ done does. replies_apart old new id unsent done after does) a
acts_due old new (stages.Leaving ending) unsent t after a = kept_due old new (leaving ending unsent) after t a.0 (finishes_due old ending unsent t after a.1)
acts_due old new (stages.Closed ending) unsent t after a = kept_due old new (at (stages.Closed ending) unsent false) after t a.0 (rests_due old (at (stages.Closed ending) unsent false) after t a.1.0 a.1.1)

ready_due : (old new : Adapting) (waits : Bool) (stage : ConnectionStage) (unsent : List ℕ) (t : Trace) (after : ConnectionState) → WhereReady old new (not waits) (at stage unsent waits) t after → Leads old (at stage unsent waits) t new after
ready_due old new true stage unsent t after r = kept_due old new (at stage unsent true) after t r.0 (rests_due old (at stage unsent true) after t r.1.0 r.1.1)
ready_due old new false stage unsent t after a = acts_due old new stage unsent t after a

pub turn_due : (old new : Adapting) (before after : ConnectionState) (t : Trace) → ConnectionTurn old new before t after → (due : List ℕ) (calls : List WireCall) → IsGiven old due calls before → IsGiven new (due ++ all_due t.events t.outcomes) (calls ++ t.calls) after
turn_due old new before after t turn = ready_due old new before.waits before.stage before.unsent t after turn

-- ---- what came of a post

learns_at_due : (adapter : Adapting) (stage : ConnectionStage) (unsent : List ℕ) (waits : Bool) (t : Trace) (after : ConnectionState) → LearnsAt stage (at stage unsent waits) t after → Leads adapter (at stage unsent waits) t adapter after
learns_at_due adapter (stages.Waiting id) unsent waits t after l = takes_due adapter adapter id (AsksWhatCame id) (at (stages.Waiting id) unsent waits) after t (λ done does. asks_due adapter id unsent waits done after does) (λ done does. asks_apart id done after does) l
learns_at_due adapter (stages.Listening id) unsent waits t after l = rests_due adapter (at (stages.Listening id) unsent waits) after t l.0 l.1
learns_at_due adapter (stages.Replying id) unsent waits t after l = rests_due adapter (at (stages.Replying id) unsent waits) after t l.0 l.1
learns_at_due adapter (stages.Leaving ending) unsent waits t after l = rests_due adapter (at (stages.Leaving ending) unsent waits) after t l.0 l.1
learns_at_due adapter (stages.Closed ending) unsent waits t after l = rests_due adapter (at (stages.Closed ending) unsent waits) after t l.0 l.1

pub learning_due : (adapter : Adapting) (before after : ConnectionState) (t : Trace) → LearnsWhatCame before t after → (due : List ℕ) (calls : List WireCall) → IsGiven adapter due calls before → IsGiven adapter (due ++ all_due t.events t.outcomes) (calls ++ t.calls) after
learning_due adapter before after t l = learns_at_due adapter before.stage before.unsent before.waits t after l

-- ---- a dismissal

late_due : (adapter : Adapting) (id : ℕ) (before after : ConnectionState) (t : Trace) (outcome : Outcome) (e : Event) → t ≡ trace (Closed ∷ []) (e ∷ []) (outcome ∷ []) → after ≡ at (stages.Closed Late) [] false → Leads adapter before t adapter after
late_due adapter id before after t outcome e is after_is due calls given = subst (λ (u : Trace). IsGiven adapter (due ++ all_due u.events u.outcomes) (calls ++ u.calls) after) (sym is)
    (more_due adapter due (all_due (e ∷ []) (outcome ∷ [])) (calls ++ Closed ∷ []) after (ap (λ s. has_left s.stage) after_is) (dropped_behind adapter due calls Closed before after refl (ap (λ s. has_left s.stage) after_is) (ap (λ s. s.unsent) after_is) given))

dismissed_at_due : (adapter : Adapting) (stage : ConnectionStage) (before after : ConnectionState) (t : Trace) → DismissedAt stage before t after → Leads adapter before t adapter after
dismissed_at_due adapter (stages.Listening id) before after t d = late_due adapter id before after t d.0 _ d.1 d.2
dismissed_at_due adapter (stages.Waiting id) before after t d = late_due adapter id before after t d.0 _ d.1 d.2
dismissed_at_due adapter (stages.Replying id) before after t d = late_due adapter id before after t d.0 _ d.1 d.2
dismissed_at_due adapter (stages.Leaving ending) before after t d = closes_due adapter before after Late t d.0 d.1
dismissed_at_due adapter (stages.Closed ending) before after t d = rests_due adapter before after t d.0 d.1

pub dismissal_due : (adapter : Adapting) (before after : ConnectionState) (t : Trace) → Dismissed before t after → (due : List ℕ) (calls : List WireCall) → IsGiven adapter due calls before → IsGiven adapter (due ++ all_due t.events t.outcomes) (calls ++ t.calls) after
dismissal_due adapter before after t d = dismissed_at_due adapter before.stage before after t d

-- ---- a post that is turned down

abbrev later_text : List ℕ
later_text = error_reply true TryAgainLater []

refused_at_due : (adapter : Adapting) (stage : ConnectionStage) (before after : ConnectionState) (t : Trace) → before.stage ≡ stage → is_waiting stage ≡ true → TurnedDownAt stage before t after → (due : List ℕ) (calls : List WireCall) → IsGiven adapter due calls before → IsGiven adapter (due ++ later_text) (calls ++ t.calls) after
refused_at_due adapter (stages.Waiting id) before after t is waits d due calls given =
    let first = given.hears (ap is_answered is) in
    subst (λ s. IsGiven adapter (due ++ later_text) (calls ++ t.calls) s) (sym d.2)
    (subst (λ (u : Trace). IsGiven adapter (due ++ later_text) (calls ++ u.calls) (leaving Often later_text)) (sym d.1)
    (subst (λ l. IsGiven adapter (due ++ later_text) l (leaving Often later_text)) (sym (append-nil calls))
    (subst (λ l. IsGiven adapter (l ++ later_text) calls (leaving Often later_text)) (sym first.none_due) (error_given adapter calls Often first.none_written))))
refused_at_due adapter (stages.Listening id) before after t is waits d due calls given = absurd (true≢false (sym waits))
refused_at_due adapter (stages.Replying id) before after t is waits d due calls given = absurd (true≢false (sym waits))
refused_at_due adapter (stages.Leaving ending) before after t is waits d due calls given = absurd (true≢false (sym waits))
refused_at_due adapter (stages.Closed ending) before after t is waits d due calls given = absurd (true≢false (sym waits))

pub refusal_due : (adapter : Adapting) (before after : ConnectionState) (t : Trace) → is_waiting before.stage ≡ true → TurnedDown before t after → (due : List ℕ) (calls : List WireCall) → IsGiven adapter due calls before → IsGiven adapter (due ++ error_reply true TryAgainLater []) (calls ++ t.calls) after
refusal_due adapter before after t waits d = refused_at_due adapter before.stage before after t refl waits d

-- ---- who comes in

fresh_answers : (old : Bool) → (fresh_client old).answers ≡ fresh_reply (rewritten (fresh_client old))
unfolding is_rewritten
fresh_answers true = refl
fresh_answers false = refl

pub joined_due : (old : Bool) (outcome : Outcome) → IsGiven (fresh_client old) [] [] (joined_state outcome)
joined_due old (outcomes.Joined id) = fresh_given (fresh_client old) [] (joined_state (outcomes.Joined id)) (fresh_answers old) refl refl refl
joined_due old outcome = none_given (fresh_client old) [] [] _ refl
