-- What is done in a turn, put together.
use Rattle.std.proofs.Common.{◌≡◌, inl, ℕ, ◌≤◌, Bool, true, false, not, List, [], ◌∷◌, ◌++◌, length, take, drop, refl, sym, ap, subst, ◌∙◌, arith, Result, Ok, Err, Option, Some, None}
use Rattle.std.proofs.lemmas.Bool.{true≢false}
use Rattle.std.specs.Prelude.{IfSome, ◌==◌, min}
use Rattle.std.proofs.lemmas.List.{append-nil, take-append-drop, length-take-le, take_min}
use Rattle.std.specs.Fmt.{digits}
use Rattle.text_writer.specs.Errors.{error_reply, plus_error, words_of}
use Rattle.text_writer.specs.declared.error.ErrorText.TheVariants.{TryAgainLater}
use Rattle.old_clients.specs.Clients.{Adapting, HasAnswered, HasClosed, HasHeard, is_through}
use Rattle.group_world.specs.declared.event.Event.{Event}
use Rattle.group_world.specs.declared.event.Event.TheVariants as events
use Rattle.group_world.specs.declared.event.Outcome.{Outcome}
use Rattle.group_world.specs.declared.event.Outcome.TheVariants as outcomes
use Rattle.old_clients.proofs.Clients.{through_gives, through_none}
use Rattle.group_world.specs.declared.fault.HubFault.{HubFault}
use Rattle.group_world.specs.Outcomes.{join_outcome, drawn_outcome, draw_outcome}
use Rattle.group_world.specs.declared.answer.Drawn.{Drawn}
use Rattle.group_world.specs.declared.answer.Drawn.TheVariants as drawn
use Rattle.turns.specs.WireCalls.{WireCall, HasMade, Read, ReadWaited, Wrote}
use Rattle.turns.proofs.TurnsMade.{draws_few}
use Rattle.turns.specs.Turns.{Trace, trace, nothing, IsTold, drawn_bytes}
use Rattle.daily_turns.specs.Tries.{write_try, read_try}
use Rattle.daily_turns.specs.declared.ready_connection.ReadyConnection.{ReadyConnection}
use Rattle.daily_turns.specs.declared.ready_connection.ConnectionStage.{ConnectionStage}
use Rattle.daily_turns.specs.declared.ready_connection.Ending.{Ending}
use Rattle.daily_turns.specs.declared.ready_connection.Ending.TheVariants.{Served, Failed}
use Rattle.daily_turns.specs.declared.ready_connection.ConnectionStage.TheVariants as stages
use Rattle.daily_turns.specs.DrawSizes.{draw_size}
use Rattle.daily_turns.specs.ReadyConnections.{ConnectionState, at, state_of, leaving, has_left, joined_state, refused_state, heard_state, learned_state, drawn_state, draw_room, most_drawn, is_held, IsAdapted, TellsUnless, HearsPiece, Listens, HasTurn, HasKept, AsksWhatCame, Draws, DrawsOrWrites, WritesOn, Finishes, ActsInHub, LeavesIfOver, WhereReady, Acts, ConnectionTurn, LearnsAt, LearnsWhatCame, DismissedAt, Dismissed, TurnedDownAt, TurnedDown}

abbrev ok_of : {E : Type 0} → Option ℕ → Result (Option ℕ) E
ok_of field = Ok field

pub wrote_is : {E : Type 0} (result : Result (Option ℕ) E) (field : Option ℕ) (count : ℕ) (bytes : List ℕ) → result ≡ Ok field → field ≡ Some count → write_try result bytes ≡ Wrote bytes count
wrote_is {E = E} result field count bytes is which = ap (λ r. write_try r bytes) is ∙ ap (λ f. write_try (ok_of {E = E} f) bytes) which

pub read_is : {E : Type 0} (result : Result (Option ℕ) E) (field : Option ℕ) (count : ℕ) (bytes : List ℕ) → result ≡ Ok field → field ≡ Some count → read_try result bytes ≡ Read (length bytes) (take count bytes)
read_is {E = E} result field count bytes is which = ap (λ r. read_try r bytes) is ∙ ap (λ f. read_try (ok_of {E = E} f) bytes) which

pub no_read_is : {E : Type 0} (result : Result (Option ℕ) E) (field : Option ℕ) (bytes : List ℕ) → result ≡ Ok field → field ≡ None → read_try result bytes ≡ ReadWaited (length bytes)
no_read_is {E = E} result field bytes is which = ap (λ r. read_try r bytes) is ∙ ap (λ f. read_try (ok_of {E = E} f) bytes) which

pub within_some : (field : Option ℕ) (count : ℕ) (P : ℕ → Type 0) → IfSome field P → field ≡ Some count → P count
within_some field count P within is = subst (λ f. IfSome f P) is within

pub some_left : (bytes : List ℕ) (none : Bool) → none ≡ (length bytes == 0) → none ≡ false → bytes ≡ [] → ⊥
some_left bytes none is given nothing_is = absurd (true≢false (sym (is ∙ ap (λ l. length l == 0) nothing_is) ∙ given))

pub at_same : (stage other : ConnectionStage) (u v : List ℕ) (w x : Bool) → stage ≡ other → u ≡ v → w ≡ x → at stage u w ≡ at other v x
at_same stage other u v w x is are same = ap (λ s. at s u w) is ∙ ap (λ l. at other l w) are ∙ ap (λ b. at other v b) same

-- a write that took some
pub sent_some : (before : ConnectionState) (count : ℕ) (old new : List WireCall) (after : ConnectionState) → (count ≡ 0 → ⊥) → count ≤ length before.unsent → new ≡ old ++ Wrote before.unsent count ∷ [] → after ≡ at before.stage (drop count before.unsent) false → HasMade old new (λ made. WritesOn before (trace made [] []) after)
sent_some before count old new after some within called is = (
  Wrote before.unsent count ∷ [],
  called,
  inl (record {
    piece = take count before.unsent;
    rest = drop count before.unsent;
    some = λ none. some (sym (length-take-le count before.unsent within) ∙ ap length none);
    unsent = sym (take-append-drop count before.unsent);
    is = ap (λ n. trace (Wrote before.unsent n ∷ []) [] []) (sym (length-take-le count before.unsent within));
    after_is = is;
  }),
)

-- what is to be sent, where there is some
pub replies_more : (old new : Adapting) (id : ℕ) (unsent : List ℕ) (t : Trace) (before after : ConnectionState) → new ≡ old → (unsent ≡ [] → ⊥) → before ≡ at (stages.Replying id) unsent false → WritesOn before t after → DrawsOrWrites old new id unsent t after
replies_more old new id [] t before after kept some is w = absurd (some refl)
replies_more old new id (b ∷ bytes) t before after kept some is w = (kept, subst (λ s. WritesOn s t after) is w)

pub replies_anew : (old new : Adapting) (id : ℕ) (unsent : List ℕ) (t : Trace) (after : ConnectionState) → unsent ≡ [] → Draws old new id t after → DrawsOrWrites old new id unsent t after
replies_anew old new id unsent t after none d = subst (λ u. DrawsOrWrites old new id u t after) (sym none) d

pub finishes_more : (ending : Ending) (unsent : List ℕ) (t : Trace) (before after : ConnectionState) → (unsent ≡ [] → ⊥) → before ≡ leaving ending unsent → WritesOn before t after → Finishes ending unsent t after
finishes_more ending [] t before after some is w = absurd (some refl)
finishes_more ending (b ∷ bytes) t before after some is w = subst (λ s. WritesOn s t after) is w

pub joined_at : (result : Result ℕ HubFault) (stage : ConnectionStage) (unsent : List ℕ) → at stage [] false ≡ joined_state (join_outcome result) → unsent ≡ [] → at stage unsent false ≡ joined_state (join_outcome result)
joined_at result stage unsent is none = ap (λ u. at stage u false) none ∙ is

pub drawn_made : (old new : Adapting) (id room : ℕ) (outcome : Outcome) (part : List ℕ) (after : ConnectionState) → draw_room old ≡ room → length (drawn_bytes outcome) ≤ room → IsAdapted old outcome part new → after ≡ drawn_state id outcome part →
    Draws old new id (trace [] (events.Draw id room ∷ []) (outcome ∷ [])) after
drawn_made old new id room outcome part after size few adapted is = record {
  outcome = outcome;
  part = part;
  room = subst (λ n. length (drawn_bytes outcome) ≤ n) (sym size) few;
  is = ap (λ n. trace [] (events.Draw id n ∷ []) (outcome ∷ [])) (sym size);
  adapted = adapted;
  after_is = is;
}

-- where all is sent as it comes
pub room_through : (old : Adapting) → is_through old.answers ≡ true → draw_room old ≡ draw_size
room_through old through = ap most_drawn through

pub room_adapted : (old : Adapting) → is_through old.answers ≡ false → draw_room old ≡ 500
room_adapted old adapts = ap most_drawn adapts

-- bytes that were drawn are to be sent
pub drawn_on : (id count : ℕ) (result : Result Drawn HubFault) (bytes : List ℕ) → result ≡ Ok (drawn.Bytes count) → bytes ≡ drawn_bytes (draw_outcome result bytes) → at (stages.Replying id) bytes false ≡ drawn_state id (draw_outcome result bytes) (drawn_bytes (draw_outcome result bytes))
drawn_on id count (Ok (drawn.Bytes n)) bytes is are = ap (λ l. at (stages.Replying id) l false) are
drawn_on id count (Ok drawn.Finished) bytes is are = absurd (cc is)
drawn_on id count (Err fault) bytes is are = absurd (cc is)

-- all of it is sent as it comes
through_sent : (old : Adapting) (outcome : Outcome) → is_through old.answers ≡ true → IsAdapted old outcome (drawn_bytes outcome) old
through_sent old (outcomes.Drawn bytes) through = record { gives = through_gives old bytes through; asks = refl; through = λ _. (refl, refl) }
through_sent old outcomes.Finished through = record { gives = through_none old through; asks = refl; through = λ _. refl }
through_sent old (outcomes.Joined id) through = (refl, refl)
through_sent old outcomes.More through = (refl, refl)
through_sent old outcomes.Ready through = (refl, refl)
through_sent old outcomes.Waiting through = (refl, refl)
through_sent old outcome through = (refl, refl)

pub through_adapted : (old new : Adapting) (outcome : Outcome) → is_through old.answers ≡ true → new ≡ old → IsAdapted old outcome (drawn_bytes outcome) new
through_adapted old new outcome through kept = subst (λ adapter. IsAdapted old outcome (drawn_bytes outcome) adapter) (sym kept) (through_sent old outcome through)

-- what is adapted of bytes that were drawn
pub part_adapted : (old mid new : Adapting) (result : Result Drawn HubFault) (d : Drawn) (count size : ℕ) (room part : List ℕ) → result ≡ Ok d → d ≡ drawn.Bytes count → length room ≡ size → new ≡ mid → HasAnswered old (take (min count size) room) part mid → IsAdapted old (draw_outcome result room) part new
part_adapted old mid new result d count size room part is bytes fits kept answered =
    subst (λ r. IsAdapted old (draw_outcome r room) part new) (sym (is ∙ ap (λ d. Ok d) bytes))
    (subst (λ adapter. HasAnswered old (take count room) part adapter) (sym kept) (subst (λ l. HasAnswered old l part mid) (ap (λ n. take (min count n) room) (sym fits) ∙ take_min count room) answered))

pub end_adapted : (old mid new : Adapting) (result : Result Drawn HubFault) (d : Drawn) (room part : List ℕ) → result ≡ Ok d → d ≡ drawn.Finished → new ≡ mid → HasClosed old part mid → IsAdapted old (draw_outcome result room) part new
end_adapted old mid new result d room part is finished kept closed = subst (λ r. IsAdapted old (draw_outcome r room) part new) (sym (is ∙ ap (λ d. Ok d) finished)) (subst (λ adapter. HasClosed old part adapter) (sym kept) closed)

fault_sends : (old : Adapting) (fault : HubFault) → IsAdapted old (outcomes.Fault fault) [] old
fault_sends old fault = (refl, refl)

pub fault_adapted : (old new : Adapting) (result : Result Drawn HubFault) (fault : HubFault) (room : List ℕ) → result ≡ Err fault → new ≡ old → IsAdapted old (draw_outcome result room) [] new
fault_adapted old new result fault room is kept = subst (λ adapter. IsAdapted old (draw_outcome result room) [] adapter) (sym kept) (subst (λ r. IsAdapted old (draw_outcome r room) [] old) (sym is) (fault_sends old fault))

-- and what follows of it
pub part_follows : (id count : ℕ) (result : Result Drawn HubFault) (d : Drawn) (room part : List ℕ) → result ≡ Ok d → d ≡ drawn.Bytes count → at (stages.Replying id) part false ≡ drawn_state id (draw_outcome result room) part
part_follows id count result d room part is bytes = sym (ap (λ r. drawn_state id (draw_outcome r room) part) (is ∙ ap (λ d. Ok d) bytes))

pub end_follows : (id : ℕ) (result : Result Drawn HubFault) (d : Drawn) (room part : List ℕ) → result ≡ Ok d → d ≡ drawn.Finished → leaving Served part ≡ drawn_state id (draw_outcome result room) part
end_follows id result d room part is finished = sym (ap (λ r. drawn_state id (draw_outcome r room) part) (is ∙ ap (λ d. Ok d) finished))

pub fault_follows : (id : ℕ) (result : Result Drawn HubFault) (fault : HubFault) (room : List ℕ) → result ≡ Err fault → leaving Failed [] ≡ drawn_state id (draw_outcome result room) []
fault_follows id result fault room is = sym (ap (λ r. drawn_state id (draw_outcome r room) []) is)

-- ---- a piece

pub heard_piece : (old mid new : Adapting) (id : ℕ) (piece passed : List ℕ) (es : List Event) (os : List Outcome) (outcome : Outcome) (after : ConnectionState) → new ≡ mid → HasHeard old piece passed mid → is_held piece passed ≡ false → IsTold id passed es os outcome → after ≡ heard_state id outcome → HearsPiece old new id piece es os after
heard_piece old mid new id piece passed es os outcome after kept heard some told is = record { passed = passed; heard = subst (λ adapter. HasHeard old piece passed adapter) (sym kept) heard; told = subst (λ b. TellsUnless b id passed es os after) (sym some) (outcome, told, is) }

pub held_piece : (old mid new : Adapting) (id : ℕ) (piece passed : List ℕ) (after : ConnectionState) → new ≡ mid → HasHeard old piece passed mid → is_held piece passed ≡ true → after ≡ at (stages.Listening id) [] false → HearsPiece old new id piece [] [] after
held_piece old mid new id piece passed after kept heard all is = record { passed = passed; heard = subst (λ adapter. HasHeard old piece passed adapter) (sym kept) heard; told = subst (λ b. TellsUnless b id passed [] [] after) (sym all) (refl, refl, is) }

pub heard_made : (first last : Adapting) (id : ℕ) (unsent : List ℕ) (old new : List WireCall) (piece : List ℕ) (es : List Event) (os : List Outcome) (after : ConnectionState) → length piece ≤ 512 → new ≡ old ++ Read 512 piece ∷ [] → HearsPiece first last id piece es os after →
    HasMade old new (λ made. Listens first last id unsent (trace made es os) after)
heard_made first last id unsent old new piece es os after room read hears = (Read 512 piece ∷ [], read, inl (record { piece = piece; room = room; calls_are = refl; hears = hears }))

none_of : (bytes : List ℕ) → length bytes ≤ 0 → bytes ≡ []
none_of [] few = refl
none_of (b ∷ bytes) few = absurd (omega (arith, few))

asked_made : (id : ℕ) (outcome : Outcome) (after : ConnectionState) → length (drawn_bytes outcome) ≤ 0 → after ≡ learned_state id outcome → AsksWhatCame id (trace [] (events.Draw id 0 ∷ []) (outcome ∷ [])) after
asked_made id outcome after few is = record { outcome = outcome; none = none_of (drawn_bytes outcome) few; is = refl; after_is = is }

-- a session whose post waited, and its reply stands
pub learned_well : (id : ℕ) (result : Result Drawn HubFault) (d : Drawn) (buffer : List ℕ) (after : ConnectionState) → length buffer ≡ 0 → result ≡ Ok d → after ≡ at (stages.Replying id) [] false → AsksWhatCame id (trace [] (events.Draw id 0 ∷ []) (draw_outcome result buffer ∷ [])) after
learned_well id result d buffer after size is so = asked_made id (draw_outcome result buffer) after (draws_few 0 result buffer size) (so ∙ sym (ap (λ r. learned_state id (draw_outcome r buffer)) is ∙ replies d))
  where
    replies : (d : Drawn) → learned_state id (drawn_outcome d buffer) ≡ at (stages.Replying id) [] false
    replies (drawn.Bytes n) = refl
    replies drawn.Finished = refl

-- or a fault
pub learned_fault : (id : ℕ) (result : Result Drawn HubFault) (fault : HubFault) (buffer : List ℕ) (after : ConnectionState) → length buffer ≡ 0 → result ≡ Err fault → after ≡ refused_state fault → AsksWhatCame id (trace [] (events.Draw id 0 ∷ []) (draw_outcome result buffer ∷ [])) after
learned_fault id result fault buffer after size is so = asked_made id (draw_outcome result buffer) after (draws_few 0 result buffer size) (so ∙ sym (ap (λ r. learned_state id (draw_outcome r buffer)) is))

-- the text fits
pub later_fits : (text : List ℕ) → text ≡ error_reply true TryAgainLater [] → length text ≤ draw_size
unfolding plus_error words_of digits
later_fits text is = let size : length text ≡ 27 = ap length is in omega (arith, size)

-- ---- turns

pub turn_of : {W : Type 0} (old new : ReadyConnection W) (stage : ConnectionStage) (t : Trace) → old.waits ≡ false → old.stage ≡ stage → Acts old.adapter new.adapter stage old.unsent.items t (state_of new) → ConnectionTurn old.adapter new.adapter (state_of old) t (state_of new)
turn_of old new stage t ready is acts = subst (λ b. WhereReady old.adapter new.adapter (not b) (state_of old) t (state_of new)) (sym ready) (subst (λ s. Acts old.adapter new.adapter s old.unsent.items t (state_of new)) (sym is) acts)

-- one that rests
pub rested : {W : Type 0} (calls : W → List WireCall) (connection : ReadyConnection W) → connection.waits ≡ true → HasTurn calls connection [] [] connection
rested calls connection waits = record { made = []; calls_are = sym (append-nil (calls connection.wire)); does = subst (λ b. WhereReady connection.adapter connection.adapter (not b) (state_of connection) nothing (state_of connection)) (sym waits) (refl, (refl, refl)) }

-- a turn is what is done, and what follows
pub took : {W : Type 0} (calls : W → List WireCall) (old new : ReadyConnection W) (stage : ConnectionStage) (id : ℕ) (Does : Trace → ConnectionState → Type 0) (es fs : List Event) (os ps : List Outcome) → old.waits ≡ false → old.stage ≡ stage →
    ((t : Trace) → ActsInHub id Does t (state_of new) → Acts old.adapter new.adapter stage old.unsent.items t (state_of new)) →
    HasMade (calls old.wire) (calls new.wire) (λ made. Does (trace made es os) (state_of new)) → LeavesIfOver id (has_left new.stage) (trace [] fs ps) → HasTurn calls old (es ++ fs) (os ++ ps) new
took calls old new stage id Does es fs os ps ready is acts first second = record {
  made = first.0;
  calls_are = first.1;
  does = turn_of old new stage (trace first.0 (es ++ fs) (os ++ ps)) ready is (acts (trace first.0 (es ++ fs) (os ++ ps)) (record {
    done = trace first.0 es os;
    rest = trace [] fs ps;
    is = ap (λ l. trace l (es ++ fs) (os ++ ps)) (sym (append-nil first.0));
    does = first.2;
    follows = second;
  }));
}

pub finished : {W : Type 0} (calls : W → List WireCall) (old new : ReadyConnection W) (ending : Ending) → old.waits ≡ false → old.stage ≡ stages.Leaving ending → new.adapter ≡ old.adapter → HasMade (calls old.wire) (calls new.wire) (λ made. Finishes ending old.unsent.items (trace made [] []) (state_of new)) → HasTurn calls old [] [] new
finished calls old new ending ready is kept m = record { made = m.0; calls_are = m.1; does = turn_of old new (stages.Leaving ending) (trace m.0 [] []) ready is (kept, m.2) }

pub nothing_left : {W : Type 0} (calls : W → List WireCall) (connection : ReadyConnection W) (ending : Ending) → connection.waits ≡ false → connection.stage ≡ stages.Closed ending → HasTurn calls connection [] [] connection
nothing_left calls connection ending ready is = record {
  made = [];
  calls_are = sym (append-nil (calls connection.wire));
  does = turn_of connection connection (stages.Closed ending) nothing ready is (refl, (refl, at_same connection.stage (stages.Closed ending) connection.unsent.items connection.unsent.items connection.waits false is refl ready));
}

-- one whose post waits
pub still_waits : {W : Type 0} (calls : W → List WireCall) (connection : ReadyConnection W) (id : ℕ) → connection.waits ≡ false → connection.stage ≡ stages.Waiting id → HasTurn calls connection [] [] connection
still_waits calls connection id ready is = record {
  made = [];
  calls_are = sym (append-nil (calls connection.wire));
  does = turn_of connection connection (stages.Waiting id) nothing ready is (refl, (refl, at_same connection.stage (stages.Waiting id) connection.unsent.items connection.unsent.items connection.waits false is refl ready));
}

-- ---- what came of a post

pub learned : {W : Type 0} (calls : W → List WireCall) (old new : ReadyConnection W) (id : ℕ) (es fs : List Event) (os ps : List Outcome) → old.stage ≡ stages.Waiting id → new.wire ≡ old.wire → new.adapter ≡ old.adapter → AsksWhatCame id (trace [] es os) (state_of new) → LeavesIfOver id (has_left new.stage) (trace [] fs ps) → HasKept calls LearnsWhatCame old (es ++ fs) (os ++ ps) new
learned calls old new id es fs os ps is wire adapter first second = (
  record {
    made = [];
    calls_are = ap calls wire ∙ sym (append-nil (calls old.wire));
    does = subst (λ s. LearnsAt s (state_of old) (trace [] (es ++ fs) (os ++ ps)) (state_of new)) (sym is) (record { done = trace [] es os; rest = trace [] fs ps; is = refl; does = first; follows = second });
  },
  adapter,
)

pub learns_nothing : {W : Type 0} (calls : W → List WireCall) (connection : ReadyConnection W) → ((id : ℕ) → connection.stage ≡ stages.Waiting id → ⊥) → HasKept calls LearnsWhatCame connection [] [] connection
learns_nothing calls connection other = (record { made = []; calls_are = sym (append-nil (calls connection.wire)); does = rests connection.stage (state_of connection) other }, refl)
  where
    rests : (stage : ConnectionStage) (state : ConnectionState) → ((id : ℕ) → stage ≡ stages.Waiting id → ⊥) → LearnsAt stage state nothing state
    rests (stages.Waiting id) state other = absurd (other id refl)
    rests (stages.Listening id) state other = (refl, refl)
    rests (stages.Replying id) state other = (refl, refl)
    rests (stages.Leaving ending) state other = (refl, refl)
    rests (stages.Closed ending) state other = (refl, refl)

-- ---- those whose time is over

pub dismissed_at : {W : Type 0} (calls : W → List WireCall) (old new : ReadyConnection W) (stage : ConnectionStage) (made : List WireCall) (es : List Event) (os : List Outcome) → old.stage ≡ stage → new.adapter ≡ old.adapter → calls new.wire ≡ calls old.wire ++ made → DismissedAt stage (state_of old) (trace made es os) (state_of new) → HasKept calls Dismissed old es os new
dismissed_at calls old new stage made es os is kept called does = (record { made = made; calls_are = called; does = subst (λ s. DismissedAt s (state_of old) (trace made es os) (state_of new)) (sym is) does }, kept)

-- ---- one whose post is not to be made

pub turned_down : {W : Type 0} (calls : W → List WireCall) (old new : ReadyConnection W) (id : ℕ) (es : List Event) (os : List Outcome) → old.stage ≡ stages.Waiting id → new.wire ≡ old.wire → new.adapter ≡ old.adapter → TurnedDownAt (stages.Waiting id) (state_of old) (trace [] es os) (state_of new) → HasKept calls TurnedDown old es os new
turned_down calls old new id es os is wire adapter does = (
  record {
    made = [];
    calls_are = ap calls wire ∙ sym (append-nil (calls old.wire));
    does = subst (λ s. TurnedDownAt s (state_of old) (trace [] es os) (state_of new)) (sym is) does;
  },
  adapter,
)

pub turns_nobody_down : {W : Type 0} (calls : W → List WireCall) (connection : ReadyConnection W) → ((id : ℕ) → connection.stage ≡ stages.Waiting id → ⊥) → HasKept calls TurnedDown connection [] [] connection
turns_nobody_down calls connection other = (record { made = []; calls_are = sym (append-nil (calls connection.wire)); does = rests connection.stage (state_of connection) other }, refl)
  where
    rests : (stage : ConnectionStage) (state : ConnectionState) → ((id : ℕ) → stage ≡ stages.Waiting id → ⊥) → TurnedDownAt stage state nothing state
    rests (stages.Waiting id) state other = absurd (other id refl)
    rests (stages.Listening id) state other = (refl, refl)
    rests (stages.Replying id) state other = (refl, refl)
    rests (stages.Leaving ending) state other = (refl, refl)
    rests (stages.Closed ending) state other = (refl, refl)
