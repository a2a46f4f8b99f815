-- What a session draws goes on from where it stood, whatever else happens, and whoever waits.
use Rattle.std.proofs.Common.{◌≡◌, ℕ, ◌-◌, ◌^◌, Bool, true, false, not, List, [], ◌∷◌, ◌++◌, ◌==◌, drop, length, nat_le, refl, sym, ap, ◌∙◌, inl, inr, eqb-true, append_assoc, if◌then◌else◌}
use Rattle.std.specs.Prelude.{Option, Some, None, Result, Ok, Err, ◌&&◌}
use Rattle.std.proofs.lemmas.Bool.{cases_Bool, not-true}
use Rattle.std.proofs.lemmas.List.{take-append-drop}
use Rattle.host_types.specs.Site.{Site}
use Rattle.host_types.specs.Change.{apply}
use Rattle.common_types.specs.declared.refused.Refused.{Refused}
use Rattle.request_reader.specs.Request.{Request}
use Rattle.group_world.specs.declared.fault.HubFault.TheVariants as hub
use Rattle.group_world.specs.World.{World, Phase, Heard, Waits, Reply, Early, phase_in, phase_of, others_in, with_phase, count_waiting}
use Rattle.group_world.specs.Step.{StepResult, Next, at_session, at_hearing, settled, most_waiting, listens, ends, draws, joined, left, changed, answer, failed_answer, all_of, flushed, flushed_by}
use Rattle.group_world.specs.declared.event.Event.{Event}
use Rattle.group_world.specs.declared.event.Event.TheVariants.{Join, Bytes, End, Draw, Leave, Admin, Flush}
use Rattle.group_world.specs.declared.event.Outcome.{Outcome}
use Rattle.group_world.specs.declared.event.Outcome.TheVariants.{Joined, More, Ready, Finished, Waiting, Drawn, Gone, Done, Flushed, Fault}
use Rattle.group_world.specs.Run.{StepBy, IsAnswer, IsFaulty, IsSplit, IsTakenSingly}
use Rattle.group_world.specs.Continuing.{drawn_in, drawn_by, is_leave, is_flush, stays_in, Continues, PostsWait}
use Rattle.group_world.proofs.Groups.{replies_stay}
use Rattle.group_world.proofs.Phases.{other_phase, own_phase, gone_phase, more_phase}

abbrev pub Has : World → ℕ → Phase → Type 0
Has w id p = phase_of w id ≡ Some p

-- ---- one that hears nothing more stays where it is, while others move

-- what a session that hears something leaves of another
settled_keeps : (w : World) (n id now : ℕ) (r : StepResult) (next p : Phase) → (n == id) ≡ false → Has w id p → Has (settled w n now r next).world id p
settled_keeps w n id now r (Heard stream) p other has = other_phase w.sessions n id r.phase other ∙ has
settled_keeps w n id now r (Reply rest) p other has = other_phase w.sessions n id r.phase other ∙ has
settled_keeps w n id now r Early p other has = other_phase w.sessions n id r.phase other ∙ has
settled_keeps w n id now r (Waits request at) p other has =
    elim (cases_Bool (nat_le most_waiting (count_waiting w.sessions))) [
      | inl full ↦ rw full has
      | inr room ↦ rw room (more_phase (others_in w.sessions n) ((n, Waits request at) ∷ []) id p (gone_phase w.sessions n id other ∙ has))
    ]

other_hears : (w : World) (n id now : ℕ) (f : Phase → StepResult) (o : Option Phase) (p : Phase) → (n == id) ≡ false → Has w id p → Has (at_hearing w n now f o).world id p
other_hears w n id now f None p other has = has
other_hears w n id now f (Some (Heard stream)) p other has = settled_keeps w n id now (f (Heard stream)) (f (Heard stream)).phase p other has
other_hears w n id now f (Some (Waits request at)) p other has = other_phase w.sessions n id (f (Waits request at)).phase other ∙ has
other_hears w n id now f (Some (Reply rest)) p other has = other_phase w.sessions n id (f (Reply rest)).phase other ∙ has
other_hears w n id now f (Some Early) p other has = other_phase w.sessions n id (f Early).phase other ∙ has

-- what it hears itself it takes no heed of
own_hears : (w : World) (id now : ℕ) (f : Phase → StepResult) (p : Phase) → ((stream : List ℕ) → p ≡ Heard stream → ⊥) → (f p).phase ≡ p → Has w id p → Has (at_hearing w id now f (Some p)).world id p
own_hears w id now f (Heard stream) heard same has = absurd (heard stream refl)
own_hears w id now f (Waits request at) heard same has = own_phase w.sessions id (f (Waits request at)).phase (Waits request at) has ∙ ap (λ (q : Phase). Some q) same
own_hears w id now f (Reply rest) heard same has = own_phase w.sessions id (f (Reply rest)).phase (Reply rest) has ∙ ap (λ (q : Phase). Some q) same
own_hears w id now f Early heard same has = own_phase w.sessions id (f Early).phase Early has ∙ ap (λ (q : Phase). Some q) same

hears_keep : (w : World) (n id now : ℕ) (f : Phase → StepResult) (p : Phase) → ((stream : List ℕ) → p ≡ Heard stream → ⊥) → (f p).phase ≡ p → Has w id p → Has (at_hearing w n now f (phase_of w n)).world id p
hears_keep w n id now f p heard same has =
    elim (cases_Bool (n == id)) [
      | inl own ↦
          let number : n ≡ id = eqb-true n id own in
          let at : phase_of w n ≡ Some p = ap (phase_of w) number ∙ has in
          rw at (ap (λ (k : ℕ). phase_of (at_hearing w k now f (Some p)).world id) number ∙ own_hears w id now f p heard same has)
      | inr other ↦ other_hears w n id now f (phase_of w n) p other has
    ]

joined_keeps : (w : World) (id : ℕ) (p : Phase) → Has w id p → Has (joined w).world id p
unfolding joined
joined_keeps w id p has =
    elim (cases_Bool (nat_le 32 (length w.sessions))) [
      | inl full ↦ rw full has
      | inr room ↦ elim (cases_Bool (w.next == 2 ^ 64 - 1)) [
        | inl last ↦ rw (room, last) has
        | inr less ↦ rw (room, less) (more_phase w.sessions ((w.next, Heard []) ∷ []) id p has)
      ]
    ]

leave_keeps : (w : World) (n id : ℕ) (o : Option Phase) (p : Phase) → (n == id) ≡ false → Has w id p → Has (left w n o).world id p
leave_keeps w n id None p other has = has
leave_keeps w n id (Some q) p other has = gone_phase w.sessions n id other ∙ has

admin_keeps : (w : World) (id : ℕ) (r : Result Site Refused) (p : Phase) → Has w id p → Has (changed w r).world id p
admin_keeps w id (Ok s) p has = has
admin_keeps w id (Err refused) p has = has

other_draws : (w : World) (n id room : ℕ) (o : Option Phase) (p : Phase) → (n == id) ≡ false → Has w id p → Has (at_session w n (draws room) o).world id p
other_draws w n id room None p other has = has
other_draws w n id room (Some q) p other has = other_phase w.sessions n id (draws room q).phase other ∙ has

-- ---- answers

-- an answer leaves the phase of a session that has its reply, or waits: but for its own draws, and for a flush
abbrev Unmoved : Phase → Type 0
Unmoved p = ((stream : List ℕ) → p ≡ Heard stream → ⊥) × ((grouped : Bool) (site : Site) (now : ℕ) (piece : List ℕ) → (listens grouped site now piece p).phase ≡ p) × ((grouped : Bool) (site : Site) (now : ℕ) → (ends grouped site now p).phase ≡ p)

reply_unmoved : (rest : List ℕ) → Unmoved (Reply rest)
reply_unmoved rest = (λ stream is. cc is, λ grouped site now piece. refl, λ grouped site now. refl)

waits_unmoved : (request : Request) (at : ℕ) → Unmoved (Waits request at)
waits_unmoved request at = (λ stream is. cc is, λ grouped site now piece. refl, λ grouped site now. refl)

-- what a fault, or a session that leaves, finds of another
failed_keeps : (w : World) (e : Event) (id : ℕ) (p : Phase) → Has w id p → is_leave id e ≡ false → Has (failed_answer w e).world id p
failed_keeps w (Leave n) id p has stays = leave_keeps w n id (phase_of w n) p stays has
failed_keeps w Join id p has stays = has
failed_keeps w (Bytes n piece now) id p has stays = has
failed_keeps w (End n now) id p has stays = has
failed_keeps w (Draw n room) id p has stays = has
failed_keeps w (Admin change now) id p has stays = has
failed_keeps w Flush id p has stays = has

-- a fault in place of the answer moves no session
pub faulty_stays : (w new : World) (e : Event) (o : Outcome) → IsFaulty w e o new → (new.next ≡ w.next) × (new.sessions ≡ w.sessions)
faulty_stays w new e (Fault hub.Failed) is = (ap (λ (x : World). x.next) is.1, ap (λ (x : World). x.sessions) is.1)
faulty_stays w new e (Fault hub.Unknown) is = (ap (λ (x : World). x.next) is.1, ap (λ (x : World). x.sessions) is.1)
faulty_stays w new e (Fault hub.Crowded) is = (ap (λ (x : World). x.next) is.1, ap (λ (x : World). x.sessions) is.1)
faulty_stays w new e (Fault hub.Spent) is = (ap (λ (x : World). x.next) is.1, ap (λ (x : World). x.sessions) is.1)
faulty_stays w new e (Fault hub.Deep) is = (ap (λ (x : World). x.next) is.1, ap (λ (x : World). x.sessions) is.1)
faulty_stays w new e (Fault (hub.Refused r)) is = (ap (λ (x : World). x.next) is.1, ap (λ (x : World). x.sessions) is.1)
faulty_stays w new e (Fault (hub.Full need free)) is = (ap (λ (x : World). x.next) is.1, ap (λ (x : World). x.sessions) is.1)
faulty_stays w new e (Fault hub.Broken) is = (ap (λ (x : World). x.next) is.1, ap (λ (x : World). x.sessions) is.1)
faulty_stays w new e (Fault hub.Memory) is = (ap (λ (x : World). x.next) is.1, ap (λ (x : World). x.sessions) is.1)
faulty_stays w new e (Fault hub.NotReady) is = (ap (λ (x : World). x.next) is.1, ap (λ (x : World). x.sessions) is.1)
faulty_stays w new e (Joined k) is = absurd is
faulty_stays w new e More is = absurd is
faulty_stays w new e Ready is = absurd is
faulty_stays w new e Finished is = absurd is
faulty_stays w new e Waiting is = absurd is
faulty_stays w new e (Drawn bytes) is = absurd is
faulty_stays w new e Gone is = absurd is
faulty_stays w new e Done is = absurd is
faulty_stays w new e (Flushed answered left) is = absurd is

-- and draws nothing
fault_draws : (id : ℕ) (e : Event) (o : Outcome) (w new : World) → IsFaulty w e o new → drawn_in id e o ≡ []
fault_draws id Join o w new is = refl
fault_draws id (Bytes n piece now) o w new is = refl
fault_draws id (End n now) o w new is = refl
fault_draws id (Draw n room) (Fault fault) w new is = refl
fault_draws id (Draw n room) (Joined k) w new is = absurd is
fault_draws id (Draw n room) More w new is = absurd is
fault_draws id (Draw n room) Ready w new is = absurd is
fault_draws id (Draw n room) Finished w new is = absurd is
fault_draws id (Draw n room) Waiting w new is = absurd is
fault_draws id (Draw n room) (Drawn bytes) w new is = absurd is
fault_draws id (Draw n room) Gone w new is = absurd is
fault_draws id (Draw n room) Done w new is = absurd is
fault_draws id (Draw n room) (Flushed answered left) w new is = absurd is
fault_draws id (Leave n) o w new is = refl
fault_draws id (Admin change now) o w new is = refl
fault_draws id Flush o w new is = refl

-- posts that are taken one at a time
pub split_stays : (w new : World) (choices : List Bool) (o : Outcome) → IsTakenSingly w choices o new → (new.site ≡ (flushed_by w choices).site) × (new.sessions ≡ (flushed_by w choices).sessions) × (new.next ≡ w.next)
split_stays w new choices (Fault hub.Failed) is = (ap (λ (x : World). x.site) is.0, ap (λ (x : World). x.sessions) is.0, ap (λ (x : World). x.next) is.0)
split_stays w new choices (Flushed answered left) is = (ap (λ (x : World). x.site) is.3, ap (λ (x : World). x.sessions) is.3, ap (λ (x : World). x.next) is.3)
split_stays w new choices (Fault hub.Unknown) is = absurd is
split_stays w new choices (Fault hub.Crowded) is = absurd is
split_stays w new choices (Fault hub.Spent) is = absurd is
split_stays w new choices (Fault hub.Deep) is = absurd is
split_stays w new choices (Fault (hub.Refused r)) is = absurd is
split_stays w new choices (Fault (hub.Full need free)) is = absurd is
split_stays w new choices (Fault hub.Broken) is = absurd is
split_stays w new choices (Fault hub.Memory) is = absurd is
split_stays w new choices (Fault hub.NotReady) is = absurd is
split_stays w new choices (Joined k) is = absurd is
split_stays w new choices More is = absurd is
split_stays w new choices Ready is = absurd is
split_stays w new choices Finished is = absurd is
split_stays w new choices Waiting is = absurd is
split_stays w new choices (Drawn bytes) is = absurd is
split_stays w new choices Gone is = absurd is
split_stays w new choices Done is = absurd is

-- ---- a post that waits

answer_waits : (w : World) (e : Event) (id : ℕ) (request : Request) (at : ℕ) → Has w id (Waits request at) → is_leave id e ≡ false → is_flush e ≡ false → Has (answer w e).world id (Waits request at)
answer_waits w Join id request at has stays calm = joined_keeps w id (Waits request at) has
answer_waits w (Bytes n piece now) id request at has stays calm =
    let u = waits_unmoved request at in hears_keep w n id now (listens w.grouped w.site now piece) (Waits request at) u.0 (u.1 w.grouped w.site now piece) has
answer_waits w (End n now) id request at has stays calm = let u = waits_unmoved request at in hears_keep w n id now (ends w.grouped w.site now) (Waits request at) u.0 (u.2 w.grouped w.site now) has
answer_waits w (Draw n room) id request at has stays calm =
    elim (cases_Bool (n == id)) [
      | inl own ↦
          let number : n ≡ id = eqb-true n id own in
          let there : phase_of w n ≡ Some (Waits request at) = ap (phase_of w) number ∙ has in
          rw there (ap (λ (k : ℕ). phase_of (with_phase w k (Waits request at)) id) number ∙ own_phase w.sessions id (Waits request at) (Waits request at) has)
      | inr other ↦ other_draws w n id room (phase_of w n) (Waits request at) other has
    ]
answer_waits w (Leave n) id request at has stays calm = leave_keeps w n id (phase_of w n) (Waits request at) stays has
answer_waits w (Admin change now) id request at has stays calm = admin_keeps w id (apply w.site change now) (Waits request at) has
answer_waits w Flush id request at has stays calm = absurd (cc calm)

by_waits : (b : Bool) (w : World) (e : Event) (id : ℕ) (request : Request) (at : ℕ) → Has w id (Waits request at) → is_leave id e ≡ false → is_flush e ≡ false → Has (if b then failed_answer w e else answer w e).world id (Waits request at)
by_waits true w e id request at has stays calm = failed_keeps w e id (Waits request at) has stays
by_waits false w e id request at has stays calm = answer_waits w e id request at has stays calm

-- only a flush takes posts one at a time
pub no_split : (w new : World) (e : Event) (o : Outcome) → is_flush e ≡ false → IsSplit w e o new → ⊥
no_split w new Flush o calm is = cc calm
no_split w new Join o calm is = is
no_split w new (Bytes n piece now) o calm is = is
no_split w new (End n now) o calm is = is
no_split w new (Draw n room) o calm is = is
no_split w new (Leave n) o calm is = is
no_split w new (Admin change now) o calm is = is

step_waits : (b : Bool) (w new : World) (e : Event) (o : Outcome) (id : ℕ) (request : Request) (at : ℕ) → Has w id (Waits request at) → is_leave id e ≡ false → is_flush e ≡ false → StepBy b w e o new → Has new id (Waits request at)
step_waits true w new e o id request at has stays calm is = ap (λ (x : World). phase_of x id) is.1 ∙ by_waits w.failed w e id request at has stays calm
step_waits false w new e o id request at has stays calm (inl is) = ap (λ (x : World). phase_of x id) is.1 ∙ by_waits w.failed w e id request at has stays calm
step_waits false w new e o id request at has stays calm (inr (inl is)) = ap (λ (ss : List (ℕ × Phase)). phase_in ss id) (faulty_stays w new e o is).1 ∙ has
step_waits false w new e o id request at has stays calm (inr (inr is)) = absurd (no_split w new e o calm is)

pub posts_wait : PostsWait
posts_wait old new e o id request now has stays calm step = step_waits old.failed old new e o id request now has stays calm step

-- ---- a reply

-- what stays of a session after a step
abbrev Keeps : ℕ → List ℕ → Event → Outcome → World → Type 0
Keeps id reply e o new = (rest : List ℕ) × Has new id (Reply rest) × (reply ≡ drawn_in id e o ++ rest)

abbrev KeepsNext : ℕ → List ℕ → Event → Next → Type 0
KeepsNext id reply e next = Keeps id reply e next.outcome next.world

-- nothing was drawn, and the reply stays
unchanged : (id : ℕ) (reply : List ℕ) (e : Event) (o : Outcome) (new : World) → drawn_in id e o ≡ [] → Has new id (Reply reply) → Keeps id reply e o new
unchanged id reply e o new none has = (reply, has, ap (λ (d : List ℕ). d ++ reply) (sym none))

-- a draw of the session itself
own_draw : (w : World) (n id room : ℕ) (reply : List ℕ) → (n == id) ≡ true → Has w id (Reply reply) → KeepsNext id reply (Draw n room) (at_session w n (draws room) (Some (Reply reply)))
own_draw w n id room [] same has =
    let number : n ≡ id = eqb-true n id same in
    unchanged id [] (Draw n room) Finished (with_phase w n (Reply [])) refl (ap (λ (k : ℕ). phase_of (with_phase w k (Reply [])) id) number ∙ own_phase w.sessions id (Reply []) (Reply []) has)
own_draw w n id room (b ∷ rest) same has =
    let number : n ≡ id = eqb-true n id same in
    let left : List ℕ = drop room (b ∷ rest) in
    rw same (
      left,
      ap (λ (k : ℕ). phase_of (with_phase w k (Reply left)) id) number ∙ own_phase w.sessions id (Reply left) (Reply (b ∷ rest)) has,
      sym (take-append-drop room (b ∷ rest)),
    )

-- what another session draws is nothing of this one's
others_draw : (n id room : ℕ) (o : Outcome) → (n == id) ≡ false → drawn_in id (Draw n room) o ≡ []
others_draw n id room (Drawn bytes) other = rw other refl
others_draw n id room (Joined k) other = refl
others_draw n id room More other = refl
others_draw n id room Ready other = refl
others_draw n id room Finished other = refl
others_draw n id room Waiting other = refl
others_draw n id room Gone other = refl
others_draw n id room Done other = refl
others_draw n id room (Flushed answered left) other = refl
others_draw n id room (Fault f) other = refl

draw_keeps : (w : World) (n id room : ℕ) (reply : List ℕ) → Has w id (Reply reply) → KeepsNext id reply (Draw n room) (at_session w n (draws room) (phase_of w n))
draw_keeps w n id room reply has =
    elim (cases_Bool (n == id)) [
      | inl same ↦ (let at : phase_of w n ≡ Some (Reply reply) = ap (phase_of w) (eqb-true n id same) ∙ has in rw at (own_draw w n id room reply same has))
      | inr other ↦ unchanged id reply (Draw n room) _ (at_session w n (draws room) (phase_of w n)).world (others_draw n id room _ other) (other_draws w n id room (phase_of w n) (Reply reply) other has)
    ]

next_unchanged : (id : ℕ) (reply : List ℕ) (e : Event) (next : Next) → drawn_in id e next.outcome ≡ [] → Has next.world id (Reply reply) → KeepsNext id reply e next
next_unchanged id reply e next none has = unchanged id reply e next.outcome next.world none has

answer_keeps : (w : World) (e : Event) (id : ℕ) (reply : List ℕ) → Has w id (Reply reply) → not (is_leave id e) ≡ true → KeepsNext id reply e (answer w e)
answer_keeps w Join id reply has stays = next_unchanged id reply Join (joined w) refl (joined_keeps w id (Reply reply) has)
answer_keeps w (Bytes n piece now) id reply has stays =
    let u = reply_unmoved reply in
    let f : Phase → StepResult = listens w.grouped w.site now piece in
    next_unchanged id reply (Bytes n piece now) (at_hearing w n now f (phase_of w n)) refl (hears_keep w n id now f (Reply reply) u.0 (u.1 w.grouped w.site now piece) has)
answer_keeps w (End n now) id reply has stays =
    let u = reply_unmoved reply in
    let f : Phase → StepResult = ends w.grouped w.site now in
    next_unchanged id reply (End n now) (at_hearing w n now f (phase_of w n)) refl (hears_keep w n id now f (Reply reply) u.0 (u.2 w.grouped w.site now) has)
answer_keeps w (Draw n room) id reply has stays = draw_keeps w n id room reply has
answer_keeps w (Leave n) id reply has stays = next_unchanged id reply (Leave n) (left w n (phase_of w n)) refl (leave_keeps w n id (phase_of w n) (Reply reply) (not-true (n == id) stays) has)
answer_keeps w (Admin change now) id reply has stays = next_unchanged id reply (Admin change now) (changed w (apply w.site change now)) refl (admin_keeps w id (apply w.site change now) (Reply reply) has)
answer_keeps w Flush id reply has stays = next_unchanged id reply Flush (flushed w) refl (replies_stay w (all_of w.sessions) id reply has)

not_drawn : (id : ℕ) (w : World) (e : Event) → drawn_in id e (failed_answer w e).outcome ≡ []
not_drawn id w Join = refl
not_drawn id w (Bytes n piece now) = refl
not_drawn id w (End n now) = refl
not_drawn id w (Draw n room) = refl
not_drawn id w (Leave n) = refl
not_drawn id w (Admin change now) = refl
not_drawn id w Flush = refl

by_keeps : (b : Bool) (w : World) (e : Event) (id : ℕ) (reply : List ℕ) → Has w id (Reply reply) → not (is_leave id e) ≡ true → KeepsNext id reply e (if b then failed_answer w e else answer w e)
by_keeps true w e id reply has stays = next_unchanged id reply e (failed_answer w e) (not_drawn id w e) (failed_keeps w e id (Reply reply) has (not-true (is_leave id e) stays))
by_keeps false w e id reply has stays = answer_keeps w e id reply has stays

is_answer_keeps : (w new : World) (e : Event) (o : Outcome) (id : ℕ) (reply : List ℕ) → Has w id (Reply reply) → not (is_leave id e) ≡ true → IsAnswer w e o new → Keeps id reply e o new
is_answer_keeps w new e o id reply has stays is = rw (is.0, is.1) (by_keeps w.failed w e id reply has stays)

split_keeps : (w new : World) (e : Event) (o : Outcome) (id : ℕ) (reply : List ℕ) → Has w id (Reply reply) → IsSplit w e o new → Keeps id reply e o new
split_keeps w new Flush o id reply has is = unchanged id reply Flush o new refl (ap (λ (ss : List (ℕ × Phase)). phase_in ss id) (split_stays w new is.1.0 o is.1.1).1 ∙ replies_stay w is.1.0 id reply has)
split_keeps w new Join o id reply has is = absurd is
split_keeps w new (Bytes n piece now) o id reply has is = absurd is
split_keeps w new (End n now) o id reply has is = absurd is
split_keeps w new (Draw n room) o id reply has is = absurd is
split_keeps w new (Leave n) o id reply has is = absurd is
split_keeps w new (Admin change now) o id reply has is = absurd is

step_keeps : (b : Bool) (w new : World) (e : Event) (o : Outcome) (id : ℕ) (reply : List ℕ) → Has w id (Reply reply) → not (is_leave id e) ≡ true → StepBy b w e o new → Keeps id reply e o new
step_keeps true w new e o id reply has stays is = is_answer_keeps w new e o id reply has stays is
step_keeps false w new e o id reply has stays (inl is) = is_answer_keeps w new e o id reply has stays is
step_keeps false w new e o id reply has stays (inr (inl is)) = unchanged id reply e o new (fault_draws id e o w new is) (ap (λ (ss : List (ℕ × Phase)). phase_in ss id) (faulty_stays w new e o is).1 ∙ has)
step_keeps false w new e o id reply has stays (inr (inr is)) = split_keeps w new e o id reply has is

and_first : (a b : Bool) → (a && b) ≡ true → a ≡ true
and_first true b h = refl
and_first false b h = absurd (cc h)

and_second : (a b : Bool) → (a && b) ≡ true → b ≡ true
and_second true b h = h
and_second false b h = absurd (cc h)

pub continues : Continues
continues old [] [] [] id reply has stays run = (reply, has, refl)
continues old (e ∷ events) (o ∷ os) (w ∷ worlds) id reply has stays run =
    let kept = step_keeps old.failed old w e o id reply has (and_first (not (is_leave id e)) (stays_in id events) stays) run.0 in
    let later = continues w events os worlds id kept.0 kept.1 (and_second (not (is_leave id e)) (stays_in id events) stays) run.1 in (
      later.0,
      later.1,
      kept.2 ∙ ap (λ (l : List ℕ). drawn_in id e o ++ l) later.2 ∙ sym (append_assoc (drawn_in id e o) (drawn_by id events os) later.0),
    )
continues old [] [] (w ∷ worlds) id reply has stays run = absurd run
continues old [] (o ∷ os) [] id reply has stays run = absurd run
continues old [] (o ∷ os) (w ∷ worlds) id reply has stays run = absurd run
continues old (e ∷ events) [] [] id reply has stays run = absurd run
continues old (e ∷ events) [] (w ∷ worlds) id reply has stays run = absurd run
continues old (e ∷ events) (o ∷ os) [] id reply has stays run = absurd run
