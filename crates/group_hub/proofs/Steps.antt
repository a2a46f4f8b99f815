-- Calls of a hub as steps of its world.
use Rattle.std.proofs.Common.{◌≡◌, ℕ, ◌+◌, ◌-◌, ◌^◌, ◌<◌, ◌≤◌, Bool, true, false, not, List, [], ◌∷◌, ◌++◌, length, refl, ap, sym, ◌∙◌, inl, inr, subst, arith}
use Rattle.std.specs.Prelude.{Option, Some, None, Result, Ok, Err, IfOk, IfErr, OnOk, OnErr, IsTrue, nat_lt, if◌then◌else◌}
use Rattle.std.proofs.lemmas.Bool.{cases_Bool, le-leb, lt-leb, lt-ltb, ne_eqb, eq-eqb}
use Rattle.host_types.specs.AllChanges.{Changes}
use Rattle.host_types.specs.Site.{Site}
use Rattle.host_types.specs.SiteState.{SiteState, Rose}
use Rattle.host_types.specs.declared.site_fault.SiteFault.{SiteFault}
use Rattle.host_types.specs.declared.site_fault.SiteFault.TheVariants as faults
use Rattle.group_world.specs.World as world
use Rattle.group_world.specs.World.{World, phase_in, count_waiting}
use Rattle.group_world.specs.Step.{StepResult, says, Next, then_is, at_session, at_hearing, draws, joined, left, answer, failed_answer, step}
use Rattle.group_world.specs.Run.{Step, StepBy, IsAnswer, IsFaulty, IsSplit, may_work, has_changes, changes_in, may_come, may_read, has_bytes_left}
use Rattle.group_world.specs.Calls.{IsKeeperLacking}
use Rattle.group_world.specs.Continuing.{is_flush}
use Rattle.group_world.specs.Outcomes.{drawn_outcome, draw_outcome}
use Rattle.group_world.specs.declared.event.Event.{Event}
use Rattle.group_world.specs.declared.event.Event.TheVariants.{Join, Bytes, End, Draw, Leave, Admin, Flush}
use Rattle.group_world.specs.declared.event.Outcome.{Outcome}
use Rattle.group_world.specs.declared.event.Outcome.TheVariants.{Joined, Gone, Fault}
use Rattle.group_world.specs.declared.fault.HubFault.{HubFault}
use Rattle.group_world.specs.declared.fault.HubFault.TheVariants as hub
use Rattle.group_world.specs.declared.answer.Drawn.{Drawn}
use Rattle.group_hub.specs.Understood.{IsPostFault, IsDrawFault, DrawHasBegun, has_no_reply}
use Rattle.group_hub.specs.Worlds.{world_at}

-- ---- answers and faults as steps

pub answered_by : (b : Bool) (old : World) (e : Event) (o : Outcome) (new : World) → IsAnswer old e o new → StepBy b old e o new
answered_by true old e o new a = a
answered_by false old e o new a = inl a

pub faulty_by : (b : Bool) (old : World) (e : Event) (o : Outcome) (new : World) → b ≡ false → IsFaulty old e o new → StepBy b old e o new
faulty_by true old e o new usable f = absurd (cc usable)
faulty_by false old e o new usable f = inr (inl f)

pub split_by : (b : Bool) (old : World) (e : Event) (o : Outcome) (new : World) → b ≡ false → IsSplit old e o new → StepBy b old e o new
split_by true old e o new usable f = absurd (cc usable)
split_by false old e o new usable f = inr (inr f)

-- what the protocol answers in a hub that hasn't failed
pub is_answer : (w : World) (e : Event) (next : Next) (o : Outcome) (new : World) → w.failed ≡ false → answer w e ≡ next → o ≡ next.outcome → new ≡ next.world → IsAnswer w e o new
is_answer w e next o new usable is outcome same =
    let steps : step w e ≡ next = ap (λ (b : Bool). if b then failed_answer w e else answer w e) usable ∙ is in
    (outcome ∙ ap (λ (n : Next). n.outcome) (sym steps), same ∙ ap (λ (n : Next). n.world) (sym steps))

-- and in one that has
pub is_failed_answer : (w : World) (e : Event) (next : Next) (o : Outcome) (new : World) → w.failed ≡ true → failed_answer w e ≡ next → o ≡ next.outcome → new ≡ next.world → IsAnswer w e o new
is_failed_answer w e next o new shut is outcome same =
    let steps : step w e ≡ next = ap (λ (b : Bool). if b then failed_answer w e else answer w e) shut ∙ is in
    (outcome ∙ ap (λ (n : Next). n.outcome) (sym steps), same ∙ ap (λ (n : Next). n.world) (sym steps))

-- what is answered in either
either_way : (w : World) (e : Event) (next : Next) (o : Outcome) (new : World) → answer w e ≡ next → failed_answer w e ≡ next → o ≡ next.outcome → new ≡ next.world → IsAnswer w e o new
either_way w e next o new is is_too outcome same =
    elim (cases_Bool w.failed) [
      | inl shut ↦ is_failed_answer w e next o new shut is_too outcome same
      | inr usable ↦ is_answer w e next o new usable is outcome same
    ]

joined_crowded : (w : World) → 32 ≤ length w.sessions → joined w ≡ then_is (Fault hub.Crowded) w
unfolding joined
joined_crowded w full = rw (le-leb 32 (length w.sessions) full) refl

joined_spent : (w : World) → length w.sessions < 32 → w.next ≡ 2 ^ 64 - 1 → joined w ≡ then_is (Fault hub.Spent) w
unfolding joined
joined_spent w room is = rw (lt-leb 32 (length w.sessions) room, eq-eqb w.next (2 ^ 64 - 1) is) refl

joined_well : (w : World) → length w.sessions < 32 → (w.next ≡ 2 ^ 64 - 1 → ⊥) → joined w ≡ then_is (Joined w.next) (record w { next = w.next + 1; sessions = w.sessions ++ (w.next, world.Heard []) ∷ [] })
unfolding joined
joined_well w room less = rw (lt-leb 32 (length w.sessions) room, ne_eqb w.next (2 ^ 64 - 1) less) refl

-- ---- the world of a keeper and sessions

pub is_open : (k : SiteState) (next : ℕ) (g : Bool) (sessions : List (ℕ × world.Phase)) → k.usable ≡ true → (world_at k next g sessions).failed ≡ false
is_open k next g sessions usable = ap not usable

-- a world by its parts
abbrev world_by_parts : Site → Bool → ℕ → Bool → List (ℕ × world.Phase) → World
world_by_parts site usable next g sessions = record { site = site; next = next; failed = not usable; grouped = g; sessions = sessions }

pub same_parts : (s t : Site) (u v : Bool) (next : ℕ) (g : Bool) (ss ts : List (ℕ × world.Phase)) → s ≡ t → u ≡ v → ss ≡ ts → world_by_parts s u next g ss ≡ world_by_parts t v next g ts
same_parts s t u v next g ss ts site flags all_sessions = cc (site, flags, all_sessions)

-- ---- faults

-- a fault for lack of room, of an event that is no flush
comes_full : (w : World) (e : Event) (need free : ℕ) → is_flush e ≡ false → has_changes w e ≡ true → may_come w e (hub.Full need free) ≡ true
comes_full w Join need free other some = some
comes_full w (Bytes id piece now) need free other some = some
comes_full w (End id now) need free other some = some
comes_full w (Draw id room) need free other some = some
comes_full w (Leave id) need free other some = some
comes_full w (Admin change now) need free other some = some
comes_full w Flush need free other some = absurd (cc other)

comes_deep : (w : World) (e : Event) → is_flush e ≡ false → has_changes w e ≡ true → may_come w e hub.Deep ≡ true
comes_deep w Join other some = some
comes_deep w (Bytes id piece now) other some = some
comes_deep w (End id now) other some = some
comes_deep w (Draw id room) other some = some
comes_deep w (Leave id) other some = some
comes_deep w (Admin change now) other some = some
comes_deep w Flush other some = absurd (cc other)

-- what a keeper lacks, it lacks of changes
pub only_changes : (lacks : Changes → SiteFault → Type 0) (changes : Changes) (what : SiteFault) → IsKeeperLacking lacks changes what → nat_lt 0 (length changes) ≡ true
only_changes lacks [] what is = absurd is
only_changes lacks (c ∷ changes) what is = lt-ltb 0 (length (c ∷ changes)) (omega arith)

-- a fault that leaves the site and the sessions, or marks a first failure
pub post_fault : (a b : SiteState) (lacks : Changes → SiteFault → Type 0) (next : ℕ) (g : Bool) (old new : List (ℕ × world.Phase)) (e : Event) (changes : Changes) (fault : HubFault) →
    is_flush e ≡ false → (fault ≡ hub.Crowded → ⊥)
    → IsTrue a.honest → a.usable ≡ true → may_work (world_at a next g old) e ≡ true → may_read (world_at a next g old) e ≡ true → changes_in (world_at a next g old) e ≡ changes → new ≡ old → IsPostFault lacks changes a b fault
    → IsFaulty (world_at a next g old) e (Fault fault) (world_at b next g new)
post_fault a b lacks next g old new e changes hub.Memory other room honest usable works reads are all_sessions cause = (works, same_parts b.site a.site b.usable a.usable next g new old (cause.site honest) cause.usable all_sessions)
post_fault a b lacks next g old new e changes hub.Broken other room honest usable works reads are all_sessions cause = (reads, same_parts b.site a.site b.usable a.usable next g new old (cause.0.site honest) cause.0.usable all_sessions)
post_fault a b lacks next g old new e changes (hub.Full need free) other room honest usable works reads are all_sessions cause =
    (comes_full (world_at a next g old) e need free other (ap (λ (l : Changes). nat_lt 0 (length l)) are ∙ only_changes lacks changes (faults.Full need free) (cause.2 honest).0), same_parts b.site a.site b.usable a.usable next g new old (cause.0.site honest) cause.0.usable all_sessions)
post_fault a b lacks next g old new e changes hub.Spent other room honest usable works reads are all_sessions cause =
    (ap (λ (l : Changes). nat_lt 0 (length l)) are ∙ only_changes lacks changes faults.Spent (cause.1 honest), same_parts b.site a.site b.usable a.usable next g new old (cause.0.site honest) cause.0.usable all_sessions)
post_fault a b lacks next g old new e changes hub.Deep other room honest usable works reads are all_sessions cause =
    (comes_deep (world_at a next g old) e other (ap (λ (l : Changes). nat_lt 0 (length l)) are ∙ only_changes lacks changes faults.Deep (cause.1 honest).0), same_parts b.site a.site b.usable a.usable next g new old (cause.0.site honest) cause.0.usable all_sessions)
post_fault a b lacks next g old new e changes hub.Failed other room honest usable works reads are all_sessions cause =
    (ap (λ (l : Changes). nat_lt 0 (length l)) are ∙ cause.change honest, same_parts b.site a.site b.usable false next g new old (cause.site honest) cause.shut all_sessions)
post_fault a b lacks next g old new e changes hub.Crowded other room honest usable works reads are all_sessions cause = absurd (room refl)
post_fault a b lacks next g old new e changes hub.Unknown other room honest usable works reads are all_sessions cause = absurd cause
post_fault a b lacks next g old new e changes (hub.Refused r) other room honest usable works reads are all_sessions cause = absurd cause
post_fault a b lacks next g old new e changes hub.NotReady other room honest usable works reads are all_sessions cause = absurd cause

-- ---- sessions

-- no session has the number
pub unknown : (k : SiteState) (next : ℕ) (g : Bool) (all_sessions : List (ℕ × world.Phase)) (id : ℕ) (e : Event) (f : world.Phase → StepResult) → k.usable ≡ true → phase_in all_sessions id ≡ None
    → answer (world_at k next g all_sessions) e ≡ at_session (world_at k next g all_sessions) id f (phase_in all_sessions id)
    → IsAnswer (world_at k next g all_sessions) e (Fault hub.Unknown) (world_at k next g all_sessions)
unknown k next g all_sessions id e f usable nobody asks =
    let w = world_at k next g all_sessions in
    is_answer w e (then_is (Fault hub.Unknown) w) (Fault hub.Unknown) w (is_open k next g all_sessions usable) (asks ∙ ap (at_session w id f) nobody) refl refl

-- the same of a session that should hear something
pub unheard : (k : SiteState) (next : ℕ) (g : Bool) (all_sessions : List (ℕ × world.Phase)) (id now : ℕ) (e : Event) (f : world.Phase → StepResult) → k.usable ≡ true → phase_in all_sessions id ≡ None
    → answer (world_at k next g all_sessions) e ≡ at_hearing (world_at k next g all_sessions) id now f (phase_in all_sessions id)
    → IsAnswer (world_at k next g all_sessions) e (Fault hub.Unknown) (world_at k next g all_sessions)
unheard k next g all_sessions id now e f usable nobody asks =
    let w = world_at k next g all_sessions in
    is_answer w e (then_is (Fault hub.Unknown) w) (Fault hub.Unknown) w (is_open k next g all_sessions usable) (asks ∙ ap (at_hearing w id now f) nobody) refl refl

-- a session draws
drawn_well : (a b : SiteState) (next : ℕ) (g : Bool) (old new : List (ℕ × world.Phase)) (id room : ℕ) (p q : world.Phase) (o : Outcome) → a.usable ≡ true → b.site ≡ a.site → b.usable ≡ a.usable → phase_in old id ≡ Some p → new ≡ world.moved_in old id q
    → o ≡ (draws room p).outcome → q ≡ (draws room p).phase
    → Step (world_at a next g old) (Draw id room) o (world_at b next g new)
drawn_well a b next g old new id room p q o usable site flags there seen outcome moved =
    let w = world_at a next g old in
    let after : world_at b next g new ≡ world.with_phase w id (draws room p).phase = same_parts b.site a.site b.usable a.usable next g _ _ site flags (seen ∙ ap (world.moved_in old id) moved) in
    answered_by w.failed w (Draw id room) o _ (is_answer w (Draw id room) _ o _ (is_open a next g old usable) (ap (at_session w id (draws room)) there) outcome after)

not_ready : (room : ℕ) (p : world.Phase) → has_no_reply p ≡ true → draws room p ≡ says (Fault hub.NotReady) p
not_ready room (world.Heard stream) none = refl
not_ready room (world.Waits request since) none = refl
not_ready room (world.Reply rest) none = absurd (cc none)
not_ready room world.Early none = absurd (cc none)

draw_fault : (a b : SiteState) (next : ℕ) (g : Bool) (old new : List (ℕ × world.Phase)) (id room : ℕ) (p q : world.Phase) (fault : HubFault) → IsTrue a.honest → a.usable ≡ true → b.site ≡ a.site → b.usable ≡ a.usable → phase_in old id ≡ Some p → new ≡ world.moved_in old id q
    → world.moved_in old id p ≡ old → q ≡ p → IsDrawFault a b p fault
    → Step (world_at a next g old) (Draw id room) (Fault fault) (world_at b next g new)
draw_fault a b next g old new id room p q hub.NotReady honest usable site flags there seen stays same is =
    let says_so = not_ready room p is in
    drawn_well a b next g old new id room p q (Fault hub.NotReady) usable site flags there seen (ap (λ (r : StepResult). r.outcome) (sym says_so)) (same ∙ ap (λ (r : StepResult). r.phase) (sym says_so))
draw_fault a b next g old new id room p q hub.Broken honest usable site flags there seen stays same is =
    let w = world_at a next g old in
    faulty_by w.failed w (Draw id room) (Fault hub.Broken) _ (is_open a next g old usable) (ap has_bytes_left there ∙ (is honest).0, same_parts b.site a.site b.usable a.usable next g new old site flags (seen ∙ ap (world.moved_in old id) same ∙ stays))
draw_fault a b next g old new id room p q hub.Unknown honest usable site flags there seen stays same is = absurd is
draw_fault a b next g old new id room p q hub.Crowded honest usable site flags there seen stays same is = absurd is
draw_fault a b next g old new id room p q hub.Spent honest usable site flags there seen stays same is = absurd is
draw_fault a b next g old new id room p q hub.Deep honest usable site flags there seen stays same is = absurd is
draw_fault a b next g old new id room p q (hub.Refused r) honest usable site flags there seen stays same is = absurd is
draw_fault a b next g old new id room p q (hub.Full need free) honest usable site flags there seen stays same is = absurd is
draw_fault a b next g old new id room p q hub.Failed honest usable site flags there seen stays same is = absurd is
draw_fault a b next g old new id room p q hub.Memory honest usable site flags there seen stays same is = absurd is

pub draws_so : (a b : SiteState) (next : ℕ) (g : Bool) (old new : List (ℕ × world.Phase)) (id : ℕ) (buffer out : List ℕ) (p q : world.Phase) (result : Result Drawn HubFault) → IsTrue a.honest → a.usable ≡ true → b.site ≡ a.site → b.usable ≡ a.usable
    → phase_in old id ≡ Some p → new ≡ world.moved_in old id q → world.moved_in old id p ≡ old
    → IfOk result (λ drawn. drawn_outcome drawn out ≡ (draws (length buffer) p).outcome) → OnOk result (q ≡ (draws (length buffer) p).phase) → OnErr result (q ≡ p) → IfErr result (IsDrawFault a b p)
    → Step (world_at a next g old) (Draw id (length buffer)) (draw_outcome result out) (world_at b next g new)
draws_so a b next g old new id buffer out p q (Ok d) honest usable site flags there seen stays outcome moved same is = drawn_well a b next g old new id (length buffer) p q (drawn_outcome d out) usable site flags there seen outcome moved
draws_so a b next g old new id buffer out p q (Err fault) honest usable site flags there seen stays outcome moved same is = draw_fault a b next g old new id (length buffer) p q fault honest usable site flags there seen stays same is

-- the sessions stay where one of them could not be answered
pub all_sessions_stay : {T : Type 0} (old new : List (ℕ × world.Phase)) (id : ℕ) (p q : world.Phase) (result : Result T HubFault) → new ≡ world.moved_in old id q → world.moved_in old id p ≡ old
    → OnErr result (q ≡ p) → OnErr result (new ≡ old)
all_sessions_stay old new id p q (Ok _) seen stays same = tt
all_sessions_stay old new id p q (Err _) seen stays same = seen ∙ ap (world.moved_in old id) same ∙ stays

-- ---- joining and leaving

pub leaves : (a b : SiteState) (next : ℕ) (g : Bool) (old new : List (ℕ × world.Phase)) (id : ℕ) (p : world.Phase) → b.site ≡ a.site → b.usable ≡ a.usable → phase_in old id ≡ Some p → new ≡ world.others_in old id
    → IsAnswer (world_at a next g old) (Leave id) Gone (world_at b next g new)
leaves a b next g old new id p site flags there seen =
    let w = world_at a next g old in
    let next_is : Next = then_is Gone (world.without_session w id) in
    let asks : left w id (phase_in old id) ≡ next_is = ap (left w id) there in
    either_way w (Leave id) next_is Gone _ asks asks refl (same_parts b.site a.site b.usable a.usable next g _ _ site flags seen)

pub nobody_leaves : (k : SiteState) (next : ℕ) (g : Bool) (all_sessions : List (ℕ × world.Phase)) (id : ℕ) → phase_in all_sessions id ≡ None
    → IsAnswer (world_at k next g all_sessions) (Leave id) (Fault hub.Unknown) (world_at k next g all_sessions)
nobody_leaves k next g all_sessions id nobody =
    let w = world_at k next g all_sessions in
    let asks : left w id (phase_in all_sessions id) ≡ then_is (Fault hub.Unknown) w = ap (left w id) nobody in
    either_way w (Leave id) (then_is (Fault hub.Unknown) w) (Fault hub.Unknown) w asks asks refl refl

pub crowded : (k : SiteState) (next : ℕ) (g : Bool) (all_sessions : List (ℕ × world.Phase)) → k.usable ≡ true → 32 ≤ length all_sessions
    → IsAnswer (world_at k next g all_sessions) Join (Fault hub.Crowded) (world_at k next g all_sessions)
crowded k next g all_sessions usable full =
    let w = world_at k next g all_sessions in
    is_answer w Join (then_is (Fault hub.Crowded) w) (Fault hub.Crowded) w (is_open k next g all_sessions usable) (joined_crowded w full) refl refl

pub spent : (k : SiteState) (next : ℕ) (g : Bool) (all_sessions : List (ℕ × world.Phase)) → k.usable ≡ true → length all_sessions < 32 → next ≡ 2 ^ 64 - 1
    → IsAnswer (world_at k next g all_sessions) Join (Fault hub.Spent) (world_at k next g all_sessions)
spent k next g all_sessions usable room is =
    let w = world_at k next g all_sessions in
    is_answer w Join (then_is (Fault hub.Spent) w) (Fault hub.Spent) w (is_open k next g all_sessions usable) (joined_spent w room is) refl refl

pub joins : (k : SiteState) (next : ℕ) (g : Bool) (old new : List (ℕ × world.Phase)) → k.usable ≡ true → length old < 32 → (next ≡ 2 ^ 64 - 1 → ⊥) → new ≡ old ++ (next, world.Heard []) ∷ []
    → IsAnswer (world_at k next g old) Join (Joined next) (world_at k (next + 1) g new)
joins k next g old new usable room less pushed =
    let w = world_at k next g old in
    is_answer w Join _ (Joined next) _ (is_open k next g old usable) (joined_well w room less) refl (ap (world_at k (next + 1) g) pushed)

-- ---- what a step says besides

-- a draw of a reply gives nothing only where a read failed
pub draw_breaks : (a b : SiteState) (rest : List ℕ) (result : Result Drawn HubFault) → IsTrue a.honest → IfErr result (IsDrawFault a b (world.Reply rest)) → IfErr result (λ e. (e ≡ hub.Broken) × Rose a.failed_reads b.failed_reads)
draw_breaks a b rest (Ok d) honest is = tt
draw_breaks a b rest (Err hub.Broken) honest is = (refl, (is honest).1)
draw_breaks a b rest (Err hub.NotReady) honest is = absurd (cc is)
draw_breaks a b rest (Err hub.Unknown) honest is = absurd is
draw_breaks a b rest (Err hub.Crowded) honest is = absurd is
draw_breaks a b rest (Err hub.Spent) honest is = absurd is
draw_breaks a b rest (Err hub.Deep) honest is = absurd is
draw_breaks a b rest (Err (hub.Refused r)) honest is = absurd is
draw_breaks a b rest (Err (hub.Full need free)) honest is = absurd is
draw_breaks a b rest (Err hub.Failed) honest is = absurd is
draw_breaks a b rest (Err hub.Memory) honest is = absurd is

-- a session is in one phase
pub same_phase : (o : Option world.Phase) (p q : world.Phase) → o ≡ Some p → o ≡ Some q → p ≡ q
same_phase o p q is also = let same : Some p ≡ Some q = sym is ∙ also in cc same

-- what was begun of a reply, by where the session is
pub begun_at : {T : Type 0} (honest : Bool) (o : Option world.Phase) (p : world.Phase) (old new : List ℕ) (result : Result T HubFault) → o ≡ Some p → OnErr result (DrawHasBegun honest p old new)
    → OnErr result ((rest : List ℕ) → o ≡ Some (world.Reply rest) → DrawHasBegun honest (world.Reply rest) old new)
begun_at honest o p old new (Ok _) there is = tt
begun_at honest o p old new (Err fault) there is = λ rest has. subst (λ (q : world.Phase). DrawHasBegun honest q old new) (same_phase o p (world.Reply rest) there has) is
