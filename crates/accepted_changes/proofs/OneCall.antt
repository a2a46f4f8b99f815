-- What one call of a run stores: its changes are all right on the site that they find.
use Rattle.std.proofs.Common.{◌≡◌, ◌⊎◌, inl, inr, ◌≤◌, ℕ, zero, suc, Bool, true, false, List, [], ◌∷◌, ◌++◌, length, take, drop, refl, sym, ap, subst, ◌∙◌, arith, append_assoc, if◌then◌else◌}
use Rattle.std.specs.Prelude.{Option, Some, None, Result, Ok, Err, IsOk}
use Rattle.std.proofs.lemmas.Bool.{cases_Bool}
use Rattle.std.proofs.lemmas.List.{append-nil, take-append-drop}
use Rattle.common_types.specs.declared.refused.Refused.{Refused}
use Rattle.host_types.specs.Site.{Site}
use Rattle.host_types.specs.Change.{apply}
use Rattle.host_types.specs.AllChanges.{Changes}
use Rattle.host_types.specs.declared.change.Change.{Change}
use Rattle.request_reader.specs.Request.{Request}
use Rattle.request_reader.specs.Verdict.{Verdict, Open, Early as EndedEarly, Whole, Bad, verdict}
use Rattle.site_replies.specs.Reply.{WholeAnswer, reply}
use Rattle.site_replies.specs.PostReply.{IsRight}
use Rattle.site_replies.proofs.StoredPosts.{reply_right}
use Rattle.group_world.specs.World.{World, Phase, Heard, Waits, Reply, Early, phase_of}
use Rattle.group_world.specs.Step.{StepResult, waits_or, settles, understood, listens, ends, made_or, at_moment, post_from, site_from, without_forms, taken, all_of, flushed_by}
use Rattle.group_world.specs.Run.{post_in, valid_one, changes_in}
use Rattle.group_world.specs.Laws.{all_made, and_more}
use Rattle.group_world.specs.CrashStates.{Stored, with_changes, in_one_step, one_by_one, changes_at, stored_whole, stored_singly, IsInTurn, IsStored}
use Rattle.group_world.specs.declared.event.Event.{Event}
use Rattle.group_world.specs.declared.event.Event.TheVariants.{Join, Bytes, End, Draw, Leave, Admin, Flush}
use Rattle.group_world.specs.declared.event.Outcome.{Outcome}
use Rattle.group_world.specs.declared.event.Outcome.TheVariants.{Joined, More, Ready, Finished, Waiting, Drawn, Gone, Done, Flushed, Fault}
use Rattle.group_world.specs.declared.fault.HubFault.TheVariants as hub
use Rattle.group_world.proofs.Groups.{groups_are_right}
use Rattle.group_world.proofs.Stored.{whole_of, whole_is}
use Rattle.accepted_changes.specs.Accepted.{changes_of}
use Rattle.accepted_changes.proofs.Commits.{AreRight, are_right, first_are_right, changes_of_both, changes_in_one_step, changes_one_by_one}

-- ---- the changes of an event

one_is_right : (s : Site) (now : ℕ) (post : Option Change) → IsRight s now post → AreRight s (at_moment now post)
one_is_right s now None right = refl
one_is_right s now (Some change) right = by (apply s change now) right
  where
    by : (r : Result Site Refused) → IsOk r → and_more (λ t. all_made t []) r ≡ Some (with_changes (made_or s r) [])
    by (Ok t) ok = refl
    by (Err refused) ok = absurd (cc ok)

waits_right : (s : Site) (request : Request) (now : ℕ) (a : WholeAnswer) (post : Option Change) → IsRight s now a.post → IsRight s now (waits_or request now a post).post
waits_right s request now a None right = right
waits_right s request now a (Some post) right = tt

settles_right : (grouped : Bool) (s : Site) (request : Request) (now : ℕ) (a : WholeAnswer) → IsRight s now a.post → IsRight s now (settles grouped request now a).post
settles_right true s request now a right = waits_right s request now a a.post right
settles_right false s request now a right = right

understood_right : (grouped : Bool) (s : Site) (now : ℕ) (stream : List ℕ) (v : Verdict) → IsRight s now (understood grouped s now stream v).post
understood_right grouped s now stream Open = tt
understood_right grouped s now stream EndedEarly = tt
understood_right grouped s now stream (Whole request) = settles_right grouped s request now (reply s request now) (reply_right s request now)
understood_right grouped s now stream (Bad cause) = tt

listens_right : (grouped : Bool) (s : Site) (now : ℕ) (piece : List ℕ) (p : Phase) → IsRight s now (listens grouped s now piece p).post
listens_right grouped s now piece (Heard stream) = understood_right grouped s now (stream ++ piece) (verdict (stream ++ piece) false)
listens_right grouped s now piece (Waits request at) = tt
listens_right grouped s now piece (Reply rest) = tt
listens_right grouped s now piece Early = tt

ends_right : (grouped : Bool) (s : Site) (now : ℕ) (p : Phase) → IsRight s now (ends grouped s now p).post
ends_right grouped s now (Heard stream) = understood_right grouped s now stream (verdict stream true)
ends_right grouped s now (Waits request at) = tt
ends_right grouped s now (Reply rest) = tt
ends_right grouped s now Early = tt

post_right : (s : Site) (now : ℕ) (o : Option Phase) (f : Phase → StepResult) → ((p : Phase) → IsRight s now (f p).post) → AreRight s (post_in o now f)
post_right s now None f right = refl
post_right s now (Some p) f right = one_is_right s now (f p).post (right p)

valid_right : (s : Site) (change : Change) (now : ℕ) (r : Result Site Refused) → apply s change now ≡ r → AreRight s (valid_one change now r)
valid_right s change now (Ok t) is = rw is refl
valid_right s change now (Err refused) is = refl

event_right : (w : World) (e : Event) → AreRight w.site (changes_in w e)
event_right w Join = refl
event_right w (Bytes id piece now) = post_right w.site now (phase_of w id) (listens w.grouped w.site now piece) (listens_right w.grouped w.site now piece)
event_right w (End id now) = post_right w.site now (phase_of w id) (ends w.grouped w.site now) (ends_right w.grouped w.site now)
event_right w (Draw id room) = refl
event_right w (Leave id) = refl
event_right w (Admin change now) = valid_right w.site change now (apply w.site change now) refl
event_right w Flush = (let g = flushed_by w (all_of w.sessions) in are_right w.site g.site g.changes (groups_are_right w.site (all_of w.sessions) (without_forms w.site w.sessions)))

at_right : (w : World) (e : Event) → AreRight w.site (changes_at w e)
at_right w e = elim (cases_Bool w.failed) [ inl failed ↦ rw failed refl | inr usable ↦ rw usable (event_right w e) ]

-- ---- stored in one step

abbrev all_of_them : Stored → Changes
all_of_them stored = changes_of (stored.commits ++ stored.flying)

sure_ones : (s : Site) (changes : Changes) → AreRight s changes → AreRight s (all_of_them (record { commits = in_one_step changes; flying = [] }))
sure_ones s changes right = subst (AreRight s) (sym (ap changes_of (append-nil (in_one_step changes)) ∙ changes_in_one_step changes)) right

whole_right : (s : Site) (changes : Changes) (o : Outcome) → AreRight s changes → AreRight s (all_of_them (whole_of changes o))
whole_right s changes (Fault hub.Failed) right = subst (AreRight s) (sym (changes_in_one_step changes)) right
whole_right s changes (Fault hub.Unknown) right = refl
whole_right s changes (Fault hub.Crowded) right = refl
whole_right s changes (Fault hub.Spent) right = refl
whole_right s changes (Fault hub.Deep) right = refl
whole_right s changes (Fault (hub.Refused r)) right = refl
whole_right s changes (Fault (hub.Full need free)) right = refl
whole_right s changes (Fault hub.Broken) right = refl
whole_right s changes (Fault hub.Memory) right = refl
whole_right s changes (Fault hub.NotReady) right = refl
whole_right s changes (Joined k) right = sure_ones s changes right
whole_right s changes More right = sure_ones s changes right
whole_right s changes Ready right = sure_ones s changes right
whole_right s changes Finished right = sure_ones s changes right
whole_right s changes Waiting right = sure_ones s changes right
whole_right s changes (Drawn bytes) right = sure_ones s changes right
whole_right s changes Gone right = sure_ones s changes right
whole_right s changes Done right = sure_ones s changes right
whole_right s changes (Flushed answered left) right = sure_ones s changes right

-- ---- one post at a time

drop_front : (a b : Changes) → drop (length a) (a ++ b) ≡ b
drop_front [] b = refl
drop_front (c ∷ a) b = drop_front a b

-- one choice more adds changes behind
choice_more : (s : Site) (choices : List Bool) (sessions : List (ℕ × Phase)) → (more : Changes) × ((taken s (choices ++ true ∷ []) sessions).changes ≡ (taken s choices sessions).changes ++ more)
choice_more s [] [] = ([], refl)
choice_more s [] (x ∷ sessions) = (post_from s x.1 ++ [], refl)
choice_more s (takes ∷ choices) [] = ([], refl)
choice_more s (true ∷ choices) (x ∷ sessions) = (let rest = choice_more (site_from s x.1) choices sessions in (rest.0, ap (λ (l : Changes). post_from s x.1 ++ l) rest.1 ∙ sym (append_assoc (post_from s x.1) (taken (site_from s x.1) choices sessions).changes rest.0)))
choice_more s (false ∷ choices) (x ∷ sessions) = choice_more s choices sessions

-- those that were made, and the next
next_right : (w : World) (choices : List Bool) → (let a = (flushed_by w choices).changes in AreRight w.site (a ++ take 1 (drop (length a) (flushed_by w (choices ++ true ∷ [])).changes)))
next_right w choices =
    let sessions = without_forms w.site w.sessions in
    let a = (flushed_by w choices).changes in
    let all = (flushed_by w (choices ++ true ∷ [])).changes in
    let further = choice_more w.site choices sessions in
    let more = further.0 in
    let behind : drop (length a) all ≡ more = ap (drop (length a)) further.1 ∙ drop_front a more in
    let parts : all ≡ (a ++ take 1 more) ++ drop 1 more = further.1 ∙ ap (λ (l : Changes). a ++ l) (sym (take-append-drop 1 more)) ∙ sym (append_assoc a (take 1 more) (drop 1 more)) in
    subst (λ (l : Changes). AreRight w.site (a ++ take 1 l)) (sym behind)
    (first_are_right w.site (flushed_by w (choices ++ true ∷ [])).site (a ++ take 1 more) (drop 1 more) (ap (all_made w.site) (sym parts) ∙ groups_are_right w.site (choices ++ true ∷ []) sessions))

abbrev SinglyRight : World → List Bool → Outcome → Type 0
SinglyRight w choices o = AreRight w.site (all_of_them (stored_singly w choices o))

sure_singly : (w : World) (choices : List Bool) → AreRight w.site (all_of_them (record { commits = one_by_one (flushed_by w choices).changes; flying = [] }))
sure_singly w choices =
    let g = flushed_by w choices in
    subst (AreRight w.site) (sym (ap changes_of (append-nil (one_by_one g.changes)) ∙ changes_one_by_one g.changes)) (are_right w.site g.site g.changes (groups_are_right w.site choices (without_forms w.site w.sessions)))

singly_right : (w : World) (choices : List Bool) (o : Outcome) → SinglyRight w choices o
singly_right w choices (Fault fault) =
    let a = (flushed_by w choices).changes in
    let b = take 1 (drop (length a) (flushed_by w (choices ++ true ∷ [])).changes) in
    let same : changes_of (one_by_one a ++ one_by_one b) ≡ a ++ b = changes_of_both (one_by_one a) (one_by_one b) ∙ ap (λ (l : Changes). l ++ changes_of (one_by_one b)) (changes_one_by_one a) ∙ ap (λ (l : Changes). a ++ l) (changes_one_by_one b) in
    subst (AreRight w.site) (sym same) (next_right w choices)
singly_right w choices (Joined k) = sure_singly w choices
singly_right w choices More = sure_singly w choices
singly_right w choices Ready = sure_singly w choices
singly_right w choices Finished = sure_singly w choices
singly_right w choices Waiting = sure_singly w choices
singly_right w choices (Drawn bytes) = sure_singly w choices
singly_right w choices Gone = sure_singly w choices
singly_right w choices Done = sure_singly w choices
singly_right w choices (Flushed answered left) = sure_singly w choices

-- ---- whatever a call stores

pub stored_right : (split : Type 0) (w : World) (e : Event) (o : Outcome) (v : World) (stored : Stored) → IsStored split w e o v stored → AreRight w.site (changes_of (stored.commits ++ stored.flying))
stored_right split w e o v stored (inl (how, same)) = rw (same, whole_is w e o) (whole_right w.site (changes_at w e) o (at_right w e))
stored_right split w e o v stored (inr (usable, why, (choices, how, same))) = rw same (singly_right w choices o)

-- at most one commit is in flight
one_in_flight : (changes : Changes) → length (in_one_step changes) ≤ 1
one_in_flight [] = omega arith
one_in_flight (c ∷ changes) = omega arith

whole_flies : (changes : Changes) (o : Outcome) → length (whole_of changes o).flying ≤ 1
whole_flies changes (Fault hub.Failed) = one_in_flight changes
whole_flies changes (Fault hub.Unknown) = omega arith
whole_flies changes (Fault hub.Crowded) = omega arith
whole_flies changes (Fault hub.Spent) = omega arith
whole_flies changes (Fault hub.Deep) = omega arith
whole_flies changes (Fault (hub.Refused r)) = omega arith
whole_flies changes (Fault (hub.Full need free)) = omega arith
whole_flies changes (Fault hub.Broken) = omega arith
whole_flies changes (Fault hub.Memory) = omega arith
whole_flies changes (Fault hub.NotReady) = omega arith
whole_flies changes (Joined k) = omega arith
whole_flies changes More = omega arith
whole_flies changes Ready = omega arith
whole_flies changes Finished = omega arith
whole_flies changes Waiting = omega arith
whole_flies changes (Drawn bytes) = omega arith
whole_flies changes Gone = omega arith
whole_flies changes Done = omega arith
whole_flies changes (Flushed answered left) = omega arith

one_next : (changes : Changes) → length (one_by_one (take 1 changes)) ≤ 1
one_next [] = omega arith
one_next (c ∷ changes) = omega arith

singly_flies : (w : World) (choices : List Bool) (o : Outcome) → length (stored_singly w choices o).flying ≤ 1
singly_flies w choices (Fault fault) = one_next (drop (length (flushed_by w choices).changes) (flushed_by w (choices ++ true ∷ [])).changes)
singly_flies w choices (Joined k) = omega arith
singly_flies w choices More = omega arith
singly_flies w choices Ready = omega arith
singly_flies w choices Finished = omega arith
singly_flies w choices Waiting = omega arith
singly_flies w choices (Drawn bytes) = omega arith
singly_flies w choices Gone = omega arith
singly_flies w choices Done = omega arith
singly_flies w choices (Flushed answered left) = omega arith

pub stored_flies : (split : Type 0) (w : World) (e : Event) (o : Outcome) (v : World) (stored : Stored) → IsStored split w e o v stored → length stored.flying ≤ 1
stored_flies split w e o v stored (inl (how, same)) = rw (same, whole_is w e o) (whole_flies (changes_at w e) o)
stored_flies split w e o v stored (inr (usable, why, (choices, how, same))) = rw same (singly_flies w choices o)
