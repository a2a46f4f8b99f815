-- What an event stores makes the site behind it.
use Rattle.std.proofs.Common.{◌≡◌, ◌⊎◌, inl, inr, ℕ, ◌-◌, ◌^◌, ◌==◌, Bool, true, false, List, [], ◌∷◌, ◌++◌, length, nat_le, refl, sym, ap, ◌∙◌, if◌then◌else◌}
use Rattle.std.specs.Prelude.{Option, Some, None, Result, Ok, Err}
use Rattle.std.proofs.lemmas.Bool.{cases_Bool}
use Rattle.host_types.specs.Site.{Site}
use Rattle.host_types.specs.Change.{apply}
use Rattle.host_types.specs.declared.change.Change.{Change}
use Rattle.common_types.specs.declared.refused.Refused.{Refused}
use Rattle.request_reader.specs.Request.{Request}
use Rattle.request_reader.specs.Verdict.{Verdict, Open, Early as EndedEarly, Whole, Bad, verdict}
use Rattle.site_replies.specs.Reply.{WholeAnswer, reply}
use Rattle.group_world.specs.declared.fault.HubFault.{HubFault}
use Rattle.group_world.specs.declared.fault.HubFault.TheVariants as hub
use Rattle.group_world.specs.World.{World, Phase, Heard, Waits, Reply, Early, phase_of, count_waiting}
use Rattle.group_world.specs.Step.{Changes, StepResult, Next, made_or, with_change, at_moment, most_waiting, waits_or, settles, understood, settled, listens, ends, draws, at_session, at_hearing, joined, left, changed, answer, failed_answer, without_forms, flushed_by, all_of}
use Rattle.group_world.specs.declared.event.Event.{Event}
use Rattle.group_world.specs.declared.event.Event.TheVariants.{Join, Bytes, End, Draw, Leave, Admin, Flush}
use Rattle.group_world.specs.declared.event.Outcome.{Outcome}
use Rattle.group_world.specs.declared.event.Outcome.TheVariants.{Joined, More, Ready, Finished, Waiting, Drawn, Gone, Done, Flushed, Fault}
use Rattle.group_world.specs.Run.{post_in, valid_one, changes_in, IsAnswer, IsFaulty, IsTakenSingly}
use Rattle.group_world.specs.Laws.{all_made, and_more}
use Rattle.group_world.specs.CrashStates.{with_changes, with_commits, Stored, in_one_step, one_by_one, changes_at, stored_whole, stored_singly, IsInTurn, IsRightlyStored, WhatIsStoredIsRight}
use Rattle.group_world.proofs.Groups.{groups_are_right}
use Rattle.group_world.proofs.Continuing.{split_stays}

-- ---- commits and changes

pub one_step_makes : (s : Site) (changes : Changes) → with_commits s (in_one_step changes) ≡ with_changes s changes
one_step_makes s [] = refl
one_step_makes s (c ∷ changes) = refl

pub singles_make : (s : Site) (changes : Changes) → with_commits s (one_by_one changes) ≡ with_changes s changes
singles_make s [] = refl
singles_make s (c ∷ changes) = singles_make (made_or s (apply s c.0 c.1)) changes

-- changes that are all right make what they make
pub right_make : (s t : Site) (changes : Changes) → all_made s changes ≡ Some t → with_changes s changes ≡ t
right_make s t [] is = cc is
right_make s t (c ∷ changes) is = by (λ v made. right_make v t changes made) (apply s c.0 c.1) is
  where
    by : ((v : Site) → all_made v changes ≡ Some t → with_changes v changes ≡ t) → (r : Result Site Refused) → and_more (λ v. all_made v changes) r ≡ Some t → with_changes (made_or s r) changes ≡ t
    by more (Ok v) made = more v made
    by more (Err refused) made = absurd (cc made)

group_makes : (w : World) (choices : List Bool) → with_changes w.site (flushed_by w choices).changes ≡ (flushed_by w choices).site
group_makes w choices = right_make w.site (flushed_by w choices).site (flushed_by w choices).changes (groups_are_right w.site choices (without_forms w.site w.sessions))

-- ---- an answer makes the changes of its event

abbrev Makes : Site → Changes → Next → Type 0
Makes s changes next = next.world.site ≡ with_changes s changes

pub at_moment_makes : (s : Site) (now : ℕ) (post : Option Change) → with_change s now post ≡ with_changes s (at_moment now post)
at_moment_makes s now None = refl
at_moment_makes s now (Some change) = refl

-- one that comes to wait makes none
settled_makes : (w : World) (id now : ℕ) (r : StepResult) (next : Phase) → r.phase ≡ next → ((request : Request) (since : ℕ) → r.phase ≡ Waits request since → r.post ≡ None) → Makes w.site (at_moment now r.post) (settled w id now r next)
settled_makes w id now r (Heard stream) same none = at_moment_makes w.site now r.post
settled_makes w id now r (Reply rest) same none = at_moment_makes w.site now r.post
settled_makes w id now r Early same none = at_moment_makes w.site now r.post
settled_makes w id now r (Waits request since) same none =
    let nothing : with_changes w.site (at_moment now r.post) ≡ w.site = ap (λ (p : Option Change). with_changes w.site (at_moment now p)) (none request since same) in
    elim (cases_Bool (nat_le most_waiting (count_waiting w.sessions))) [ inl full ↦ rw full (sym nothing) | inr room ↦ rw room (sym nothing) ]

waits_none : (request : Request) (now : ℕ) (a : WholeAnswer) (post : Option Change) (r : Request) (since : ℕ) → (waits_or request now a post).phase ≡ Waits r since → (waits_or request now a post).post ≡ None
waits_none request now a None r since is = absurd (cc is)
waits_none request now a (Some post) r since is = refl

settles_none : (grouped : Bool) (request : Request) (now : ℕ) (a : WholeAnswer) (r : Request) (since : ℕ) → (settles grouped request now a).phase ≡ Waits r since → (settles grouped request now a).post ≡ None
settles_none true request now a r since is = waits_none request now a a.post r since is
settles_none false request now a r since is = absurd (cc is)

pub understood_none : (grouped : Bool) (site : Site) (now : ℕ) (stream : List ℕ) (v : Verdict) (r : Request) (since : ℕ) → (understood grouped site now stream v).phase ≡ Waits r since → (understood grouped site now stream v).post ≡ None
understood_none grouped site now stream Open r since is = refl
understood_none grouped site now stream EndedEarly r since is = refl
understood_none grouped site now stream (Whole request) r since is = settles_none grouped request now (reply site request now) r since is
understood_none grouped site now stream (Bad cause) r since is = refl

hearing_makes : (w : World) (id now : ℕ) (f : Phase → StepResult) (o : Option Phase) → ((stream : List ℕ) (request : Request) (since : ℕ) → (f (Heard stream)).phase ≡ Waits request since → (f (Heard stream)).post ≡ None) → Makes w.site (post_in o now f) (at_hearing w id now f o)
hearing_makes w id now f None none = refl
hearing_makes w id now f (Some (Heard stream)) none = settled_makes w id now (f (Heard stream)) (f (Heard stream)).phase refl (none stream)
hearing_makes w id now f (Some (Waits request since)) none = at_moment_makes w.site now (f (Waits request since)).post
hearing_makes w id now f (Some (Reply rest)) none = at_moment_makes w.site now (f (Reply rest)).post
hearing_makes w id now f (Some Early) none = at_moment_makes w.site now (f Early).post

joined_makes : (w : World) → (joined w).world.site ≡ w.site
unfolding joined
joined_makes w =
    elim (cases_Bool (nat_le 32 (length w.sessions))) [
      | inl full ↦ rw full refl
      | inr room ↦ elim (cases_Bool (w.next == 2 ^ 64 - 1)) [ inl last ↦ rw (room, last) refl | inr less ↦ rw (room, less) refl ]
    ]

session_makes : (w : World) (id : ℕ) (f : Phase → StepResult) (o : Option Phase) → (at_session w id f o).world.site ≡ w.site
session_makes w id f None = refl
session_makes w id f (Some p) = refl

left_makes : (w : World) (id : ℕ) (o : Option Phase) → (left w id o).world.site ≡ w.site
left_makes w id None = refl
left_makes w id (Some p) = refl

changed_makes : (w : World) (change : Change) (now : ℕ) (r : Result Site Refused) → apply w.site change now ≡ r → Makes w.site (valid_one change now r) (changed w r)
changed_makes w change now (Ok site) is = sym (ap (made_or w.site) is)
changed_makes w change now (Err refused) is = refl

answer_makes : (w : World) (e : Event) → Makes w.site (changes_in w e) (answer w e)
answer_makes w Join = joined_makes w
answer_makes w (Bytes id piece now) = hearing_makes w id now (listens w.grouped w.site now piece) (phase_of w id) (λ stream. understood_none w.grouped w.site now (stream ++ piece) (verdict (stream ++ piece) false))
answer_makes w (End id now) = hearing_makes w id now (ends w.grouped w.site now) (phase_of w id) (λ stream. understood_none w.grouped w.site now stream (verdict stream true))
answer_makes w (Draw id room) = session_makes w id (draws room) (phase_of w id)
answer_makes w (Leave id) = left_makes w id (phase_of w id)
answer_makes w (Admin change now) = changed_makes w change now (apply w.site change now) refl
answer_makes w Flush = sym (group_makes w (all_of w.sessions))

-- ---- an answer that is a fault makes none

abbrev MakesNone : Changes → Next → Type 0
MakesNone changes next = (fault : HubFault) → Fault fault ≡ next.outcome → changes ≡ []

settled_fault : (w : World) (id now : ℕ) (r : StepResult) (next : Phase) → r.phase ≡ next → ((request : Request) (since : ℕ) → r.phase ≡ Waits request since → r.post ≡ None) → ((fault : HubFault) → Fault fault ≡ r.outcome → ⊥) → MakesNone (at_moment now r.post) (settled w id now r next)
settled_fault w id now r (Heard stream) same none never fault is = absurd (never fault is)
settled_fault w id now r (Reply rest) same none never fault is = absurd (never fault is)
settled_fault w id now r Early same none never fault is = absurd (never fault is)
settled_fault w id now r (Waits request since) same none never fault is = ap (at_moment now) (none request since same)

waits_fault : (request : Request) (now : ℕ) (a : WholeAnswer) (post : Option Change) (fault : HubFault) → Fault fault ≡ (waits_or request now a post).outcome → ⊥
waits_fault request now a None fault is = absurd (cc is)
waits_fault request now a (Some post) fault is = absurd (cc is)

settles_fault : (grouped : Bool) (request : Request) (now : ℕ) (a : WholeAnswer) (fault : HubFault) → Fault fault ≡ (settles grouped request now a).outcome → ⊥
settles_fault true request now a fault is = waits_fault request now a a.post fault is
settles_fault false request now a fault is = absurd (cc is)

understood_fault : (grouped : Bool) (site : Site) (now : ℕ) (stream : List ℕ) (v : Verdict) (fault : HubFault) → Fault fault ≡ (understood grouped site now stream v).outcome → ⊥
understood_fault grouped site now stream Open fault is = absurd (cc is)
understood_fault grouped site now stream EndedEarly fault is = absurd (cc is)
understood_fault grouped site now stream (Whole request) fault is = settles_fault grouped request now (reply site request now) fault is
understood_fault grouped site now stream (Bad cause) fault is = absurd (cc is)

hearing_fault : (w : World) (id now : ℕ) (f : Phase → StepResult) (o : Option Phase) → ((stream : List ℕ) (request : Request) (since : ℕ) → (f (Heard stream)).phase ≡ Waits request since → (f (Heard stream)).post ≡ None)
    → ((p : Phase) (fault : HubFault) → Fault fault ≡ (f p).outcome → ⊥) → MakesNone (post_in o now f) (at_hearing w id now f o)
hearing_fault w id now f None none never fault is = refl
hearing_fault w id now f (Some (Heard stream)) none never fault is = settled_fault w id now (f (Heard stream)) (f (Heard stream)).phase refl (none stream) (never (Heard stream)) fault is
hearing_fault w id now f (Some (Waits request since)) none never fault is = absurd (never (Waits request since) fault is)
hearing_fault w id now f (Some (Reply rest)) none never fault is = absurd (never (Reply rest) fault is)
hearing_fault w id now f (Some Early) none never fault is = absurd (never Early fault is)

pub listens_fault : (grouped : Bool) (site : Site) (now : ℕ) (piece : List ℕ) (p : Phase) (fault : HubFault) → Fault fault ≡ (listens grouped site now piece p).outcome → ⊥
listens_fault grouped site now piece (Heard stream) fault is = understood_fault grouped site now (stream ++ piece) (verdict (stream ++ piece) false) fault is
listens_fault grouped site now piece (Waits request since) fault is = absurd (cc is)
listens_fault grouped site now piece (Reply rest) fault is = absurd (cc is)
listens_fault grouped site now piece Early fault is = absurd (cc is)

pub ends_fault : (grouped : Bool) (site : Site) (now : ℕ) (p : Phase) (fault : HubFault) → Fault fault ≡ (ends grouped site now p).outcome → ⊥
ends_fault grouped site now (Heard stream) fault is = understood_fault grouped site now stream (verdict stream true) fault is
ends_fault grouped site now (Waits request since) fault is = absurd (cc is)
ends_fault grouped site now (Reply rest) fault is = absurd (cc is)
ends_fault grouped site now Early fault is = absurd (cc is)

changed_fault : (w : World) (change : Change) (now : ℕ) (r : Result Site Refused) → MakesNone (valid_one change now r) (changed w r)
changed_fault w change now (Ok site) fault is = absurd (cc is)
changed_fault w change now (Err refused) fault is = refl

pub answer_fault : (w : World) (e : Event) → MakesNone (changes_in w e) (answer w e)
answer_fault w Join fault is = refl
answer_fault w (Bytes id piece now) fault is =
    hearing_fault w id now (listens w.grouped w.site now piece) (phase_of w id) (λ stream. understood_none w.grouped w.site now (stream ++ piece) (verdict (stream ++ piece) false)) (listens_fault w.grouped w.site now piece) fault is
answer_fault w (End id now) fault is = hearing_fault w id now (ends w.grouped w.site now) (phase_of w id) (λ stream. understood_none w.grouped w.site now stream (verdict stream true)) (ends_fault w.grouped w.site now) fault is
answer_fault w (Draw id room) fault is = refl
answer_fault w (Leave id) fault is = refl
answer_fault w (Admin change now) fault is = changed_fault w change now (apply w.site change now) fault is
answer_fault w Flush fault is = absurd (cc is)

-- ---- in one step

failed_there : (w : World) (e : Event) → ((failed_answer w e).world.site ≡ w.site) × ((failed_answer w e).world.failed ≡ w.failed)
failed_there w (Leave id) = by (phase_of w id)
  where
    by : (o : Option Phase) → ((left w id o).world.site ≡ w.site) × ((left w id o).world.failed ≡ w.failed)
    by None = (refl, refl)
    by (Some p) = (refl, refl)
failed_there w Join = (refl, refl)
failed_there w (Bytes id piece now) = (refl, refl)
failed_there w (End id now) = (refl, refl)
failed_there w (Draw id room) = (refl, refl)
failed_there w (Admin change now) = (refl, refl)
failed_there w Flush = (refl, refl)

-- what is stored in one step, by the changes of an event
abbrev pub whole_of : Changes → Outcome → Stored
whole_of changes (Fault hub.Failed) = record { commits = []; flying = in_one_step changes }
whole_of changes (Fault fault) = record { commits = []; flying = [] }
whole_of changes outcome = record { commits = in_one_step changes; flying = [] }

pub whole_none : (o : Outcome) → whole_of [] o ≡ record { commits = []; flying = [] }
whole_none (Joined k) = refl
whole_none More = refl
whole_none Ready = refl
whole_none Finished = refl
whole_none Waiting = refl
whole_none (Drawn bytes) = refl
whole_none Gone = refl
whole_none Done = refl
whole_none (Flushed answered left) = refl
whole_none (Fault hub.Failed) = refl
whole_none (Fault hub.Unknown) = refl
whole_none (Fault hub.Crowded) = refl
whole_none (Fault hub.Spent) = refl
whole_none (Fault hub.Deep) = refl
whole_none (Fault (hub.Refused r)) = refl
whole_none (Fault (hub.Full need free)) = refl
whole_none (Fault hub.Broken) = refl
whole_none (Fault hub.Memory) = refl
whole_none (Fault hub.NotReady) = refl

pub whole_is : (w : World) (e : Event) (o : Outcome) → stored_whole w e o ≡ whole_of (changes_at w e) o
whole_is w e (Joined k) = refl
whole_is w e More = refl
whole_is w e Ready = refl
whole_is w e Finished = refl
whole_is w e Waiting = refl
whole_is w e (Drawn bytes) = refl
whole_is w e Gone = refl
whole_is w e Done = refl
whole_is w e (Flushed answered left) = refl
whole_is w e (Fault hub.Failed) = refl
whole_is w e (Fault hub.Unknown) = refl
whole_is w e (Fault hub.Crowded) = refl
whole_is w e (Fault hub.Spent) = refl
whole_is w e (Fault hub.Deep) = refl
whole_is w e (Fault (hub.Refused r)) = refl
whole_is w e (Fault (hub.Full need free)) = refl
whole_is w e (Fault hub.Broken) = refl
whole_is w e (Fault hub.Memory) = refl
whole_is w e (Fault hub.NotReady) = refl

-- a fault acknowledges nothing, and anything else leaves nothing in flight
pub acknowledges : (changes : Changes) (o : Outcome) → ((fault : HubFault) → o ≡ Fault fault → changes ≡ []) → whole_of changes o ≡ record { commits = in_one_step changes; flying = [] }
acknowledges changes (Fault fault) none = ap (λ (l : Changes). whole_of l (Fault fault)) (none fault refl) ∙ whole_none (Fault fault) ∙ sym (ap (λ (l : Changes). let s : Stored = record { commits = in_one_step l; flying = [] } in s) (none fault refl))
acknowledges changes (Joined k) none = refl
acknowledges changes More none = refl
acknowledges changes Ready none = refl
acknowledges changes Finished none = refl
acknowledges changes Waiting none = refl
acknowledges changes (Drawn bytes) none = refl
acknowledges changes Gone none = refl
acknowledges changes Done none = refl
acknowledges changes (Flushed answered left) none = refl

answered_right : (w v : World) (e : Event) (o : Outcome) → IsAnswer w e o v → IsRightlyStored w v (stored_whole w e o)
answered_right w v e o is =
    elim (cases_Bool w.failed) [
      | inl failed ↦
          let there = failed_there w e in
          let same : v ≡ (failed_answer w e).world = is.1 ∙ ap (λ (b : Bool). (if b then failed_answer w e else answer w e).world) failed in
          let none : stored_whole w e o ≡ record { commits = []; flying = [] } = whole_is w e o ∙ ap (λ (b : Bool). whole_of (if b then [] else changes_in w e) o) failed ∙ whole_none o in
          rw none (record {
            made = ap (λ (x : World). x.site) same ∙ there.0;
            one = inl refl;
            none = λ shut. (refl, refl, ap (λ (x : World). x.failed) same ∙ there.1 ∙ failed);
          })
      | inr usable ↦
          let next = answer w e in
          let out : o ≡ next.outcome = is.0 ∙ ap (λ (b : Bool). (if b then failed_answer w e else answer w e).outcome) usable in
          let same : v ≡ next.world = is.1 ∙ ap (λ (b : Bool). (if b then failed_answer w e else answer w e).world) usable in
          let stored : stored_whole w e o ≡ record { commits = in_one_step (changes_in w e); flying = [] } =
          whole_is w e o ∙ ap (λ (b : Bool). whole_of (if b then [] else changes_in w e) o) usable ∙ acknowledges (changes_in w e) o (λ fault fails. answer_fault w e fault (sym fails ∙ out)) in
          rw stored (record {
            made = ap (λ (x : World). x.site) same ∙ answer_makes w e ∙ sym (one_step_makes w.site (changes_in w e));
            one = inl refl;
            none = λ shut. (let no : true ≡ false = sym shut ∙ usable in absurd (cc no));
          })
    ]

-- all but the mark stays
unmoved : (w v : World) → v ≡ w → IsRightlyStored w v (record { commits = []; flying = [] })
unmoved w v same = record {
  made = ap (λ (x : World). x.site) same;
  one = inl refl;
  none = λ shut. (refl, refl, ap (λ (x : World). x.failed) same ∙ shut);
}

-- a fault in place of the answer
faulty_right : (w v : World) (e : Event) (o : Outcome) → IsFaulty w e o v → IsRightlyStored w v (stored_whole w e o)
faulty_right w v e (Fault hub.Failed) is = record {
  made = ap (λ (x : World). x.site) is.1;
  one = inr (ap (λ (x : World). x.failed) is.1);
  none = λ shut. (refl, ap (λ (b : Bool). in_one_step (if b then [] else changes_in w e)) shut, ap (λ (x : World). x.failed) is.1);
}
faulty_right w v e (Fault hub.Unknown) is = unmoved w v is.1
faulty_right w v e (Fault hub.Crowded) is = unmoved w v is.1
faulty_right w v e (Fault hub.Spent) is = unmoved w v is.1
faulty_right w v e (Fault hub.Deep) is = unmoved w v is.1
faulty_right w v e (Fault (hub.Refused r)) is = unmoved w v is.1
faulty_right w v e (Fault (hub.Full need free)) is = unmoved w v is.1
faulty_right w v e (Fault hub.Broken) is = unmoved w v is.1
faulty_right w v e (Fault hub.Memory) is = unmoved w v is.1
faulty_right w v e (Fault hub.NotReady) is = unmoved w v is.1
faulty_right w v e (Joined k) is = absurd is
faulty_right w v e More is = absurd is
faulty_right w v e Ready is = absurd is
faulty_right w v e Finished is = absurd is
faulty_right w v e Waiting is = absurd is
faulty_right w v e (Drawn bytes) is = absurd is
faulty_right w v e Gone is = absurd is
faulty_right w v e Done is = absurd is
faulty_right w v e (Flushed answered left) is = absurd is

-- ---- one post at a time

singly_right : (w v : World) (e : Event) (o : Outcome) (choices : List Bool) → w.failed ≡ false → IsInTurn w e choices o v → IsRightlyStored w v (stored_singly w choices o)
singly_right w v Flush o choices usable is = record {
  made = (split_stays w v choices o is).0 ∙ sym (singles_made o);
  one = flies o is;
  none = λ shut. (let no : true ≡ false = sym shut ∙ usable in absurd (cc no));
}
  where
    singles : with_commits w.site (one_by_one (flushed_by w choices).changes) ≡ (flushed_by w choices).site
    singles = singles_make w.site (flushed_by w choices).changes ∙ group_makes w choices

    singles_made : (o : Outcome) → with_commits w.site (stored_singly w choices o).commits ≡ (flushed_by w choices).site
    singles_made (Fault fault) = singles
    singles_made (Joined k) = singles
    singles_made More = singles
    singles_made Ready = singles
    singles_made Finished = singles
    singles_made Waiting = singles
    singles_made (Drawn bytes) = singles
    singles_made Gone = singles
    singles_made Done = singles
    singles_made (Flushed answered left) = singles

    flies : (o : Outcome) → IsTakenSingly w choices o v → ((stored_singly w choices o).flying ≡ []) ⊎ (v.failed ≡ true)
    flies (Fault hub.Failed) taken = inr (ap (λ (x : World). x.failed) taken.0)
    flies (Fault hub.Unknown) taken = absurd taken
    flies (Fault hub.Crowded) taken = absurd taken
    flies (Fault hub.Spent) taken = absurd taken
    flies (Fault hub.Deep) taken = absurd taken
    flies (Fault (hub.Refused r)) taken = absurd taken
    flies (Fault (hub.Full need free)) taken = absurd taken
    flies (Fault hub.Broken) taken = absurd taken
    flies (Fault hub.Memory) taken = absurd taken
    flies (Fault hub.NotReady) taken = absurd taken
    flies (Joined k) taken = inl refl
    flies More taken = inl refl
    flies Ready taken = inl refl
    flies Finished taken = inl refl
    flies Waiting taken = inl refl
    flies (Drawn bytes) taken = inl refl
    flies Gone taken = inl refl
    flies Done taken = inl refl
    flies (Flushed answered left) taken = inl refl
singly_right w v Join o choices usable is = absurd is
singly_right w v (Bytes id piece now) o choices usable is = absurd is
singly_right w v (End id now) o choices usable is = absurd is
singly_right w v (Draw id room) o choices usable is = absurd is
singly_right w v (Leave id) o choices usable is = absurd is
singly_right w v (Admin change now) o choices usable is = absurd is

pub what_is_stored_is_right : (split : Type 0) → WhatIsStoredIsRight split
what_is_stored_is_right split w v e o stored (inl (inl is, same)) = rw same (answered_right w v e o is)
what_is_stored_is_right split w v e o stored (inl (inr is, same)) = rw same (faulty_right w v e o is)
what_is_stored_is_right split w v e o stored (inr (usable, splits, (choices, is, same))) = rw same (singly_right w v e o choices usable is)
