-- Steps and runs of a hub, with the faults that may come in place of an answer, and posts that are taken one at a time.
use Rattle.std.specs.Prelude.{◌≡◌, ◌⊎◌, ℕ, ◌-◌, ◌<◌, Bool, true, false, List, [], ◌∷◌, ◌++◌, length, nat_lt, Option, Some, None, Result, Ok, Err, IsTrue, is_some}
use Rattle.host_types.specs.Site.{Site}
use Rattle.host_types.specs.Change.{apply}
use Rattle.host_types.specs.declared.change.Change.{Change}
use Rattle.common_types.specs.declared.refused.Refused.{Refused}
use Rattle.group_world.specs.declared.fault.HubFault.{HubFault}
use Rattle.group_world.specs.declared.fault.HubFault.TheVariants.{Full, Spent, Deep, Broken, Failed, Memory}
use Rattle.group_world.specs.World.{World, Phase, Heard, Reply, phase_of, count_waiting}
use Rattle.group_world.specs.Step.{Changes, StepResult, listens, ends, at_moment, flushed_by, whole_group, with_group, step}
use Rattle.group_world.specs.declared.event.Event.{Event}
use Rattle.group_world.specs.declared.event.Event.TheVariants.{Bytes, End, Draw, Leave, Admin, Flush}
use Rattle.group_world.specs.declared.event.Outcome.{Outcome}
use Rattle.group_world.specs.declared.event.Outcome.TheVariants.{Fault, Flushed}

abbrev pub is_hearing : Option Phase → Bool
is_hearing (Some (Heard stream)) = true
is_hearing phase = false

abbrev pub has_bytes_left : Option Phase → Bool
has_bytes_left (Some (Reply (b ∷ rest))) = true
has_bytes_left phase = false

-- The session is there that the event is about, where it is about one.
abbrev pub is_there : World → Event → Bool
is_there w (Bytes id piece now) = is_some (phase_of w id)
is_there w (End id now) = is_some (phase_of w id)
is_there w (Draw id room) = is_some (phase_of w id)
is_there w (Leave id) = is_some (phase_of w id)
is_there w e = true

abbrev pub has_waiting : World → Bool
has_waiting w = nat_lt 0 (count_waiting w.sessions)

-- The event may lack memory: while a session hears, where the administrator changes the site, or where posts wait that are to be made.
abbrev pub may_work : World → Event → Bool
may_work w (Bytes id piece now) = is_hearing (phase_of w id)
may_work w (End id now) = is_hearing (phase_of w id)
may_work w (Admin change now) = true
may_work w Flush = has_waiting w
may_work w e = false

-- The event may read what is stored: so does one that may lack memory, and a draw of what is left of a reply.
abbrev pub may_read : World → Event → Bool
may_read w (Draw id room) = has_bytes_left (phase_of w id)
may_read w e = may_work w e

-- the change at its moment, where it is valid
abbrev pub valid_one : Change → ℕ → Result Site Refused → Changes
valid_one change now (Ok after) = (change, now) ∷ []
valid_one change now (Err refused) = []

-- the post that a session makes
abbrev pub post_in : Option Phase → ℕ → (Phase → StepResult) → Changes
post_in None now f = []
post_in (Some phase) now f = at_moment now (f phase).post

-- the changes that the event has, in their order: the administrator's, a post, or all posts of a group
abbrev pub changes_in : World → Event → Changes
changes_in w (Bytes id piece now) = post_in (phase_of w id) now (listens w.grouped w.site now piece)
changes_in w (End id now) = post_in (phase_of w id) now (ends w.grouped w.site now)
changes_in w (Admin change now) = valid_one change now (apply w.site change now)
changes_in w Flush = (whole_group w).changes
changes_in w e = []

abbrev pub has_changes : World → Event → Bool
has_changes w e = nat_lt 0 (length (changes_in w e))

-- The fault may come in place of the answer. What a group lacks is told by the posts that are left.
abbrev pub may_come : World → Event → HubFault → Bool
may_come w e Memory = may_work w e
may_come w e Broken = may_read w e
may_come w Flush (Full need free) = false
may_come w e (Full need free) = has_changes w e
may_come w e Spent = has_changes w e
may_come w Flush Deep = false
may_come w e Deep = has_changes w e
may_come w e Failed = has_changes w e
may_come w e fault = false

-- All is as before, but for the mark of a first failure.
abbrev pub IsFaulty : World → Event → Outcome → World → Type 0
IsFaulty old e (Fault Failed) new = IsTrue (may_come old e Failed) × (new ≡ record old { failed = true })
IsFaulty old e (Fault fault) new = IsTrue (may_come old e fault) × (new ≡ old)
IsFaulty old e outcome new = ⊥

-- The posts were taken one at a time, each with its own commit: all in turn, or up to one whose commit failed, which and those behind it still wait.
abbrev pub IsTakenSingly : World → List Bool → Outcome → World → Type 0
IsTakenSingly old choices (Fault Failed) new =
    (new ≡ record (with_group old (flushed_by old choices)) { failed = true })
    × (length (flushed_by old choices).changes < length (flushed_by old (choices ++ true ∷ [])).changes)
IsTakenSingly old choices (Flushed answered left) new =
    (length choices ≡ length old.sessions) × (left ≡ count_waiting new.sessions) × (answered ≡ count_waiting old.sessions - left) × (new ≡ with_group old (flushed_by old choices))
IsTakenSingly old choices outcome new = ⊥

-- an event that has changes of several posts
abbrev pub IsSplit : World → Event → Outcome → World → Type 0
IsSplit old Flush outcome new = IsTrue (has_changes old Flush) × ((choices : List Bool) × IsTakenSingly old choices outcome new)
IsSplit old e outcome new = ⊥

abbrev pub IsAnswer : World → Event → Outcome → World → Type 0
IsAnswer old e outcome new = (outcome ≡ (step old e).outcome) × (new ≡ (step old e).world)

abbrev pub StepBy : Bool → World → Event → Outcome → World → Type 0
StepBy true old e outcome new = IsAnswer old e outcome new
StepBy false old e outcome new = IsAnswer old e outcome new ⊎ (IsFaulty old e outcome new ⊎ IsSplit old e outcome new)

-- The event may be answered so, and this is the world after it.
abbrev pub Step : World → Event → Outcome → World → Type 0
Step old e outcome new = StepBy old.failed old e outcome new

-- one event after another, with the worlds behind them
abbrev pub RunBy : World → List Event → List Outcome → List World → Type 0
RunBy old [] [] [] = Unit {0}
RunBy old (e ∷ events) (o ∷ outcomes) (w ∷ worlds) = Step old e o w × RunBy w events outcomes worlds
RunBy old events outcomes worlds = ⊥
