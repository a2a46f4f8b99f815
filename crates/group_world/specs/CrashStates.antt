-- What a crash at any moment of a run leaves: the site after the first so many commits.
use Rattle.std.specs.Prelude.{◌≡◌, ◌⊎◌, ◌≤◌, ℕ, true, false, Bool, List, [], ◌∷◌, ◌++◌, length, map, take, drop, if◌then◌else◌}
use Rattle.host_types.specs.Site.{Site}
use Rattle.host_types.specs.Change.{apply}
use Rattle.common_types.specs.CrashStates.{CrashStates, AddsOnly, AddsNone, may_crash_to}
use Rattle.group_world.specs.declared.fault.HubFault.TheVariants.{Failed}
use Rattle.group_world.specs.World.{World}
use Rattle.group_world.specs.Step.{Changes, made_or, flushed_by}
use Rattle.group_world.specs.declared.event.Event.{Event}
use Rattle.group_world.specs.declared.event.Event.TheVariants.{Flush}
use Rattle.group_world.specs.declared.event.Outcome.{Outcome}
use Rattle.group_world.specs.declared.event.Outcome.TheVariants.{Fault}
use Rattle.group_world.specs.Run.{changes_in, IsAnswer, IsFaulty, IsTakenSingly}

-- the site with changes, one after another
abbrev pub with_changes : Site → Changes → Site
with_changes s [] = s
with_changes s (c ∷ changes) = with_changes (made_or s (apply s c.0 c.1)) changes

-- A commit is what is stored in one step: some changes, each with its moment.
abbrev pub CommitOfChanges : Type 0
CommitOfChanges = Changes

abbrev pub with_commits : Site → List CommitOfChanges → Site
with_commits s [] = s
with_commits s (c ∷ commits) = with_commits (with_changes s c) commits

-- ---- what an event stores

-- The commits that an event acknowledges, and the one that was in flight where the event was the first to fail: nobody knows from then on whether that was stored.
pub record Stored : Type 0 where
  pub commits : List CommitOfChanges
  pub flying : List CommitOfChanges

abbrev pub in_one_step : Changes → List CommitOfChanges
in_one_step [] = []
in_one_step (c ∷ changes) = (c ∷ changes) ∷ []

abbrev pub one_by_one : Changes → List CommitOfChanges
one_by_one changes = map (λ c. c ∷ []) changes

-- the changes that an event has, where the hub takes any
abbrev pub changes_at : World → Event → Changes
changes_at w e = if w.failed then [] else changes_in w e

-- all in one step
abbrev pub stored_whole : World → Event → Outcome → Stored
stored_whole w e (Fault Failed) = record { commits = []; flying = in_one_step (changes_at w e) }
stored_whole w e (Fault fault) = record { commits = []; flying = [] }
stored_whole w e outcome = record { commits = in_one_step (changes_at w e); flying = [] }

-- the posts that a flush takes one at a time, each by itself: the first that failed is in flight
abbrev pub stored_singly : World → List Bool → Outcome → Stored
stored_singly w choices (Fault fault) =
    record { commits = one_by_one (flushed_by w choices).changes; flying = one_by_one (take 1 (drop (length (flushed_by w choices).changes) (flushed_by w (choices ++ true ∷ [])).changes)) }
stored_singly w choices outcome = record { commits = one_by_one (flushed_by w choices).changes; flying = [] }

-- Posts are taken one at a time by a flush alone.
abbrev pub IsInTurn : World → Event → List Bool → Outcome → World → Type 0
IsInTurn old Flush choices outcome new = IsTakenSingly old choices outcome new
IsInTurn old e choices outcome new = ⊥

-- It was stored in one step; or, where it may not go in one step (`split`), one post at a time.
abbrev pub IsStored : Type 0 → World → Event → Outcome → World → Stored → Type 0
IsStored split w e o v stored =
    ((IsAnswer w e o v ⊎ IsFaulty w e o v) × (stored ≡ stored_whole w e o)) ⊎ ((w.failed ≡ false) × split × ((choices : List Bool) × IsInTurn w e choices o v × (stored ≡ stored_singly w choices o)))

-- ---- a whole run

-- One call of a run: its event and outcome, what it stored, and the world and the keeper behind it.
pub record Link (S : Type 0) : Type 0 where
  pub event : Event
  pub outcome : Outcome
  pub stored : Stored
  pub world : World
  pub keeper : S

abbrev pub acknowledged : {S : Type 0} → List (Link S) → List CommitOfChanges
acknowledged [] = []
acknowledged (l ∷ links) = l.stored.commits ++ acknowledged links

abbrev pub in_flight : {S : Type 0} → List (Link S) → List CommitOfChanges
in_flight [] = []
in_flight (l ∷ links) = l.stored.flying ++ in_flight links

-- the one in flight comes last: a hub that has failed stores nothing more
abbrev pub accepted : {S : Type 0} → List (Link S) → List CommitOfChanges
accepted links = acknowledged links ++ in_flight links

-- What is left represents the site after the first so many commits, at least so many.
pub record HoldsCommits {L : Type 0} (stands : L → Site → Type 0) (first : Site) (commits : List CommitOfChanges) (least : ℕ) (left : L) : Type 0 where
  pub count : ℕ
  pub at_least : least ≤ count
  pub at_most : count ≤ length commits
  pub represented : stands left (with_commits first (take count commits))

abbrev pub last_keeper : {S : Type 0} → S → List (Link S) → S
last_keeper k [] = k
last_keeper k (l ∷ links) = last_keeper l.keeper links

-- A run from one moment to another, and what a crash in between leaves: k events were answered at the moment `at k`. A commit is there whole or not at all.
pub record HasCrashStates {S L : Type 0} (stands : L → Site → Type 0) (site : Site) (first last : CrashStates L) (links : List (Link S)) : Type 0 where
  pub at : ℕ → ℕ
  pub begins : at 0 ≡ first.moment
  pub is_now : at (length links) ≡ last.moment
  pub rises : (j k : ℕ) → j ≤ k → at j ≤ at k
  pub each : (k : ℕ) (c : L) → k ≤ length links → last.possible_since (at k) c → HoldsCommits stands site (accepted links) (length (acknowledged (take k links))) c
  pub keeps : (t : ℕ) (c : L) → t ≤ first.moment → first.possible_since t c → last.possible_since t c
  pub since : (t : ℕ) (c : L) → t ≤ first.moment → last.possible_since t c → first.possible_since t c ⊎ HoldsCommits stands site (accepted links) 0 c

-- ---- by its calls

-- What one call leaves: a crash within it leaves what one before it might have left, or the site after some of its commits, or with what was in flight. Behind it a crash leaves the site after all of them, or with what was in flight. Of a hub that had failed before nothing more is left.
pub record Leaves {S L : Type 0} (stands : L → Site → Type 0) (split : Type 0) (w : World) (l : Link S) (before after : CrashStates L) : Type 0 where
  pub stored : IsStored split w l.event l.outcome l.world l.stored
  pub adds : AddsOnly before after (λ c. may_crash_to before c ⊎ HoldsCommits stands w.site (l.stored.commits ++ l.stored.flying) 0 c)
  pub behind : w.failed ≡ false → (c : L) → may_crash_to after c → HoldsCommits stands w.site (l.stored.commits ++ l.stored.flying) (length l.stored.commits) c
  pub shut : w.failed ≡ true → AddsNone before after

-- one call after another
abbrev pub LeavesInTurn : {S L : Type 0} → (S → CrashStates L) → (L → Site → Type 0) → (S → World → Event → Type 0) → World → S → List (Link S) → Type 0
LeavesInTurn crash_states stands split w k [] = Unit {0}
LeavesInTurn crash_states stands split w k (l ∷ links) = Leaves stands (split k w l.event) w l (crash_states k) (crash_states l.keeper) × LeavesInTurn crash_states stands split l.world l.keeper links

-- What is stored makes the site: the commits of an event, made in turn on the site before it, make the site behind it. One is in flight only where the hub has failed by then. A hub that had failed before stores nothing, and stays so.
pub record IsRightlyStored (w v : World) (stored : Stored) : Type 0 where
  pub made : v.site ≡ with_commits w.site stored.commits
  pub one : (stored.flying ≡ []) ⊎ (v.failed ≡ true)
  pub none : w.failed ≡ true → (stored.commits ≡ []) × (stored.flying ≡ []) × (v.failed ≡ true)

abbrev pub WhatIsStoredIsRight : Type 0 → Type 0
WhatIsStoredIsRight split = (w v : World) (e : Event) (o : Outcome) (stored : Stored) → IsStored split w e o v stored → IsRightlyStored w v stored

-- So a run of a hub that was usable has its crash states, by its moments.
abbrev pub CallsLeave : {S L : Type 0} → (S → CrashStates L) → (L → Site → Type 0) → (S → World → Event → Type 0) → Type 0
CallsLeave {S = S} {L = L} crash_states stands split = (w : World) (k : S) (links : List (Link S)) → ((c : L) → may_crash_to (crash_states k) c → stands c w.site) → LeavesInTurn crash_states stands split w k links →
    HasCrashStates stands w.site (crash_states k) (crash_states (last_keeper k links)) links
