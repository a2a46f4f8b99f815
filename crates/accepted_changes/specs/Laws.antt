-- Accepted changes are valid in turn, and a crash leaves those of the first so many commits, with each acknowledged one.
use Rattle.std.specs.Prelude.{◌≡◌, ◌≤◌, ℕ, Bool, true, false, List, [], length, take, All, Ok}
use Rattle.common_types.specs.CrashStates.{CrashStates}
use Rattle.host_types.specs.Site.{Site}
use Rattle.host_types.specs.AllChanges.{all_applied}
use Rattle.sector_device.specs.Device.{State}
use Rattle.page_store.specs.Sectors.{Image}
use Rattle.page_store.specs.Steps.{crash_states_of}
use Rattle.file_device.specs.FileCalls.{FileHistory, FindsWhatACrashLeft, PossibleSince, file_state}
use Rattle.group_world.specs.World.{World, started_as}
use Rattle.group_world.specs.CrashStates.{Link, HasCrashStates, acknowledged, in_flight, accepted}
use Rattle.group_world.specs.declared.event.Event.{Event}
use Rattle.group_world.specs.declared.event.Outcome.{Outcome}
use Rattle.host_on_disk.specs.ImageSites.{ImageRepresents}
use Rattle.host_on_disk.specs.Headline.{IsRunFrom, Survives}
use Rattle.accepted_changes.specs.Accepted.{changes_of, world_behind, HoldsAcknowledged}

-- The acknowledged changes of a run, made in turn on its first site, are all valid and make its last site. So are all accepted ones, with those that were in flight, on whatever site they make.
pub record AcceptedAreValid (D : Type 0) : Type 0 where
  pub make_the_last_site : (old : World) (events : List Event) (outcomes : List Outcome) (links : List (Link D)) → IsRunFrom old events outcomes links → all_applied old.site (changes_of (acknowledged links)) ≡ Ok (world_behind old links).site
  pub with_those_in_flight : (old : World) (events : List Event) (outcomes : List Outcome) (links : List (Link D)) → IsRunFrom old events outcomes links → (s : Site) × (all_applied old.site (changes_of (accepted links)) ≡ Ok s)

-- The commits that were acknowledged when k events were answered are the first of the accepted ones. At most one is in flight. A hub that has failed accepts none.
pub record AcceptedAreInOrder (D : Type 0) : Type 0 where
  pub first : (links : List (Link D)) (k : ℕ) → take (length (acknowledged (take k links))) (accepted links) ≡ acknowledged (take k links)
  pub one : (old : World) (events : List Event) (outcomes : List Outcome) (links : List (Link D)) → IsRunFrom old events outcomes links → length (in_flight links) ≤ 1
  pub none_after : (old : World) (events : List Event) (outcomes : List Outcome) (links : List (Link D)) → IsRunFrom old events outcomes links → old.failed ≡ true → accepted links ≡ []

-- Where posts don't wait each commit is one change.
abbrev pub EachIsOneChange : Type 0 → Type 0
EachIsOneChange D = (site : Site) (first : ℕ) (events : List Event) (outcomes : List Outcome) (links : List (Link D)) → IsRunFrom (started_as false site first) events outcomes links → All (λ c. length c ≡ 1) (accepted links)

-- What a crash at any moment of a run leaves, once k of its events are answered, represents the site of the first so many accepted commits, with each one that was acknowledged by then.
abbrev pub CrashesLeaveAPrefix : {S L : Type 0} → (S → CrashStates L) → (L → Site → Type 0) → Type 0
CrashesLeaveAPrefix {S = S} {L = L} crash_states stands = (old : World) (before behind : S) (events : List Event) (outcomes : List Outcome) (links : List (Link S)) → IsRunFrom old events outcomes links → (h : HasCrashStates stands old.site (crash_states before) (crash_states behind) links) (k : ℕ) (left : L) →
    k ≤ length links → (crash_states behind).possible_since (h.at k) left → HoldsAcknowledged stands old.site (accepted links) (length (acknowledged (take k links))) left

-- The same of the images that a crash leaves of a device which was opened as a site and run over.
abbrev pub ImagesHoldTheAcknowledged : {D : Type 0} → (D → State) → (D → CrashStates Image) → Type 0
ImagesHoldTheAcknowledged {D = D} state crash_states = (old new : D) (grouped : Bool) (first : ℕ) (events : List Event) (outcomes : List Outcome) (h : Survives state crash_states old new grouped first events outcomes) (k : ℕ) (image : Image) →
    k ≤ length events → (crash_states new).possible_since (h.at_crash.at k) image → HoldsAcknowledged ImageRepresents h.site (accepted h.links) (length (acknowledged (take k h.links))) image

-- what a crash leaves of a file, by the calls that were made of it
abbrev pub file_crash_states : FileHistory → CrashStates Image
file_crash_states = crash_states_of (λ (device : FileHistory). length device.calls) (λ (device : FileHistory). PossibleSince device.calls)

-- The same of a file: what the next opening after a crash reads represents the site of the first so many accepted commits, with each one that was acknowledged by then.
abbrev pub NextOpeningsFindThem : Type 0
NextOpeningsFindThem = (old new later : FileHistory) (grouped : Bool) (first : ℕ) (events : List Event) (outcomes : List Outcome) (h : Survives file_state file_crash_states old new grouped first events outcomes) (k : ℕ) →
    k ≤ length events → FindsWhatACrashLeft new (h.at_crash.at k) later → HoldsAcknowledged ImageRepresents h.site (accepted h.links) (length (acknowledged (take k h.links))) (file_state later).disk.view
