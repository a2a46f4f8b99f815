-- What a call leaves that prepares a group and makes it in one step.
use Rattle.std.specs.Prelude.{◌≡◌, ◌⊎◌, true, false, List, length, nat_lt, Result, OnOk, IfOk, IfErr, IsTrue}
use Rattle.host_types.specs.AllChanges.{Changes}
use Rattle.host_types.specs.Site.{Site}
use Rattle.host_types.specs.SiteState.{SiteState, Rose}
use Rattle.host_types.specs.Pins.{Pinned}
use Rattle.host_types.specs.CrashStates.{CrashStates, AddsOnly, AddsNone}
use Rattle.host_types.specs.declared.site_fault.SiteFault.{SiteFault}
use Rattle.host_types.specs.declared.site_fault.SiteFault.TheVariants as faults
use Rattle.group_world.specs.Calls.{IsKeeperLacking, MaySplit}
use Rattle.group_world.specs.CrashStates.{with_changes}
use Rattle.group_world.specs.Step.{Group, without_forms, taken, all_of}
use Rattle.group_world.specs.declared.fault.HubFault.{HubFault}
use Rattle.group_world.specs.declared.fault.HubFault.TheVariants as hub
use Rattle.group_hub.specs.Counting.{CountsCall}
use Rattle.group_hub.specs.Flushing.{next_pins, AreNextSound, AreForWaiting, StandsBeside, put_sessions}
use Rattle.group_hub.specs.Sessions.{sessions_of}
use Rattle.group_hub.specs.declared.group_commit.GroupCommit.{GroupCommit}
use Rattle.group_hub.specs.declared.group_commit.GroupCommit.TheVariants as commits
use Rattle.group_hub.specs.declared.next.Next.{Next}
use Rattle.group_hub.specs.declared.next.Putting.TheVariants as puttings
use Rattle.group_hub.specs.declared.session.Session.{Session}

-- the whole group of some sessions over a site
abbrev pub group_of : {P : Type 0} → (P → Pinned) → SiteState → List (Session P) → Group
group_of pinned h sessions = taken h.site (all_of (sessions_of pinned h sessions)) (without_forms h.site (sessions_of pinned h sessions))

-- Nothing of the site was changed, and no crash state was added.
pub record IsUntouched {S L : Type 0} (site_state : S → SiteState) (crash_states : S → CrashStates L) (old new : S) : Type 0 where
  pub usable : (site_state new).usable ≡ true
  pub site : IsTrue (site_state old).honest → (site_state new).site ≡ (site_state old).site
  pub no_new_crash_state : IsTrue (site_state old).honest → AddsNone (crash_states old) (crash_states new)

-- The one commit failed.
pub record HasFailedTogether (changes : Changes) (old new : SiteState) : Type 0 where
  pub shut : new.usable ≡ false
  pub site : IsTrue old.honest → new.site ≡ old.site
  pub some : IsTrue old.honest → nat_lt 0 (length changes) ≡ true
  pub cause : IsTrue old.honest → Rose old.failed_writes new.failed_writes

-- Why a group was not made, and what stands then.
abbrev pub IsTogetherFault : {S L : Type 0} → (S → SiteState) → (S → Changes → SiteFault → Type 0) → (S → CrashStates L) → Changes → S → S → HubFault → Type 0
IsTogetherFault site_state lacks crash_states changes old new hub.Memory = IsUntouched site_state crash_states old new
IsTogetherFault site_state lacks crash_states changes old new hub.Broken = IsUntouched site_state crash_states old new × (IsTrue (site_state old).honest → Rose (site_state old).failed_reads (site_state new).failed_reads)
IsTogetherFault site_state lacks crash_states changes old new hub.Spent = IsUntouched site_state crash_states old new × (IsTrue (site_state old).honest → (nat_lt 0 (length changes) ≡ true) × IsKeeperLacking (lacks old) changes faults.Spent)
IsTogetherFault site_state lacks crash_states changes old new hub.Failed = HasFailedTogether changes (site_state old) (site_state new)
IsTogetherFault site_state lacks crash_states changes old new fault = ⊥

-- The group is too large for one step, and none of it is made.
pub record IsApart {S L : Type 0} (site_state : S → SiteState) (lacks : S → Changes → SiteFault → Type 0) (crash_states : S → CrashStates L) (changes : Changes) (old new : S) : Type 0 where
  pub untouched : IsUntouched site_state crash_states old new
  pub some : IsTrue (site_state old).honest → nat_lt 0 (length changes) ≡ true
  pub split : IsTrue (site_state old).honest → MaySplit (lacks old) (site_state old) changes

-- All sessions have what they are to have, and the group's changes are made in one step, or told to be too many for it.
pub record MakesTogether {S L P : Type 0} (site_state : S → SiteState) (lacks : S → Changes → SiteFault → Type 0) (crash_states : S → CrashStates L) (represents : L → Site → Type 0) (pinned : P → Pinned) (sessions : List (Session P)) (next : List (Next P)) (old new : S) (result : Result GroupCommit HubFault) : Type 0 where
  pub honest : (site_state new).honest ≡ (site_state old).honest
  pub whole : IsTrue (site_state old).honest → IfOk result (λ c. c ≡ commits.Whole → (site_state new).site ≡ (group_of pinned (site_state old) sessions).site)
  pub put : IsTrue (site_state old).honest → OnOk result (put_sessions puttings.All pinned (site_state new) (sessions_of pinned (site_state old) sessions) next ≡ (group_of pinned (site_state old) sessions).sessions)
  pub gone : IsTrue (site_state old).honest → OnOk result (put_sessions puttings.Gone pinned (site_state new) (sessions_of pinned (site_state old) sessions) next ≡ without_forms (site_state old).site (sessions_of pinned (site_state old) sessions))
  pub waiting : OnOk result (AreForWaiting sessions next)
  pub sound : IsTrue (site_state old).honest → AreNextSound pinned (site_state new) next
  pub stands : StandsBeside pinned (site_state old) (site_state new) (next_pins pinned next) sessions
  pub still_usable : OnOk result ((site_state new).usable ≡ true)
  pub apart : IfOk result (λ c. c ≡ commits.TooLarge → IsApart site_state lacks crash_states (group_of pinned (site_state old) sessions).changes old new)
  pub fault : IfErr result (IsTogetherFault site_state lacks crash_states (group_of pinned (site_state old) sessions).changes old new)
  pub counts : CountsCall result (site_state old) (site_state new)
  pub at_crash : IsTrue (site_state old).honest → AddsOnly (crash_states old) (crash_states new) (λ c. represents c (site_state old).site ⊎ represents c (with_changes (site_state old).site (group_of pinned (site_state old) sessions).changes))
