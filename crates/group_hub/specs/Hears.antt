-- What the calls that move a session which hears something do to its site, and what they give.
use Rattle.std.specs.Prelude.{◌≡◌, ◌⊎◌, ℕ, Bool, true, false, Option, None, Some, Result, Ok, Err, OnErr, OnOk, IfOk, IfErr, IsTrue}
use Rattle.host_types.specs.AllChanges.{Changes}
use Rattle.host_types.specs.Site.{Site}
use Rattle.host_types.specs.SiteState.{SiteState}
use Rattle.host_types.specs.Pins.{Pinned}
use Rattle.host_types.specs.CrashStates.{CrashStates, AddsNone, AddsOnly}
use Rattle.host_types.specs.declared.change.Change.{Change}
use Rattle.host_types.specs.declared.site_fault.SiteFault.{SiteFault}
use Rattle.request_reader.specs.Verdict.{Verdict}
use Rattle.group_world.specs.CrashStates.{with_changes}
use Rattle.group_world.specs.Step.{StepResult, says}
use Rattle.group_world.specs.Run.{is_hearing}
use Rattle.group_world.specs.Outcomes.{heard_outcome}
use Rattle.group_world.specs.declared.answer.InputStatus.{InputStatus}
use Rattle.group_world.specs.declared.answer.InputStatus.TheVariants as heard
use Rattle.group_world.specs.declared.event.Outcome.TheVariants.{Waiting}
use Rattle.group_world.specs.declared.fault.HubFault.{HubFault}
use Rattle.group_world.specs.declared.fault.HubFault.TheVariants.{Crowded}
use Rattle.group_hub.specs.Counting.{CountsCall}
use Rattle.group_hub.specs.HeldPins.{MovesPins}
use Rattle.group_hub.specs.Understood.{IsPostFault, HasWorked, is_whole}
use Rattle.group_hub.specs.Sessions.{waits_by, phase_of, pin_of, is_waiting, IsSound}
use Rattle.group_hub.specs.declared.posting.Posting.{Posting}
use Rattle.group_hub.specs.declared.posting.Posting.TheVariants as postings
use Rattle.site_replies.specs.declared.answered.Answered.{Answered}
use Rattle.group_hub.specs.declared.session.Phase.{Phase}
use Rattle.group_hub.specs.declared.session.Phase.TheVariants as phases
use Rattle.group_hub.specs.declared.phase.Concluded.{Concluded}
use Rattle.group_hub.specs.declared.phase.Concluded.TheVariants as ends

-- ---- posts that wait

abbrev pub is_grouped : Posting → Bool
is_grouped postings.AtOnce = false
is_grouped postings.Waits = true
is_grouped postings.Crowded = true

abbrev pub is_full : Posting → Bool
is_full postings.AtOnce = false
is_full postings.Waits = false
is_full postings.Crowded = true

-- `Crowded` comes exactly of a post that would come to wait where no more may.
abbrev pub IsCrowded : {T : Type 0} → Bool → Posting → StepResult → Result T HubFault → Type 0
IsCrowded honest posting step result = IfErr result (λ e. e ≡ Crowded → (is_full posting ≡ true) × (IsTrue honest → step.outcome ≡ Waiting))

-- ---- posts that are made

-- What a call that makes changes, where there are any, does to a site: where it succeeds the site has them and is still usable, a fault has its reason, and one that leaves the site usable adds no crash state; the answer says what was counted; a crash within the call leaves what represents the site from before it, or with the changes.
pub record MakesChanges {T K L : Type 0} (site_state : K → SiteState) (lacks : K → Changes → SiteFault → Type 0) (crash_states : K → CrashStates L) (represents : L → Site → Type 0) (changes : Changes) (old new : K) (result : Result T HubFault) : Type 0 where
  pub done : IsTrue (site_state old).honest → OnOk result ((site_state new).site ≡ with_changes (site_state old).site changes)
  pub still_usable : OnOk result ((site_state new).usable ≡ true)
  pub fault : IfErr result (IsPostFault (lacks old) changes (site_state old) (site_state new))
  pub worked : HasWorked (site_state old) (site_state new)
  pub counts : CountsCall result (site_state old) (site_state new)
  pub unchanged : IsTrue (site_state old).honest → IfErr result (λ e. (site_state new).usable ≡ true → AddsNone (crash_states old) (crash_states new))
  pub at_crash : IsTrue (site_state old).honest → AddsOnly (crash_states old) (crash_states new) (λ c. represents c (site_state old).site ⊎ represents c (with_changes (site_state old).site changes))

-- ---- one session

-- what a session answers to further input
abbrev pub status_of : {P : Type 0} → Phase P → InputStatus
status_of (phases.Hearing s) = heard.More
status_of (phases.Waiting w) = heard.Waiting
status_of (phases.Replying r) = heard.Ready
status_of (phases.Drawing d) = heard.Ready
status_of phases.Drawn = heard.Ready
status_of phases.Early = heard.Finished

-- the answer is that a post waits
abbrev pub is_wait : Result InputStatus HubFault → Bool
is_wait (Ok heard.More) = false
is_wait (Ok heard.Ready) = false
is_wait (Ok heard.Finished) = false
is_wait (Ok heard.Waiting) = true
is_wait (Err fault) = false

abbrev pub made_post : Option Answered → Option Change
made_post None = None
made_post (Some a) = a.post

-- What a session that has heard its request gets: what it is answered, its next phase, and maybe a pin with it; after a fault no pin is taken.
pub record GetsNext {P : Type 0} (pinned : P → Pinned) (step : StepResult) (old new : SiteState) (result : Result (InputStatus × Phase P) HubFault) : Type 0 where
  pub heard : IfOk result (λ r. heard_outcome r.0 ≡ step.outcome)
  pub phase : IsTrue old.honest → IfOk result (λ r. phase_of pinned new r.1 ≡ step.phase)
  pub sound : IsTrue old.honest → IfOk result (λ r. IsSound pinned new r.1)
  pub pins : IfOk result (λ r. MovesPins old new None (pin_of pinned r.1))
  pub pins_after_fault : OnErr result (new.pins ≡ old.pins)
  pub status : IfOk result (λ r. r.0 ≡ status_of r.1)
  pub uncrowded : IfErr result (λ e. e ≡ Crowded → ⊥)

-- What a request that is heard comes to: a reply, maybe with a pin, or it waits.
abbrev pub IsConcluded : {P : Type 0} → (P → Pinned) → StepResult → Verdict → ℕ → SiteState → Concluded P → Type 0
IsConcluded pinned step verdict now new (ends.Answered status phase) = (heard_outcome status ≡ step.outcome) × (phase_of pinned new phase ≡ step.phase) × IsSound pinned new phase
IsConcluded pinned step verdict now new ends.Waits = step ≡ says Waiting (waits_by verdict now)

abbrev pub pin_in : {P : Type 0} → (P → Pinned) → Concluded P → Option Pinned
pin_in pinned (ends.Answered status phase) = pin_of pinned phase
pin_in pinned ends.Waits = None

-- A post waits only where posts do and one more may, and of a whole request; a session that is answered does not wait.
abbrev pub IsLetWait : {P : Type 0} → Posting → Verdict → Concluded P → Type 0
IsLetWait posting verdict (ends.Answered status phase) = (status ≡ status_of phase) × (status ≡ heard.Waiting → ⊥)
IsLetWait posting verdict ends.Waits = (is_grouped posting ≡ true) × (is_full posting ≡ false) × (is_whole verdict ≡ true)

-- the fault of a call that hands something back with it
abbrev pub fault_alone : {T R : Type 0} → Result T (HubFault × R) → Result T HubFault
fault_alone (Ok t) = Ok t
fault_alone (Err e) = Err e.0

-- What a session within its request gets: its next phase, and maybe a pin with it; after a fault no pin is taken.
pub record TakesIn {P : Type 0} (pinned : P → Pinned) (step : StepResult) (posting : Posting) (old new : SiteState) (result : Result (InputStatus × Phase P) HubFault) : Type 0 where
  pub gives : IsTrue old.honest → IfOk result (λ r. heard_outcome r.0 ≡ step.outcome)
  pub phase : IsTrue old.honest → IfOk result (λ r. phase_of pinned new r.1 ≡ step.phase)
  pub sound : IsTrue old.honest → IfOk result (λ r. IsSound pinned new r.1)
  pub pins : IfOk result (λ r. MovesPins old new None (pin_of pinned r.1))
  pub pins_after_fault : OnErr result (new.pins ≡ old.pins)
  pub status : IfOk result (λ r. r.0 ≡ status_of r.1)
  pub waits : IfOk result (λ r. r.0 ≡ heard.Waiting → (is_grouped posting ≡ true) × (is_full posting ≡ false))
  pub crowded : IsCrowded old.honest posting step result

-- What a session that hears something answers, and where it is then; only one that is within its request may get a fault, and it is then where it was.
pub record Hears {P : Type 0} (pinned : P → Pinned) (step : StepResult) (posting : Posting) (before after : Phase P) (old new : SiteState) (result : Result InputStatus HubFault) : Type 0 where
  pub gives : IsTrue old.honest → IfOk result (λ h. heard_outcome h ≡ step.outcome)
  pub phase : IsTrue old.honest → OnOk result (phase_of pinned new after ≡ step.phase)
  pub err : OnErr result (phase_of pinned new after ≡ phase_of pinned old before)
  pub hearing : OnErr result (is_hearing (Some (phase_of pinned old before)) ≡ true)
  pub sound : IsTrue old.honest → IsSound pinned old before → IsSound pinned new after
  pub pins : MovesPins old new (pin_of pinned before) (pin_of pinned after)
  pub status : IfOk result (λ h. h ≡ status_of after)
  pub waits : IfOk result (λ h. h ≡ heard.Waiting → is_waiting before ≡ false → (is_grouped posting ≡ true) × (is_full posting ≡ false))
  pub crowded : IsCrowded old.honest posting step result
