-- What a session makes of what it hears, over the site as it is, and what the calls that answer it do.
use Rattle.std.specs.Prelude.{◌≡◌, ℕ, List, None, Result, OnErr, IfOk, IsTrue}
use Rattle.host_types.specs.AllChanges.{Changes}
use Rattle.host_types.specs.Site.{Site}
use Rattle.host_types.specs.SiteState.{SiteState}
use Rattle.host_types.specs.Pins.{Pinned}
use Rattle.host_types.specs.CrashStates.{CrashStates}
use Rattle.host_types.specs.declared.site_fault.SiteFault.{SiteFault}
use Rattle.request_reader.specs.Verdict.{Verdict}
use Rattle.site_replies.specs.Replies.{reply_bytes}
use Rattle.site_replies.specs.declared.answered.Reply.{Reply}
use Rattle.group_world.specs.World as world
use Rattle.group_world.specs.Step.{StepResult, listens, ends, at_moment}
use Rattle.group_world.specs.declared.answer.InputStatus.TheVariants.{Ready}
use Rattle.group_world.specs.declared.fault.HubFault.{HubFault}
use Rattle.group_hub.specs.HeldPins.{MovesPins}
use Rattle.group_hub.specs.Understood.{concluded}
use Rattle.group_hub.specs.Hears.{is_grouped, status_of, pin_in, MakesChanges, IsConcluded, IsLetWait, IsCrowded}
use Rattle.group_hub.specs.Sessions.{phase_of, pin_of, IsSound}
use Rattle.group_hub.specs.declared.posting.Posting.{Posting}
use Rattle.group_hub.specs.declared.session.Phase.{Phase}
use Rattle.group_hub.specs.declared.phase.Concluded.{Concluded}

-- ---- steps over the site as it is

-- of a request that is heard to its end
abbrev pub verdict_step : Posting → SiteState → ℕ → Verdict → StepResult
verdict_step posting h now verdict = concluded (is_grouped posting) h.site now verdict

-- of a piece that comes to a session in that phase
abbrev pub piece_step : {P : Type 0} → (P → Pinned) → Posting → SiteState → ℕ → List ℕ → Phase P → StepResult
piece_step pinned posting h now piece phase = listens (is_grouped posting) h.site now piece (phase_of pinned h phase)

-- of the end of its input
abbrev pub end_step : {P : Type 0} → (P → Pinned) → Posting → SiteState → ℕ → Phase P → StepResult
end_step pinned posting h now phase = ends (is_grouped posting) h.site now (phase_of pinned h phase)

-- The post of a step is made at its moment, where it has one.
abbrev pub MakesPost : {T K L : Type 0} → (K → SiteState) → (K → Changes → SiteFault → Type 0) → (K → CrashStates L) → (L → Site → Type 0) → ℕ → StepResult → K → K → Result T HubFault → Type 0
MakesPost site_state lacks crash_states represents now step old new result = MakesChanges site_state lacks crash_states represents (at_moment now step.post) old new result

-- ---- what answers a session

-- A session is sent a reply: its next phase, and maybe a pin with it; after a fault no pin is taken.
pub record SendsReply {P : Type 0} (pinned : P → Pinned) (reply : Reply) (old new : SiteState) (result : Result (Phase P) HubFault) : Type 0 where
  pub phase : IsTrue old.honest → IfOk result (λ p. phase_of pinned new p ≡ world.Reply (reply_bytes old.site reply))
  pub sound : IsTrue old.honest → IfOk result (IsSound pinned new)
  pub ready : IfOk result (λ p. status_of p ≡ Ready)
  pub pins : IfOk result (λ p. MovesPins old new None (pin_of pinned p))
  pub pins_after_fault : OnErr result (new.pins ≡ old.pins)

-- What a request comes to that is heard to its end: an answer, maybe with a pin, or a post that waits; after a fault no pin is taken.
pub record Concludes {P : Type 0} (pinned : P → Pinned) (posting : Posting) (verdict : Verdict) (now : ℕ) (old new : SiteState) (result : Result (Concluded P) HubFault) : Type 0 where
  pub concluded : IsTrue old.honest → IfOk result (IsConcluded pinned (verdict_step posting old now verdict) verdict now new)
  pub pins : IfOk result (λ c. MovesPins old new None (pin_in pinned c))
  pub pins_after_fault : OnErr result (new.pins ≡ old.pins)
  pub waits : IfOk result (IsLetWait posting verdict)
  pub crowded : IsCrowded old.honest posting (verdict_step posting old now verdict) result
