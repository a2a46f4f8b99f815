-- What a draw does to its session, to its buffer and to its site.
use Rattle.std.specs.Prelude.{◌≡◌, ◌≤◌, ℕ, Bool, true, List, length, Option, Some, Result, Ok, Err, OnErr, OnOk, IfOk, IfErr, IsTrue}
use Rattle.host_types.specs.SiteState.{SiteState, Rose, IsUnchangedBehind}
use Rattle.host_types.specs.Pins.{Pinned}
use Rattle.host_types.specs.CrashStates.{CrashStates, AddsNone}
use Rattle.group_world.specs.World as world
use Rattle.group_world.specs.Step.{draws}
use Rattle.group_world.specs.Outcomes.{drawn_outcome, drawn_length}
use Rattle.group_world.specs.declared.answer.Drawn.{Drawn}
use Rattle.group_world.specs.declared.answer.Drawn.TheVariants as drawn
use Rattle.group_world.specs.declared.fault.HubFault.{HubFault}
use Rattle.group_world.specs.declared.fault.HubFault.TheVariants as hub
use Rattle.group_hub.specs.Counting.{CountsCall}
use Rattle.group_hub.specs.Understood.{KeepsSite, IsDrawFault, DrawHasBegun}
use Rattle.group_hub.specs.Sessions.{phase_of, is_waiting}
use Rattle.group_hub.specs.declared.session.Phase.{Phase}

-- so many bytes of a view as what was drawn
abbrev pub view_drawn : Result (ℕ × Bool) HubFault → Result Drawn HubFault
view_drawn (Ok r) = Ok (drawn.Bytes r.0)
view_drawn (Err fault) = Err fault

-- What a draw does: to a session that was in one phase and is in another, to a site, to the crash states, and to the buffer.
pub record DrawsReply {P L : Type 0} (pinned : P → Pinned) (before after : Phase P) (old new : SiteState) (first now : CrashStates L) (out_old out_new : List ℕ) (result : Result Drawn HubFault) : Type 0 where
  -- the next bytes, as many as there are and fit
  pub gives : IsTrue old.honest → IfOk result (λ d. drawn_outcome d out_new ≡ (draws (length out_old) (phase_of pinned old before)).outcome)
  -- what is left behind them
  pub phase : IsTrue old.honest → OnOk result (phase_of pinned new after ≡ (draws (length out_old) (phase_of pinned old before)).phase)
  pub err : OnErr result (phase_of pinned new after ≡ phase_of pinned old before)
  pub waits : is_waiting after ≡ is_waiting before
  pub kept : KeepsSite old new
  -- no reply is there yet, or a read failed
  pub fault : IfErr result (IsDrawFault old new (phase_of pinned old before))
  pub counts : CountsCall result old new
  pub at_crash : IsTrue old.honest → AddsNone first now
  -- no more than fits, and behind it the buffer stays
  pub within : IfOk result (λ d. drawn_length d ≤ length out_old)
  pub behind : IfOk result (λ d. IsUnchangedBehind (drawn_length d) out_old out_new)
  -- where a read failed the front of the buffer may have the next bytes
  pub begun : OnErr result (DrawHasBegun old.honest (phase_of pinned old before) out_old out_new)
  pub untouched : IfErr result (λ e. e ≡ hub.NotReady → out_new ≡ out_old)

-- Where a session's reply is there, only a read that failed keeps a draw from it.
abbrev pub OnlyReadsBreak : Option world.Phase → SiteState → SiteState → Result Drawn HubFault → Type 0
OnlyReadsBreak phase old new result = IsTrue old.honest → old.usable ≡ true → (rest : List ℕ) → phase ≡ Some (world.Reply rest) → IfErr result (λ e. (e ≡ hub.Broken) × Rose old.failed_reads new.failed_reads)
