-- What a closed verdict makes of a session, and what stands where it could not be answered.
use Rattle.std.specs.Prelude.{◌≡◌, ◌<◌, ◌≤◌, ℕ, Bool, true, false, List, length, take, drop, Option, Some, None, Result, OnErr, IfOk, IfErr, IsTrue, nat_lt}
use Rattle.host_types.specs.Site.{Site}
use Rattle.host_types.specs.SiteState.{SiteState, Rose, HasNotChanged, IsUnchangedBehind}
use Rattle.host_types.specs.AllChanges.{Changes}
use Rattle.host_types.specs.declared.change.Change.{Change}
use Rattle.host_types.specs.declared.site_fault.SiteFault.{SiteFault}
use Rattle.host_types.specs.declared.site_fault.SiteFault.TheVariants as faults
use Rattle.request_reader.specs.Verdict.{Verdict, Open, Early as EndedEarly, Whole, Bad}
use Rattle.site_replies.specs.Reply.{WholeAnswer, without_post, reply, bad_reply}
use Rattle.group_world.specs.World.{Phase, Heard, Waits, Reply, Early}
use Rattle.group_world.specs.Outcomes.{drawn_length}
use Rattle.group_world.specs.declared.answer.Drawn.{Drawn}
use Rattle.group_world.specs.Step.{StepResult, says, replies, settles}
use Rattle.group_world.specs.Calls.{IsKeeperLacking, IsUnspent}
use Rattle.group_world.specs.Run.{is_hearing, has_bytes_left}
use Rattle.host_types.specs.Pins.{most_pins}
use Rattle.group_world.specs.declared.event.Outcome.TheVariants.{Ready, Finished}
use Rattle.group_world.specs.declared.fault.HubFault.{HubFault}
use Rattle.group_world.specs.declared.fault.HubFault.TheVariants as hub

-- the reply, where there is one
abbrev pub reply_by : Site → ℕ → Verdict → Option WholeAnswer
reply_by site now Open = None
reply_by site now EndedEarly = None
reply_by site now (Whole request) = Some (reply site request now)
reply_by site now (Bad cause) = Some (without_post (bad_reply cause))

-- a session with that reply, or without one
abbrev pub answered : Option WholeAnswer → StepResult
answered None = says Finished Early
answered (Some a) = replies a

abbrev pub post_of : Option WholeAnswer → Option Change
post_of None = None
post_of (Some a) = a.post

-- what a verdict that is not open comes to, where posts wait or don't
abbrev pub concluded : Bool → Site → ℕ → Verdict → StepResult
concluded grouped site now Open = says Finished Early
concluded grouped site now EndedEarly = says Finished Early
concluded grouped site now (Whole request) = settles grouped request now (reply site request now)
concluded grouped site now (Bad cause) = says Ready (Reply (bad_reply cause))

abbrev pub is_whole : Verdict → Bool
is_whole Open = false
is_whole EndedEarly = false
is_whole (Whole request) = true
is_whole (Bad cause) = false

-- A write or a sync failed in this call, which has changes to make.
pub record HasFailedNow (old new : SiteState) (changes : Changes) : Type 0 where
  pub site : IsTrue old.honest → new.site ≡ old.site
  pub shut : new.usable ≡ false
  pub cause : IsTrue old.honest → Rose old.failed_writes new.failed_writes
  pub change : IsTrue old.honest → nat_lt 0 (length changes) ≡ true

-- What stands where changes could not be made, and why: a reply that was made needs no session. `Crowded`: the post may not come to wait.
abbrev pub IsPostFault : (Changes → SiteFault → Type 0) → Changes → SiteState → SiteState → HubFault → Type 0
IsPostFault lacks changes old new hub.Memory = HasNotChanged old new
IsPostFault lacks changes old new hub.Crowded = HasNotChanged old new
IsPostFault lacks changes old new hub.Broken = HasNotChanged old new × (IsTrue old.honest → Rose old.failed_reads new.failed_reads)
IsPostFault lacks changes old new (hub.Full need free) = HasNotChanged old new × ((free ≡ old.free) × (free < need)) × (IsTrue old.honest → IsKeeperLacking lacks changes (faults.Full need free) × IsUnspent lacks changes)
IsPostFault lacks changes old new hub.Spent = HasNotChanged old new × (IsTrue old.honest → IsKeeperLacking lacks changes faults.Spent)
IsPostFault lacks changes old new hub.Deep = HasNotChanged old new × (IsTrue old.honest → IsKeeperLacking lacks changes faults.Deep × IsUnspent lacks changes)
IsPostFault lacks changes old new hub.Failed = HasFailedNow old new changes
IsPostFault lacks changes old new hub.Unknown = ⊥
IsPostFault lacks changes old new (hub.Refused refused) = ⊥
IsPostFault lacks changes old new hub.NotReady = ⊥

-- ---- what a session leaves of the keeper

-- Whatever a session is answered, the keeper is as honest as before, and counts don't fall.
pub record HasWorked (old new : SiteState) : Type 0 where
  pub honest : new.honest ≡ old.honest
  pub reads : old.failed_reads ≤ new.failed_reads
  pub writes : old.failed_writes ≤ new.failed_writes

-- One that hears something may pin the site.
abbrev pub HasRoomFor : SiteState → Phase → Type 0
HasRoomFor h phase = is_hearing (Some phase) ≡ true → length h.pins < most_pins

-- there is no reply yet: the request isn't whole, or its post waits
abbrev pub has_no_reply : Phase → Bool
has_no_reply (Heard stream) = true
has_no_reply (Waits request now) = true
has_no_reply (Reply rest) = false
has_no_reply Early = false

-- A draw changes nothing of the site. It may give its pin back, so that more is free.
pub record KeepsSite (old new : SiteState) : Type 0 where
  pub site : IsTrue old.honest → new.site ≡ old.site
  pub honest : new.honest ≡ old.honest
  pub usable : new.usable ≡ old.usable
  pub reads : old.failed_reads ≤ new.failed_reads
  pub writes : new.failed_writes ≡ old.failed_writes
  pub free : old.free ≤ new.free

-- What stands where a draw gives nothing, and why: no reply is there yet, or a read failed while bytes were left.
abbrev pub IsDrawFault : SiteState → SiteState → Phase → HubFault → Type 0
IsDrawFault old new phase hub.NotReady = has_no_reply phase ≡ true
IsDrawFault old new phase hub.Broken = IsTrue old.honest → (has_bytes_left (Some phase) ≡ true) × Rose old.failed_reads new.failed_reads
IsDrawFault old new phase fault = ⊥

-- After a fault of a draw the front of its buffer may have the next bytes; behind them it stays.
pub record DrawHasBegun (honest : Bool) (phase : Phase) (old new : List ℕ) : Type 0 where
  pub count : ℕ
  pub within : count ≤ length new
  pub behind : drop count new ≡ drop count old
  pub next : IsTrue honest → (rest : List ℕ) → phase ≡ Reply rest → take count new ≡ take count rest

-- What a draw on a session in that phase does to its buffer, on any device: it gives at most as many bytes as fit, and what stands behind them stays. After `Broken` the front may have some of the next bytes; after any other fault the whole buffer stays.
pub record FillsOut (honest : Bool) (phase : Option Phase) (old new : List ℕ) (result : Result Drawn HubFault) : Type 0 where
  pub within : IfOk result (λ d. drawn_length d ≤ length old)
  pub behind : IfOk result (λ d. IsUnchangedBehind (drawn_length d) old new)
  pub untouched : IfErr result (λ e. (e ≡ hub.Broken → ⊥) → new ≡ old)
  pub begun : OnErr result ((rest : List ℕ) → phase ≡ Some (Reply rest) → DrawHasBegun honest (Reply rest) old new)
