-- What the administrator's office does in a turn.
use Rattle.std.specs.Prelude.{◌≡◌, ℕ, Bool, true, false, not, ◌&&◌, ◌||◌, if◌then◌else◌, Option, Some, None, List, [], ◌∷◌, ◌++◌}
use Rattle.group_world.specs.declared.event.Event.{Event}
use Rattle.group_world.specs.declared.event.Outcome.{Outcome}
use Rattle.change_file.specs.declared.fault.ApplyFault.{ApplyFault}
use Rattle.turns.specs.Turns.{Trace, trace, nothing, then as one_after}
use Rattle.turns.specs.WireCalls.{WireCall, Closed}
use Rattle.daily_server.specs.Offices.{WorksOf}
use Rattle.daily_server.specs.declared.pace.Pace.{Pace}
use Rattle.daily_server.specs.declared.pace.Pace.TheVariants.{Idle, Waits, Busy}
use Rattle.admin_office.specs.Requests.{TakesStep, is_late}
use Rattle.admin_office.specs.Tasks.{Task, Hearing, Holding, Making, Telling, Over, task_of}
use Rattle.admin_office.specs.declared.gate_log.Arrival.{Arrival}
use Rattle.admin_office.specs.declared.gate_log.Arrival.TheVariants.{Came, Nobody}
use Rattle.admin_office.specs.declared.office.AdminOffice.{AdminOffice}
use Rattle.admin_office.specs.declared.request.Request.{Request}

-- How far a request is, whether it rests until its wire is ready, and at which second something was last sent, taken or made.
pub record RequestState : Type 0 where
  pub task : Task
  pub rests : Bool
  pub moved : ℕ

abbrev pub state_of : {W : Type 0} → Request W → RequestState
state_of request = record { task = task_of request.stage; rests = request.rests; moved = request.moved }

abbrev pub is_over : Task → Bool
is_over (Hearing heard) = false
is_over Holding = false
is_over (Making left count) = false
is_over (Telling unsent) = false
is_over Over = true

-- ---- a request, by the text of a change that was not made

-- A turn, by whether it rests. Where it doesn't rest afterwards, it moved.
abbrev pub TakesTurn : (ApplyFault → List ℕ) → Bool → ℕ → RequestState → Trace → RequestState → Type 0
TakesTurn text true now before t after = (t ≡ nothing) × (after ≡ before)
TakesTurn text false now before t after = TakesStep text before.task t after.task after.rests × (after.moved ≡ (if after.rests then before.moved else now))

abbrev pub HasRequestTurn : (ApplyFault → List ℕ) → Bool → ℕ → RequestState → Trace → RequestState → Type 0
HasRequestTurn text called now before t after = TakesTurn text (before.rests && not called) now before t after

-- it is dismissed where its time is over: its connection is closed
abbrev pub LeavesIf : Bool → RequestState → Trace → RequestState → Type 0
LeavesIf true before t after = (t ≡ trace (Closed ∷ []) [] []) × (after.task ≡ Over)
LeavesIf false before t after = (t ≡ nothing) × (after ≡ before)

abbrev pub IsLetGo : ℕ → RequestState → Trace → RequestState → Type 0
IsLetGo now before t after = LeavesIf (is_late before.moved now && not (is_over before.task)) before t after

-- It has a turn, unless it rests and is not called; then it goes where its time is over.
pub record IsServed (text : ApplyFault → List ℕ) (called : Bool) (now : ℕ) (before : RequestState) (t : Trace) (after : RequestState) : Type 0 where
  pub mid : RequestState
  pub first : Trace
  pub last : Trace
  pub turn : HasRequestTurn text called now before first mid
  pub dismissed : IsLetGo now mid last after
  pub is : t ≡ one_after first last

-- it is in no more where it is over
abbrev pub in_still : {W : Type 0} → Request W → Option (Request W)
in_still request = if is_over (task_of request.stage) then None else Some request

-- This is done for a request.
pub record ForRequest {W : Type 0} (calls : W → List WireCall) (Does : RequestState → Trace → RequestState → Type 0) (old : Request W) (es : List Event) (os : List Outcome) (new : Request W) : Type 0 where
  pub made : List WireCall
  pub calls_are : calls new.wire ≡ calls old.wire ++ made
  pub does : Does (state_of old) (trace made es os) (state_of new)

-- ---- the office

-- A request of which nothing was heard yet, on a wire of which no call was made.
pub record IsNewRequest {W : Type 0} (calls : W → List WireCall) (now : ℕ) (request : Request W) : Type 0 where
  pub state : state_of request ≡ record { task = Hearing []; rests = false; moved = now }
  pub unread : calls request.wire ≡ []

-- An office with this gate and these texts in which nobody is, and of which nothing was asked.
abbrev pub IsNewOffice : {W G T : Type 0} → G → T → AdminOffice G W T → Type 0
IsNewOffice gate texts office = (office.gate ≡ gate) × (office.texts ≡ texts) × (office.request ≡ None) × (office.knocks ≡ true)

-- by whether somebody came
abbrev pub HasCome : {W G T : Type 0} → (W → List WireCall) → Arrival → ℕ → AdminOffice G W T → Type 0
HasCome {W = W} calls Came now new = (request : Request W) × IsNewRequest calls now request × (new.request ≡ Some request) × (new.knocks ≡ true)
HasCome calls Nobody now new = (new.request ≡ None) × (new.knocks ≡ false)

-- Nobody is in: where somebody may be at the gate, it is asked once.
abbrev pub Receives : {W G T : Type 0} → (W → List WireCall) → (G → List Arrival) → Bool → ℕ → G → AdminOffice G W T → Type 0
Receives calls answers true now gate new = (came : Arrival) × (answers new.gate ≡ answers gate ++ came ∷ []) × HasCome calls came now new
Receives calls answers false now gate new = (new.gate ≡ gate) × (new.request ≡ None) × (new.knocks ≡ false)

-- By whether a request is in: it is served; or nobody is in, and there is no event.
abbrev pub WorksFor : {W G T : Type 0} → (W → List WireCall) → (G → List Arrival) → (ApplyFault → List ℕ) → Option (Request W) → WorksOf (AdminOffice G W T)
WorksFor {W = W} calls answers text (Some request) called now old es os new =
    (after : Request W) × ForRequest calls (IsServed text called now) request es os after × (new.request ≡ in_still after)
    × (new.gate ≡ old.gate) × (new.knocks ≡ (old.knocks || called))
WorksFor calls answers text None called now old es os new = (es ≡ []) × (os ≡ []) × Receives calls answers (old.knocks || called) now old.gate new

abbrev pub Works : {W G T : Type 0} → (W → List WireCall) → (G → List Arrival) → (T → ApplyFault → List ℕ) → WorksOf (AdminOffice G W T)
Works calls answers texts called now old es os new = WorksFor calls answers (texts old.texts) old.request called now old es os new × (new.texts ≡ old.texts)

-- how long it lets a wait last: not at all while somebody may be at the gate, or a request has a turn
abbrev pub pace_for : {W : Type 0} → Option (Request W) → Bool → Pace
pace_for (Some request) knocks = if request.rests then Waits else Busy
pace_for None knocks = if knocks then Busy else Idle

abbrev pub pace_of : {W G T : Type 0} → AdminOffice G W T → Pace
pace_of office = pace_for office.request office.knocks
