-- An image that a command reads, also where a server has it.
use Rattle.std.specs.Prelude.{◌≡◌, ◌⊎◌, ℕ, true, false, List, [], ◌∷◌, ◌++◌, None, Result, Ok, Err}
use Rattle.file_device.specs.FileCalls.{FileHistory}
use Rattle.file_device.specs.FileUses.{FileUse, Opened, NotOpened, Left}
use Rattle.file_device.specs.Opening.{IsOpened, IsOpenedToRead, IsUnused}
use Rattle.file_device.specs.declared.file_call.FileCall.TheVariants.{Open, Lock}
use Rattle.image_commands.specs.declared.fault.ImageFault.{ImageFault}
use Rattle.turns.specs.WireCalls.{WireCall, HasMade}
use Rattle.admin_lines.specs.Replies.{reply}
use Rattle.admin_client.specs.Holding.{IsHoldAsked, IsReleased, IsReleasedInVain}
use Rattle.admin_socket.specs.SocketCalls.{SocketCall, Connected}
use Rattle.gopher_host.specs.Asked.{IsNobody, socket_name}
use Rattle.gopher_host.specs.Faults.{memory_fault}
use Rattle.gopher_host.specs.ImageFiles.{IsNotThere}
use Rattle.gopher_host.specs.declared.fault.Fault.{Fault}
use Rattle.gopher_host.specs.declared.fault.Fault.TheVariants as faults

-- A server was let go on, and answered that it held still until then.
abbrev pub WasHeld : List WireCall → Type 0
WasHeld made = (text : List ℕ) × IsReleased (reply true text) made

-- Or it did not, or its answer is none.
abbrev pub WasNotHeld : List WireCall → Type 0
WasNotHeld made = ((text : List ℕ) × IsReleased (reply false text) made) ⊎ IsReleasedInVain made

abbrev pub LetsGo : {X : Type 0} → List WireCall → List WireCall → Result X Fault → Type 0
LetsGo old new (Ok _) = HasMade old new WasHeld
LetsGo old new (Err fault) = ((fault ≡ faults.NotHeld) × HasMade old new WasNotHeld) ⊎ (fault ≡ memory_fault)

-- What came of the file of an image that a server has which is asked to hold still. It was opened for reads alone behind that, and the server was let go on behind its last sector: then all sectors are as they were at one moment. Or the server didn't hold still from before until behind that; or the file can't be had.
pub data OnHeld (image : List ℕ) (before now : List FileUse) : Result FileHistory Fault → Type 0 where
  held : (opened : FileHistory) (first last : List WireCall) → IsHoldAsked first true → now ≡ before ++ Opened opened ∷ [] → opened.path ≡ image → IsOpenedToRead opened → IsUnused opened → WasHeld last → OnHeld image before now (Ok opened)
  not_held : (first : List WireCall) → IsHoldAsked first false → now ≡ before → OnHeld image before now (Err faults.NotHeld)
  gone : (first : List WireCall) (fault : ImageFault) → IsHoldAsked first true → IsNotThere fault → now ≡ before ++ NotOpened image ∷ [] → OnHeld image before now (Err (faults.Image fault))
  late : (opened : FileHistory) (first last : List WireCall) → IsHoldAsked first true → now ≡ before ++ Opened opened ∷ Left opened ∷ [] → WasNotHeld last → OnHeld image before now (Err faults.NotHeld)
  no_memory : (opened : FileHistory) (first : List WireCall) → IsHoldAsked first true → now ≡ before ++ Opened opened ∷ Left opened ∷ [] → OnHeld image before now (Err memory_fault)

-- What came of an image that another program has: nobody answered on the socket beside it, or somebody did.
pub data OnServed (image : List ℕ) (before now : List FileUse) (none sockets : List SocketCall) : Result FileHistory Fault → Type 0 where
  nobody : (fault : ImageFault) → IsNotThere fault → now ≡ before → IsNobody (socket_name None image) none sockets → OnServed image before now none sockets (Err (faults.Image fault))
  answered : (result : Result FileHistory Fault) → sockets ≡ none ++ Connected (socket_name None image) true ∷ [] → OnHeld image before now result → OnServed image before now none sockets result

-- What came of an image that is to be read: its file was opened for this program alone; there is no memory for it; or it can't be had, and the server was asked that may have it.
pub data HasImage (image : List ℕ) (before now : List FileUse) (none sockets : List SocketCall) : Result FileHistory Fault → Type 0 where
  alone : (opened : FileHistory) → now ≡ before ++ Opened opened ∷ [] → opened.path ≡ image → IsOpened (Lock ∷ Open ∷ []) opened → IsUnused opened → sockets ≡ none → HasImage image before now none sockets (Ok opened)
  lacking : now ≡ before ++ NotOpened image ∷ [] → sockets ≡ none → HasImage image before now none sockets (Err memory_fault)
  served : (result : Result FileHistory Fault) → OnServed image (before ++ NotOpened image ∷ []) now none sockets result → HasImage image before now none sockets result

-- It was had so, let go of behind that as `left`, and this holds of what was done in between. No other file was opened as a device.
pub record OnReadImage (image : List ℕ) (before now : List FileUse) (none sockets : List SocketCall) (Holds : FileHistory → FileHistory → Type 0) : Type 0 where
  pub opened : FileHistory
  pub left : FileHistory
  pub between : List FileUse
  pub had : HasImage image before between none sockets (Ok opened)
  pub used : now ≡ between ++ Left left ∷ []
  pub holds : Holds opened left

-- It was not had: that is answered, and nothing is done. Or it was, and this holds.
abbrev pub ReadsImage : {X : Type 0} → List ℕ → List FileUse → List FileUse → List SocketCall → List SocketCall → Result X Fault → Type 0 → (FileHistory → FileHistory → Type 0) → Type 0
ReadsImage image before now none sockets result Untouched Holds =
    ((fault : Fault) × HasImage image before now none sockets (Err fault) × (result ≡ Err fault) × Untouched)
    ⊎ OnReadImage image before now none sockets Holds
