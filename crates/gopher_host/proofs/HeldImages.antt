-- An image that a command reads where a server has it, put together.
use Rattle.std.proofs.Common.{◌≡◌, inl, inr, ℕ, Bool, true, false, List, [], ◌∷◌, ◌++◌, Ok, Err, refl, sym, subst}
use Rattle.std.specs.Prelude.{Result}
use Rattle.file_device.specs.FileCalls.{FileHistory}
use Rattle.file_device.specs.FileUses.{FileUse, Opened, NotOpened, Left}
use Rattle.file_device.specs.Opening.{IsOpenedToRead, IsUnused}
use Rattle.image_commands.specs.declared.fault.ImageFault.{ImageFault}
use Rattle.image_commands.specs.declared.fault.ImageFault.TheVariants.{NoFile}
use Rattle.turns.specs.WireCalls.{WireCall, HasMade}
use Rattle.admin_client.specs.Holding.{IsHoldAsked}
use Rattle.admin_socket.specs.SocketCalls.{SocketCall}
use Rattle.gopher_host.specs.Held.{WasHeld, LetsGo, OnHeld, held, not_held, gone, late, no_memory, HasImage, lacking}
use Rattle.gopher_host.specs.ImageFiles.{IsNotThere}
use Rattle.gopher_host.specs.declared.fault.Fault.{Fault}
use Rattle.gopher_host.specs.declared.fault.Fault.TheVariants as faults

module _ (image : List ℕ) (before : List FileUse) (old new : List WireCall) (asked : Bool) (made : HasMade old new (λ made. IsHoldAsked made asked)) where
  pub unheld : asked ≡ false → OnHeld image before before (Err faults.NotHeld)
  unheld is = not_held made.0 (subst (λ b. IsHoldAsked made.0 b) is made.2) refl

  pub vanished : (now : List FileUse) (fault : ImageFault) → asked ≡ true → IsNotThere fault → now ≡ before ++ NotOpened image ∷ [] → OnHeld image before now (Err (faults.Image fault))
  vanished now fault is there noted = gone made.0 fault (subst (λ b. IsHoldAsked made.0 b) is made.2) there noted

  pub kept : (now : List FileUse) (opened : FileHistory) (wold wnew : List WireCall) → asked ≡ true → now ≡ before ++ Opened opened ∷ [] → opened.path ≡ image → IsOpenedToRead opened → IsUnused opened → HasMade wold wnew WasHeld → OnHeld image before now (Ok opened)
  kept now opened wold wnew is noted named calls unused last = held opened made.0 last.0 (subst (λ b. IsHoldAsked made.0 b) is made.2) noted named calls unused last.2

  pub let_go_late : {X : Type 0} (now : List FileUse) (opened : FileHistory) (wold wnew : List WireCall) (result : Result X Fault) (fault : Fault) → asked ≡ true → now ≡ before ++ Opened opened ∷ Left opened ∷ [] → result ≡ Err fault → LetsGo wold wnew result → OnHeld image before now (Err fault)
  let_go_late {X = X} now opened wold wnew result fault is used err goes = by (subst (λ r. LetsGo wold wnew r) err goes)
    where
      by : LetsGo {X = X} wold wnew (Err fault) → OnHeld image before now (Err fault)
      by (inl (not, last)) = subst (λ f. OnHeld image before now (Err f)) (sym not) (late opened made.0 last.0 (subst (λ b. IsHoldAsked made.0 b) is made.2) used last.2)
      by (inr memory) = subst (λ f. OnHeld image before now (Err f)) (sym memory) (no_memory opened made.0 (subst (λ b. IsHoldAsked made.0 b) is made.2) used)

-- an image for which there is no memory
pub lacking_then : (image : List ℕ) (before now : List FileUse) (none sockets : List SocketCall) (fault : ImageFault) → IsNotThere fault → (fault ≡ NoFile → ⊥) → now ≡ before ++ NotOpened image ∷ [] → sockets ≡ none → HasImage image before now none sockets (Err (faults.Image fault))
lacking_then image before now none sockets fault (inl no_file) other noted unasked = absurd (other no_file)
lacking_then image before now none sockets fault (inr memory) other noted unasked = subst (λ f. HasImage image before now none sockets (Err (faults.Image f))) (sym memory) (lacking noted unasked)
