-- Changes that a server was asked for, in place of a command that could not open the image.
use Rattle.std.specs.Prelude.{◌≡◌, ◌⊎◌, if◌then◌else◌, ℕ, true, false, List, [], ◌∷◌, ◌++◌, Option, Some, None, Result, Ok, Err, codes, string_bytes}
use Rattle.std.specs.Io.KnownBytes.{Appends}
use Rattle.std.specs.declared.alloc.Global.{Global}
use Rattle.std.specs.declared.string.String.{String}
use Rattle.file_device.specs.FileCalls.{FileHistory}
use Rattle.file_device.specs.FileUses.{FileUse, NotOpened}
use Rattle.image_commands.specs.declared.fault.ImageFault.{ImageFault}
use Rattle.turns.specs.WireCalls.{WireCall}
use Rattle.admin_lines.specs.Replies.{reply}
use Rattle.admin_lines.specs.declared.reply.ReplyFault.{ReplyFault}
use Rattle.admin_client.specs.declared.answer.AdminAnswer.{AdminAnswer}
use Rattle.admin_client.specs.Asking.{IsAsked, IsAnsweredInVain}
use Rattle.admin_socket.specs.SocketCalls.{SocketCall, Connected}
use Rattle.gopher_host.specs.Faults.{ended, memory_fault, output_fault}
use Rattle.gopher_host.specs.ImageFiles.{IsNotThere, OpensThen}
use Rattle.gopher_host.specs.declared.fault.Fault.{Fault}
use Rattle.gopher_host.specs.declared.fault.Fault.TheVariants as faults

-- the socket of this name, or else the one beside an image
abbrev pub socket_name : Option (List ℕ) → List ℕ → List ℕ
socket_name (Some name) image = name
socket_name None image = image ++ codes ".admin"

-- the text of an answer, where all was done; else the fault
abbrev pub answer_of : AdminAnswer → Result (String Global) Fault
answer_of answer = if answer.done then Ok answer.text else Err (faults.Told answer.text)

-- What a server answered that was asked for the changes of a file: this text, where all were made; or the fault, by the text or since it is no reply; or there was no memory for it.
abbrev pub GivesAnswer : List ℕ → Result (String Global) Fault → Type 0
GivesAnswer file (Ok text) = (made : List WireCall) × IsAsked file (reply true (string_bytes text)) made
GivesAnswer file (Err fault) =
    ((text : String Global) × (made : List WireCall) × (fault ≡ faults.Told text) × IsAsked file (reply false (string_bytes text)) made)
    ⊎ (((cause : ReplyFault) × (made : List WireCall) × (fault ≡ faults.Reply cause) × IsAnsweredInVain file made)
    ⊎ (fault ≡ memory_fault))

-- Nobody answered on the socket, if it was asked at all.
abbrev pub IsNobody : List ℕ → List SocketCall → List SocketCall → Type 0
IsNobody name before now = (now ≡ before) ⊎ (now ≡ before ++ Connected name false ∷ [])

-- An image could not be had. On the socket nobody answered, and the image's fault is answered, or that there was no memory; or somebody did, who was asked.
abbrev pub AsksInstead : List ℕ → List ℕ → List SocketCall → List SocketCall → Result (String Global) Fault → Type 0
AsksInstead name file before now result =
    ((fault : ImageFault) × IsNotThere fault × (result ≡ Err (faults.Image fault)) × IsNobody name before now)
    ⊎ ((now ≡ before ++ Connected name true ∷ []) × GivesAnswer file result)

-- That text is printed as this line, or standard output took no more, or there was no memory for the line.
abbrev pub PrintsAnswer : {W X : Type 0} → (List ℕ → List ℕ) → Result (String Global) Fault → (W → Option (List ℕ)) → W → W → Result X Fault → Type 0
PrintsAnswer line (Ok text) contents old new (Ok _) = Appends (contents old) (contents new) (ended (line (string_bytes text)))
PrintsAnswer line (Ok text) contents old new (Err fault) = (fault ≡ output_fault) ⊎ ((fault ≡ memory_fault) × (new ≡ old))
PrintsAnswer line (Err refused) contents old new (Ok _) = ⊥
PrintsAnswer line (Err refused) contents old new (Err fault) = (fault ≡ refused) × (new ≡ old)

-- The image was not opened, and somebody answered on the socket, who was asked.
pub record AsksServer {W X : Type 0} (image name file : List ℕ) (line : List ℕ → List ℕ) (contents : W → Option (List ℕ)) (used_before used_now : List FileUse) (sockets_before sockets_now : List SocketCall) (old new : W) (result : Result X Fault) : Type 0 where
  pub unopened : used_now ≡ used_before ++ NotOpened image ∷ []
  pub connected : sockets_now ≡ sockets_before ++ Connected name true ∷ []
  pub given : Result (String Global) Fault
  pub gives : GivesAnswer file given
  pub printed : PrintsAnswer line given contents old new result

-- The image was opened, and no socket was asked; or it was not, and that is answered, since nobody answered on the socket.
abbrev pub OpensUnasked : {W X : Type 0} → List ℕ → List ℕ → List FileUse → List FileUse → List SocketCall → List SocketCall → W → W → Result X Fault → (FileHistory → FileHistory → Type 0) → Type 0
OpensUnasked image name used_before used_now sockets_before sockets_now old new result Holds =
    OpensThen image used_before used_now result ((new ≡ old) × IsNobody name sockets_before sockets_now) (λ opened left. (sockets_now ≡ sockets_before) × Holds opened left)
