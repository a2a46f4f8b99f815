-- What the program says of a fault: one line, a second one where there is something to do about it, and one about the change or the name that was refused.
use Rattle.std.specs.Prelude.{◌⊎◌, ℕ, List, [], ◌∷◌, ◌++◌, Option, Some, None, codes, string_bytes}
use Rattle.std.specs.Io.KnownBytes.{Appends}
use Rattle.std.specs.declared.net.socket_addr.SocketAddr.{SocketAddr}
use Rattle.host_types.specs.declared.site_fault.SiteFault.{SiteFault}
use Rattle.host_types.specs.declared.site_fault.SiteFault.TheVariants as site
use Rattle.change_file.specs.Printed.{file_line}
use Rattle.host_script.specs.Printed.{fault_text}
use Rattle.host_script.specs.declared.fault.ReplayFault.TheVariants as script
use Rattle.image_runs.specs.StoppedLines.{stopped_line}
use Rattle.image_commands.specs.Faults.{of_opening}
use Rattle.image_commands.specs.FaultLines.{fault_line, advice, store_advice}
use Rattle.image_commands.specs.declared.fault.ImageFault.{ImageFault}
use Rattle.image_commands.specs.declared.fault.ImageFault.TheVariants as images
use Rattle.page_store.specs.declared.fault.KeeperFault.{KeeperFault}
use Rattle.page_store.specs.declared.fault.KeeperFault.TheVariants as store
use Rattle.image_copies.specs.CopyFaults.{copy_fault_line, copy_advice}
use Rattle.image_items.specs.ItemLines.{item_line}
use Rattle.common_types.specs.PrintedNames.{change_line, refused_name}
use Rattle.image_server.specs.Lines.{serving_line, round_line}
use Rattle.image_server.specs.declared.serving.ServingFault.TheVariants as serving
use Rattle.daily_server.specs.declared.listen_fault.NetCause.{NetCause}
use Rattle.admin_lines.specs.declared.reply.ReplyFault.{ReplyFault}
use Rattle.admin_lines.specs.declared.reply.ReplyFault.TheVariants as reply
use Rattle.admin_socket.specs.declared.listening.SocketFault.{SocketFault}
use Rattle.admin_socket.specs.declared.listening.SocketFault.TheVariants as socket
use Rattle.change_file.specs.declared.fault.ApplyFault.{ApplyFault}
use Rattle.change_file.specs.declared.fault.ChangeFileFault.TheVariants as file
use Rattle.gopher_host.specs.Advice.{lack_advice, making_advice, refused_advice, stopped_advice, file_advice, item_advice, listener_advice, folder_advice, socket_advice, reply_advice}
use Rattle.gopher_host.specs.declared.fault.Fault.{Fault}
use Rattle.gopher_host.specs.declared.refused_words.NameWord.{NameWord}
use Rattle.gopher_host.specs.declared.refused_words.NameWord.TheVariants as words
use Rattle.gopher_host.specs.declared.fault.Fault.TheVariants.{Image, NotHad, NotMade, There, Compact, Copy, Changes, Flaw, NoChanges, Stopped, Refused, RefusedName, Item, NoFolder, LeftOut, Serving, Round, Script, Socket, Told, ToldOf, Reply, NotHeld}

-- standard output takes no more
abbrev pub output_fault : Fault
output_fault = Script script.Output

abbrev pub memory_fault : Fault
memory_fault = Image images.Memory

-- a line with its LF
abbrev pub ended : List ℕ → List ℕ
ended line = line ++ 10 ∷ []

-- no socket stands on which administrators come
abbrev pub socket_line : SocketFault → List ℕ
socket_line socket.Taken = codes "admin: Taken"
socket_line socket.There = codes "admin: There"
socket_line socket.NoSocket = codes "admin: NoSocket"

-- a server's answer is none
abbrev pub reply_line : ReplyFault → List ℕ
reply_line reply.Cut = codes "reply: Cut"
reply_line reply.NoReply = codes "reply: NoReply"

-- the line of a fault, without its LF
abbrev pub line_of : Fault → List ℕ
line_of (Image fault) = fault_line fault
line_of (NotHad lack) = fault_line images.NoFile
line_of (NotMade lack) = fault_line images.NoFile
line_of There = codes "image: There"
line_of (Compact fault) = fault_line fault
line_of (Copy fault) = copy_fault_line fault
line_of (Changes fault) = file_line fault
line_of (Flaw fault line) = file_line fault
line_of NoChanges = file_line file.NotToml
line_of (Stopped stopped) = stopped_line stopped
line_of (Refused number refused line) = change_line number (refused_name refused)
line_of (RefusedName refused word) = fault_line (images.Refused refused)
line_of (Item fault) = item_line fault
line_of NoFolder = codes "folder: NoFolder"
line_of (LeftOut lines) = string_bytes lines
line_of (Serving fault) = serving_line fault
line_of (Round fault) = round_line fault
line_of (Script fault) = fault_text fault
line_of (Socket fault) = socket_line fault
line_of (Told lines) = string_bytes lines
line_of (ToldOf lines line) = string_bytes lines
line_of (Reply fault) = reply_line fault
line_of NotHeld = codes "image: NotHeld"

-- what to do where an image was not compacted for a store's fault: where it is full, to make it larger
abbrev pub store_compact_advice : KeeperFault → List ℕ
store_compact_advice (store.Full need free) = codes "The command `copy` writes the site into an image with more pages."
store_compact_advice other = store_advice other

abbrev pub compact_advice : ImageFault → List ℕ
compact_advice (images.Store fault) = store_compact_advice fault
compact_advice other = advice other

-- what to do about it, or nothing
abbrev pub advice_of : Fault → List ℕ
advice_of (Image fault) = advice fault
advice_of (NotHad lack) = lack_advice lack
advice_of (NotMade lack) = making_advice lack
advice_of There = codes "Give another name, or make the image in this file by `format`: what it holds is lost then."
advice_of (Compact fault) = compact_advice fault
advice_of (Copy fault) = copy_advice fault
advice_of (Changes fault) = file_advice fault
advice_of (Flaw fault line) = string_bytes line
advice_of NoChanges = codes "The file is not there, or can not be read."
advice_of (Stopped stopped) = stopped_advice stopped.number stopped.fault
advice_of (Refused number refused line) = refused_advice refused
advice_of (RefusedName refused word) = advice (images.Refused refused)
advice_of (Item fault) = item_advice fault
advice_of NoFolder = folder_advice
advice_of (LeftOut lines) = []
advice_of (Serving (serving.Image fault)) = advice (of_opening fault)
advice_of (Serving (serving.Listener at cause)) = listener_advice at cause
advice_of (Serving serving.Net) = codes "The server could not wait for its clients any more."
advice_of (Round fault) = []
advice_of (Script fault) = []
advice_of (Socket fault) = socket_advice fault
advice_of (Told lines) = []
advice_of (ToldOf lines line) = []
advice_of (Reply fault) = reply_advice fault
advice_of NotHeld = codes "The server that has the image did not hold still for long enough while it was read: try again."

-- the line about a word whose name was refused
abbrev pub word_line : NameWord → List ℕ
word_line words.Host = codes "The host is refused: --host."
word_line words.Admin = codes "The administrator is refused: --admin."
word_line words.Title = codes "The title is refused: --title."

-- the line about a change or a name that was refused, where there is one
abbrev pub item_of : Fault → List ℕ
item_of (Refused number refused line) = string_bytes line
item_of (RefusedName refused word) = word_line word
item_of (ToldOf lines line) = string_bytes line
item_of _ = []

-- which change met a fault of the image, where one did
abbrev pub met_other : ℕ → SiteFault → Option ℕ
met_other number (site.Refused refused) = None
met_other number other = Some number

abbrev pub change_that_met : Fault → Option ℕ
change_that_met (Stopped stopped) = met_other stopped.number stopped.fault
change_that_met other = None

-- where no listener was had, and why
abbrev pub listener_of : Fault → Option (SocketAddr × NetCause)
listener_of (Serving (serving.Listener at cause)) = Some (at, cause)
listener_of other = None

-- a line of its own, where there is anything to say
abbrev pub ended_if_any : List ℕ → List ℕ
ended_if_any [] = []
ended_if_any (b ∷ bytes) = ended (b ∷ bytes)

-- The line of a fault was written; or where there was no memory for it, that of lacking memory.
abbrev pub TellsLine : Fault → Option (List ℕ) → Option (List ℕ) → Type 0
TellsLine fault old new = Appends old new (ended (line_of fault)) ⊎ Appends old new (ended (codes "memory"))

-- That line was written, then what to do about it, and then the line about its change or name.
pub record TellsFault (fault : Fault) (old new : Option (List ℕ)) : Type 0 where
  pub between : Option (List ℕ)
  pub advised : Option (List ℕ)
  pub line : TellsLine fault old between
  pub advice : Appends between advised (ended_if_any (advice_of fault))
  pub item : Appends advised new (ended_if_any (item_of fault))

-- a line, and another one where there is anything to say, without the last LF
abbrev pub lines_with : List ℕ → List ℕ → List ℕ
lines_with line [] = line
lines_with line (b ∷ bytes) = line ++ 10 ∷ b ∷ bytes

-- What an administrator is told of a change that was not made: the lines that the program says where it makes changes by itself.
abbrev pub stopped_lines : ApplyFault → List ℕ
stopped_lines stopped = lines_with (stopped_line stopped) (stopped_advice stopped.number stopped.fault)
