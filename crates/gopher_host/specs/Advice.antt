-- What the program says to do about an image that is not had, a file of changes, a change, an item, or an address.
use Rattle.std.specs.Prelude.{ℕ, List, [], ◌++◌, codes, decimal}
use Rattle.std.specs.Net.Text.{socket_text}
use Rattle.std.specs.declared.net.socket_addr.SocketAddr.{SocketAddr}
use Rattle.common_types.specs.declared.refused.Refused.{Refused}
use Rattle.common_types.specs.declared.refused.Refused.TheVariants as refused
use Rattle.host_types.specs.declared.site_fault.SiteFault.{SiteFault}
use Rattle.host_types.specs.declared.site_fault.SiteFault.TheVariants as site
use Rattle.file_names.specs.declared.lacks.Lack.{Lack}
use Rattle.file_names.specs.declared.lacks.Lack.TheVariants as lacks
use Rattle.change_file.specs.declared.fault.ChangeFileFault.{ChangeFileFault}
use Rattle.change_file.specs.declared.fault.ChangeFileFault.TheVariants as file
use Rattle.admin_lines.specs.declared.reply.ReplyFault.{ReplyFault}
use Rattle.admin_lines.specs.declared.reply.ReplyFault.TheVariants as reply
use Rattle.admin_socket.specs.declared.listening.SocketFault.{SocketFault}
use Rattle.admin_socket.specs.declared.listening.SocketFault.TheVariants as socket
use Rattle.image_items.specs.declared.fault.ItemFault.{ItemFault}
use Rattle.image_items.specs.declared.fault.ItemFault.TheVariants as item
use Rattle.daily_server.specs.declared.listen_fault.NetCause.{NetCause}
use Rattle.daily_server.specs.declared.listen_fault.NetCause.TheVariants as causes

-- of an image that is not had, by what stands at its name
abbrev pub lack_advice : Lack → List ℕ
lack_advice lacks.Missing = codes "No file has that name."
lack_advice lacks.Folder = codes "A folder has that name."
lack_advice lacks.Denied = codes "It may not be read and written: the rights of the file or of its folders forbid it, or the disk is read-only."
lack_advice lacks.Locked = codes "Another program has it open."
lack_advice lacks.Unknown = codes "It can not be read and written, or another program had it open."

-- of one that is not made
abbrev pub making_advice : Lack → List ℕ
making_advice lacks.Missing = codes "No file can be made there: its folder is not there, or may not be written."
making_advice lacks.Folder = lack_advice lacks.Folder
making_advice lacks.Denied = lack_advice lacks.Denied
making_advice lacks.Locked = lack_advice lacks.Locked
making_advice lacks.Unknown = lack_advice lacks.Unknown

-- of a change that is refused, by the name of its refusal
abbrev pub refused_advice : Refused → List ℕ
refused_advice refused.BadName = codes "A name is empty or has a byte that it may not have; or a count, a cap or a port is 0, two views have the same name, or an item was to be moved onto itself."
refused_advice refused.TooLong = codes "A name, a text or a list is longer than may be: docs/CHANGE_FILE.md has the limits."
refused_advice refused.Reserved = codes "Selectors of posts and links come by themselves: no change can put them."
refused_advice refused.Missing = codes "Nothing stands at that selector: the command `show` lists what does."
refused_advice refused.NotEmpty = codes "A board with posts stands there: remove them first; the command `posts` lists them."
refused_advice refused.Root = codes "The empty selector always has a menu: another menu can be put there, and nothing else."
refused_advice refused.NotABoard = codes "No board stands where the posts of that form are to go: put it first."
refused_advice refused.WrongAnswers = []
refused_advice refused.WrongWord = []
refused_advice refused.Spent = []

-- which change met another fault
abbrev pub met_by : ℕ → List ℕ
met_by number = codes "Change " ++ decimal number ++ codes " met this; those before it are made."

abbrev pub stopped_advice : ℕ → SiteFault → List ℕ
stopped_advice number (site.Refused refused) = refused_advice refused
stopped_advice number other = met_by number

abbrev pub file_advice : ChangeFileFault → List ℕ
file_advice file.NotToml = codes "The file is no TOML."
file_advice (file.Table number) = codes "A key of that table is missing, unknown, or of another sort: docs/CHANGE_FILE.md has the keys."
file_advice file.Memory = []

abbrev pub item_advice : ItemFault → List ℕ
item_advice (item.Refused refused) = codes "A selector has at most 255 bytes, and no TAB, CR or LF."
item_advice item.NotFound = codes "The command `show` lists what stands in the image."
item_advice item.NoDocument = codes "The command `get` writes documents; `show` tells what an item is."
item_advice item.NoView = codes "Without --view the first view is written."
item_advice item.NoBoard = codes "The command `show` tells what an item is; a board is listed as a menu."

-- of an address that can't be listened on
abbrev pub cause_advice : NetCause → List ℕ
cause_advice causes.Taken = codes "another program listens there."
cause_advice causes.Elsewhere = codes "this machine has no such address."
cause_advice causes.Forbidden = codes "the program may not listen there: a port below 1024 wants a right of its own."
cause_advice causes.Other = codes "the system gives no listener there."

abbrev pub listener_advice : SocketAddr → NetCause → List ℕ
listener_advice at cause = socket_text at ++ codes ": " ++ cause_advice cause

abbrev pub folder_advice : List ℕ
folder_advice = codes "Give the name of a folder that can be read."

-- of the socket on which administrators were to come
abbrev pub socket_advice : SocketFault → List ℕ
socket_advice socket.Taken = codes "Another server answers on the administrators' socket: give this one another by --admin, or none by --no-admin."
socket_advice socket.There = codes "Something else has the name of the administrators' socket: give another one by --admin, or none by --no-admin."
socket_advice socket.NoSocket = codes "The administrators' socket can not be made: give another name by --admin, of at most 107 bytes, or none by --no-admin."

-- of a server's answer that is none
abbrev pub reply_advice : ReplyFault → List ℕ
reply_advice reply.Cut = codes "The server went before it answered: the first of these changes may be made."
reply_advice reply.NoReply = codes "What answers on the administrators' socket is no server of this program."
