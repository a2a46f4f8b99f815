-- What standard error gets of a command on an image that ends with a fault.
use Rattle.std.specs.Prelude.{ℕ, List, [], ◌++◌, codes, decimal}
use Rattle.common_types.specs.PrintedNames.{refused_name, full_name, change_line}
use Rattle.page_store.specs.declared.fault.KeeperFault.{KeeperFault}
use Rattle.page_store.specs.declared.fault.KeeperFault.TheVariants as store
use Rattle.image_commands.specs.declared.fault.ImageFault.{ImageFault}
use Rattle.image_commands.specs.declared.fault.ImageFault.TheVariants.{Refused, NoFile, BadRecord, Store, Memory}

-- a fault by its name, and the numbers that it has
abbrev pub image_line : List ℕ → List ℕ
image_line name = codes "image: " ++ name

abbrev pub store_line : KeeperFault → List ℕ
store_line store.Device = image_line (codes "Device")
store_line store.NoImage = image_line (codes "NoImage")
store_line store.Version = image_line (codes "Version")
store_line (store.Damaged page) = image_line (codes "Damaged " ++ decimal page)
store_line store.Small = image_line (codes "Small")
store_line store.Spent = image_line (codes "Spent")
store_line store.Deep = image_line (codes "Deep")
store_line (store.Full need free) = image_line (full_name need free)
store_line store.Failed = image_line (codes "Failed")
store_line store.Memory = codes "memory"

-- the line, without its LF; a name that `format` refuses comes before the first change, which is number 0
abbrev pub fault_line : ImageFault → List ℕ
fault_line (Refused refused) = change_line 0 (refused_name refused)
fault_line NoFile = image_line (codes "NoFile")
fault_line BadRecord = image_line (codes "BadRecord")
fault_line (Store fault) = store_line fault
fault_line Memory = codes "memory"

-- what to do about a store's fault
abbrev pub store_advice : KeeperFault → List ℕ
store_advice store.Device = codes "A read of the file failed: the disk may be failing. Copy the file to another one first."
store_advice store.NoImage = codes "The command `format` makes an image; what is in the file is lost."
store_advice store.Version = codes "The image was made by another version of the program: the command `upgrade` takes over one of an older version."
store_advice (store.Damaged page) = codes "That page is not what the image says of it: take the last copy of the image."
store_advice store.Small = codes "An image has 16 to 65536 pages, and its file 4096 bytes for each."
store_advice store.Spent = codes "The image takes no further change: the command `copy` makes a new one of the same site."
store_advice store.Deep = []
store_advice (store.Full need free) = codes "The command `compact` gives back what changes left half full; `copy` with more pages makes a larger image."
store_advice store.Failed = codes "The disk did not take a write: it may be full, or failing. What was acknowledged before is stored."
store_advice store.Memory = []

-- what to do about a fault, as a sentence for a line of its own; no bytes where nothing is said
abbrev pub advice : ImageFault → List ℕ
advice (Refused refused) = codes "A host is 1 to 100 visible characters of ASCII, an administrator at most 100 bytes, a title at most 69; none has a TAB, CR or LF."
advice NoFile = codes "The file is not there, can not be read and written, or another program has it open."
advice BadRecord = codes "The image holds no valid site: take its last copy."
advice (Store fault) = store_advice fault
advice Memory = []
