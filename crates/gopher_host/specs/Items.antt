-- What commands on one item of an image do, whatever they answer.
use Rattle.std.specs.Prelude.{◌≡◌, ℕ, List, Option, Result, Ok, Err, OnOk, IfOk, IfErr}
use Rattle.std.specs.Io.KnownBytes.{Appends}
use Rattle.common_types.specs.Names.{name_of, is_field}
use Rattle.common_types.specs.declared.refused.Refused.{Refused as Refusal}
use Rattle.file_device.specs.FileCalls.{FileHistory, file_state}
use Rattle.image_commands.specs.Faults.{IsReadingFault}
use Rattle.image_commands.specs.declared.fault.ImageFault.{ImageFault}
use Rattle.image_items.specs.Documents.{bytes_in}
use Rattle.image_items.specs.Got.{ArePosts, IsGot}
use Rattle.image_items.specs.declared.fault.ItemFault.{ItemFault}
use Rattle.image_items.specs.declared.fault.ItemFault.TheVariants.{Refused}
use Rattle.gopher_host.specs.Faults.{output_fault}
use Rattle.gopher_host.specs.ImageFiles.{IsUnwritten}
use Rattle.gopher_host.specs.declared.fault.Fault.{Fault}
use Rattle.gopher_host.specs.declared.fault.Fault.TheVariants as faults

abbrev pub selector_or : Result (List ℕ) Refusal → Result (List ℕ) ItemFault
selector_or (Ok selector) = Ok selector
selector_or (Err refused) = Err (Refused refused)

-- the selector of these bytes, or why they are none
abbrev pub selector_named : List ℕ → Result (List ℕ) ItemFault
selector_named name = selector_or (name_of is_field 255 name)

-- A name that is no selector is answered, and nothing is done; of one that is, this holds.
pub record NamesItem {X : Type 0} (name : List ℕ) (result : Result X Fault) (Untouched Holds : Type 0) : Type 0 where
  pub refused : (e : ItemFault) → selector_named name ≡ Err e → (result ≡ Err (faults.Item e)) × Untouched
  pub named : OnOk (selector_named name) Holds

-- the bytes of what was given
abbrev pub item_bytes : {A : Type 0} → (A → List ℕ) → Result (Result A ItemFault) ImageFault → Result (Result (List ℕ) ItemFault) ImageFault
item_bytes bytes (Ok found) = Ok (bytes_in bytes found)
item_bytes bytes (Err fault) = Err fault

-- What was read of an item is printed and nothing else, or standard output took no more; or a fault is answered, and nothing is printed.
abbrev pub GivesItem : {W X : Type 0} → Result (Result (List ℕ) ItemFault) ImageFault → (W → Option (List ℕ)) → W → W → Result X Fault → Type 0
GivesItem (Ok (Ok bytes)) contents old new (Ok _) = Appends (contents old) (contents new) bytes
GivesItem (Ok (Ok bytes)) contents old new (Err fault) = fault ≡ output_fault
GivesItem (Ok (Err e)) contents old new (Ok _) = ⊥
GivesItem (Ok (Err e)) contents old new (Err fault) = (fault ≡ faults.Item e) × (new ≡ old)
GivesItem (Err e) contents old new (Ok _) = ⊥
GivesItem (Err e) contents old new (Err fault) = (fault ≡ faults.Image e) × (new ≡ old)

-- Something was read of an item, or why there is nothing was found; that was printed or answered, and nothing was written.
pub record ReadsItem {W X : Type 0} (Is : Result (List ℕ) ItemFault → Type 0) (contents : W → Option (List ℕ)) (old new : W) (result : Result X Fault) (opened left : FileHistory) : Type 0 where
  pub given : Result (Result (List ℕ) ItemFault) ImageFault
  pub gives : GivesItem given contents old new result
  pub is : IfOk given Is
  pub caused : IfErr given (IsReadingFault (file_state opened) (file_state left))
  pub unwritten : IsUnwritten opened left

-- the bytes of a document
abbrev pub Gets : {W X : Type 0} → List ℕ → Option (List ℕ) → (W → Option (List ℕ)) → W → W → Result X Fault → FileHistory → FileHistory → Type 0
Gets selector view contents old new result opened left = ReadsItem (IsGot (file_state opened).disk.view selector view) contents old new result opened left

-- the lines of the posts of a board
abbrev pub ListsPosts : {W X : Type 0} → List ℕ → (W → Option (List ℕ)) → W → W → Result X Fault → FileHistory → FileHistory → Type 0
ListsPosts board contents old new result opened left = ReadsItem (ArePosts (file_state opened).disk.view board) contents old new result opened left
