-- The items of a site as a file of changes.
use Rattle.std.specs.Prelude.{◌≡◌, ℕ, List, ◌++◌, Option, Some, None, Ok, IsUtf8, string_bytes}
use Rattle.host_types.specs.Site.{Site}
use Rattle.host_types.specs.declared.item.Item.{Item}
use Rattle.page_store.specs.Sectors.{Image}
use Rattle.site_store.specs.Walking.{first_after}
use Rattle.host_on_disk.specs.ImageSites.{ImageRepresents}
use Rattle.change_file.specs.Changes as file
use Rattle.change_file.specs.declared.fault.FileChange.{FileChange}
use Rattle.change_writer.specs.Comments.{comments}
use Rattle.image_exports.specs.Told.{AreTold, IsToldIn}
use Rattle.image_exports.specs.declared.exporting.Export.{Export}

-- The text names what no change puts, by comments at its front, and is read as the changes that put all other items, in the order of their selectors.
pub record IsExportOf (s : Site) (text : List ℕ) : Type 0 where
  pub changes : List FileChange
  pub names : List (List ℕ)
  pub rest : List ℕ
  pub told : AreTold s.items changes names
  pub begins : text ≡ comments names ++ rest
  pub utf8 : IsUtf8 text
  pub reads : file.read text ≡ Some (Ok changes)

-- The image represents a site, and this is its file of changes.
abbrev pub IsExported : Image → List ℕ → Type 0
IsExported image text = (s : Site) × ImageRepresents image s × IsExportOf s text

-- ---- an export that is being made

-- changes and names of which this holds are added
pub record AddsTo (old new : Export) (Is : List FileChange → List (List ℕ) → Type 0) : Type 0 where
  pub changes : List FileChange
  pub names : List (List ℕ)
  pub is : Is changes names
  pub file : new.file ≡ old.file ++ changes
  pub comments : string_bytes new.comments ≡ string_bytes old.comments ++ comments names

-- What is added for the first item above a selector, and its selector is answered; nothing where no item is above.
abbrev pub IsToldNext : Site → Option (List ℕ) → Export → Export → Option (List ℕ) → Type 0
IsToldNext s after old new None = (first_after s after ≡ None) × (new ≡ old)
IsToldNext s after old new (Some selector) = (item : Item) × (first_after s after ≡ Some (selector, item)) × AddsTo old new (IsToldIn (selector, item))
