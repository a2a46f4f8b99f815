-- What import puts, a site takes.
use Rattle.std.specs.Prelude.{◌≡◌, ℕ, false, List, Ok}
use Rattle.host_types.specs.Change.{put}
use Rattle.host_types.specs.Site.{Site, has_posts}
use Rattle.host_types.specs.declared.item.Item.{Item}
use Rattle.folder_import.specs.Parts.{Titled, part_of}
use Rattle.folder_import.specs.declared.found.Found.{Found}
use Rattle.folder_import.specs.declared.found.Part.TheVariants.{Document}

-- A document is refused by no site, but where a board with posts stands at its selector.
abbrev pub DocumentsAreTaken : Type 0
DocumentsAreTaken =
    (titles : List Titled) (folder : List ℕ) (found : Found) (selector : List ℕ) (item : Item) → part_of titles folder found ≡ Document selector item
    → (s : Site) (now : ℕ) → has_posts s selector ≡ false → (after : Site) × (put s selector item now ≡ Ok after)
