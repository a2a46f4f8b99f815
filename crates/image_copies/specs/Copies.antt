-- The site of an image, written as a new one.
use Rattle.std.specs.Prelude.{◌≡◌, ◌≤◌, true, ℕ, List, [], length, Option, Some, None}
use Rattle.common_types.specs.CrashStates.{CrashStates}
use Rattle.host_types.specs.Site.{Site}
use Rattle.sector_device.specs.Device.{State}
use Rattle.page_store.specs.Sectors.{Image}
use Rattle.page_store.specs.Roots.{current}
use Rattle.page_store.specs.Pages.{Pair}
use Rattle.page_store.specs.Batch.{is_map}
use Rattle.page_store.specs.Formatting.{IsFirst}
use Rattle.page_store.specs.Steps.{AllAre}
use Rattle.page_store.specs.declared.banner.Banner.{Banner}
use Rattle.page_store.specs.declared.slot.Slot.{Slot}
use Rattle.cow_tree.specs.TreeState.{unreached}
use Rattle.cow_tree.specs.Compacting.{most_pairs, IsFilledTree}
use Rattle.site_store.specs.Represented.{PairsShowSite}
use Rattle.filled_images.specs.FilledImages.{IsImageOf}
use Rattle.host_on_disk.specs.ImageSites.{ImageRepresents}
use Rattle.image_copies.specs.CopyLines.{copied_line}
use Rattle.image_copies.specs.declared.site_copy.SiteCopy.{SiteCopy}

-- The count of pages that was asked for; or where none was, that of the image's current root slot.
abbrev pub HasCount : Option ℕ → Image → ℕ → Type 0
HasCount (Some asked) image count = count ≡ asked
HasCount None image count = (slot : Slot) × (current image ≡ Some slot) × (count ≡ slot.root.pages)

-- This is to be written for a new image of a site, of so many pages.
pub record IsCopyOf (s : Site) (count : ℕ) (copy : SiteCopy) : Type 0 where
  pub pairs : List Pair
  pub banner : Banner
  pub shows : PairsShowSite pairs banner s
  pub map : is_map pairs ≡ true
  pub few : length pairs ≤ most_pairs
  pub image : IsImageOf count banner pairs copy.image
  pub items : copy.items ≡ length s.items

-- The one site that reads of a device give is ready to be written, in as many pages as were asked for.
pub record IsPlannedCopy {D : Type 0} (state : D → State) (asked : Option ℕ) (old new : D) (copy : SiteCopy) : Type 0 where
  pub site : Site
  pub stands : ImageRepresents (state old).disk.view site
  pub alone : (s : Site) → ImageRepresents (state old).disk.view s → s ≡ site
  pub count : ℕ
  pub counted : HasCount asked (state new).disk.view count
  pub copy_is : IsCopyOf site count copy

-- An image represents this site and no other, is the first of its generations, of so many pages, and stands in filled pages. The line tells how many items it has, and how many pages it leaves unreached.
pub record IsCopied (s : Site) (count : ℕ) (line : List ℕ) (image : Image) : Type 0 where
  pub stands : ImageRepresents image s
  pub alone : (t : Site) → ImageRepresents image t → t ≡ s
  pub first : IsFirst count image
  pub filled : IsFilledTree first.slot image
  pub line_is : line ≡ copied_line (length s.items) (unreached first.slot [] image)

-- The site that reads of one device give stands on another one, and once it does no crash leaves anything else there.
pub record Copies {D E : Type 0} (state : D → State) (other_state : E → State) (other_states : E → CrashStates Image) (asked : Option ℕ) (old handed : D) (new : E) (line : List ℕ) : Type 0 where
  pub site : Site
  pub stands : ImageRepresents (state old).disk.view site
  pub count : ℕ
  pub counted : HasCount asked (state handed).disk.view count
  pub copied : IsCopied site count line (other_state new).disk.view
  pub sure : AllAre (other_states new) (other_state new).disk.view
