-- What is made, and when it is not.
use Rattle.std.specs.Prelude.{◌≡◌, ◌≢◌, ◌⊎◌, ◌<◌, ◌≤◌, ◌*◌, ℕ, List, Some, IsTrue}
use Rattle.page_store.specs.Sizes.{least_pages, most_pages}
use Rattle.common_types.specs.Counts.{counted}
use Rattle.common_types.specs.CrashStates.{CrashStates}
use Rattle.sector_device.specs.Device.{State, NothingCounted}
use Rattle.page_store.specs.Content.{HasContent}
use Rattle.page_store.specs.Pages.{Pair}
use Rattle.page_store.specs.Sectors.{Image}
use Rattle.page_store.specs.Steps.{AllAre}
use Rattle.page_store.specs.Roots.{current, greatest_seal}
use Rattle.page_store.specs.declared.banner.Banner.{Banner}
use Rattle.page_store.specs.declared.slot.Slot.{Slot}
use Rattle.page_store.specs.declared.fault.KeeperFault.{KeeperFault}
use Rattle.page_store.specs.declared.fault.KeeperFault.TheVariants.{Failed}
use Rattle.page_store.specs.declared.fault.KeeperFault.TheVariants as faults

-- slot 0 is current, of generation 1, which no root sector is above, and the image has so many pages
pub record IsFirst (pages : ℕ) (image : Image) : Type 0 where
  pub slot : Slot
  pub current_is : current image ≡ Some slot
  pub number : slot.number ≡ 0
  pub seal : slot.seal ≡ 1
  pub greatest : greatest_seal image 16 ≡ 1
  pub size : slot.root.pages ≡ pages

-- The first image of so many pages, with these pairs and this banner, for which the device has room. It is sure, and no call failed.
pub record MakesFirst {D : Type 0} (state : D → State) (crash_states : D → CrashStates Image) (old new : D) (pages : ℕ) (pairs : List Pair) (given : Banner) : Type 0 where
  pub content : IsTrue (state old).honest → HasContent (state new).disk.view pairs given
  pub first : IsTrue (state old).honest → IsFirst pages (state new).disk.view
  pub sure : IsTrue (state old).honest → AllAre (crash_states new) (state new).disk.view
  pub fits : (least_pages ≤ pages) × (pages ≤ most_pages) × (8 * pages ≤ (state old).size)
  pub counts : NothingCounted (state old) (state new)

-- When a fault may come of making an image.
abbrev pub IsFormatFault : ℕ → State → State → KeeperFault → Type 0
IsFormatFault pages old new faults.Device = ⊥
IsFormatFault pages old new faults.NoImage = ⊥
IsFormatFault pages old new faults.Version = ⊥
IsFormatFault pages old new (faults.Damaged page) = ⊥
IsFormatFault pages old new faults.Small = (pages < least_pages) ⊎ ((most_pages < pages) ⊎ (old.size < 8 * pages))
IsFormatFault pages old new faults.Spent = ⊥
IsFormatFault pages old new faults.Deep = ⊥
IsFormatFault pages old new (faults.Full need free) = ⊥
IsFormatFault pages old new faults.Failed = (new.failed_reads ≡ old.failed_reads) × (new.failed_writes ≡ counted old.failed_writes)
IsFormatFault pages old new faults.Memory = new ≡ old

-- Making an image fails by its cause. But for a write or a sync that failed it leaves the device as it is.
pub record FailsToFormat {D : Type 0} (state : D → State) (old new : D) (pages : ℕ) (fault : KeeperFault) : Type 0 where
  pub cause : IsFormatFault pages (state old) (state new) fault
  pub unwritten : fault ≢ Failed → new ≡ old
