-- Why a site is not copied, and what is said of it.
use Rattle.std.specs.Prelude.{◌≡◌, ◌⊎◌, ◌<◌, ◌≤◌, ◌+◌, ◌*◌, ℕ, List, [], ◌++◌, codes, Option, Some, IsTrue}
use Rattle.page_store.specs.Sizes.{least_pages, most_pages}
use Rattle.common_types.specs.Counts.{counted}
use Rattle.host_types.specs.Site.{Site}
use Rattle.sector_device.specs.Device.{State, NothingCounted}
use Rattle.page_store.specs.Sectors.{Image}
use Rattle.page_store.specs.Pages.{Pair}
use Rattle.page_store.specs.declared.fault.KeeperFault.{KeeperFault}
use Rattle.page_store.specs.declared.fault.KeeperFault.TheVariants as store
use Rattle.filled_images.specs.FilledImages.{pages_for}
use Rattle.site_records.specs.Layout.{layout}
use Rattle.host_on_disk.specs.ImageSites.{ImageRepresents}
use Rattle.common_types.specs.PrintedNames.{full_name}
use Rattle.image_commands.specs.Faults.{of_store, IsReadingFault}
use Rattle.image_commands.specs.FaultLines.{fault_line, advice}
use Rattle.image_commands.specs.declared.fault.ImageFault.TheVariants as image
use Rattle.image_copies.specs.Copies.{HasCount}
use Rattle.image_copies.specs.declared.fault.CopyFault.{CopyFault}
use Rattle.image_copies.specs.declared.fault.CopyFault.TheVariants.{Image as OfImage, Small, Full, Failed, NoFile, There}

-- a fault of making the new image
abbrev pub of_new : KeeperFault → CopyFault
of_new store.Small = Small
of_new (store.Full need free) = Full need free
of_new store.Failed = Failed
of_new store.Device = OfImage (of_store store.Device)
of_new store.NoImage = OfImage (of_store store.NoImage)
of_new store.Version = OfImage (of_store store.Version)
of_new (store.Damaged page) = OfImage (of_store (store.Damaged page))
of_new store.Spent = OfImage (of_store store.Spent)
of_new store.Deep = OfImage (of_store store.Deep)
of_new store.Memory = OfImage (of_store store.Memory)

-- ---- causes

-- the count of pages that was asked for is none that an image may have
abbrev pub IsNoCount : Option ℕ → Type 0
IsNoCount asked = (n : ℕ) × (asked ≡ Some n) × ((n < least_pages) ⊎ (most_pages < n))

-- Why the copy of these pairs, in so many pages, is not made: as of the image of them.
abbrev pub IsNoCopyMade : ℕ → List Pair → CopyFault → Type 0
IsNoCopyMade count pairs (OfImage fault) = fault ≡ image.Memory
IsNoCopyMade count pairs Small = (count < least_pages) ⊎ (most_pages < count)
IsNoCopyMade count pairs (Full need free) = (least_pages ≤ count) × (count ≤ most_pages) × (need ≡ pages_for pairs) × (count ≡ free + 2) × (free < need)
IsNoCopyMade count pairs Failed = ⊥
IsNoCopyMade count pairs NoFile = ⊥
IsNoCopyMade count pairs There = ⊥

-- The site of an image takes so many pages, filled, and the count of pages that was asked for has so many but for the root slots. The count goes by the image as it is left.
pub record LacksPages (asked : Option ℕ) (image left : Image) (need free : ℕ) : Type 0 where
  pub site : Site
  pub stands : ImageRepresents image site
  pub need_is : need ≡ pages_for (layout site)
  pub counted : HasCount asked left (free + 2)

-- Why a site is not ready to be written, where it was asked for so many pages. Nothing was written.
abbrev pub IsNotPlanned : Option ℕ → State → State → CopyFault → Type 0
IsNotPlanned asked old new (OfImage fault) = IsReadingFault old new fault
IsNotPlanned asked old new Small = NothingCounted old new × IsNoCount asked
IsNotPlanned asked old new (Full need free) = NothingCounted old new × (free < need) × (IsTrue old.honest → LacksPages asked old.disk.view new.disk.view need free)
IsNotPlanned asked old new Failed = ⊥
IsNotPlanned asked old new NoFile = ⊥
IsNotPlanned asked old new There = ⊥

-- Why a new image of so many pages is not written: memory lacks, the device is too small, or a write or a sync failed.
abbrev pub IsNotCopiedWhole : ℕ → State → State → CopyFault → Type 0
IsNotCopiedWhole count old new (OfImage fault) = (fault ≡ image.Memory) × (new ≡ old)
IsNotCopiedWhole count old new Small = (old.size < 8 * count) × (new ≡ old)
IsNotCopiedWhole count old new (Full need free) = ⊥
IsNotCopiedWhole count old new Failed = (new.failed_reads ≡ old.failed_reads) × (new.failed_writes ≡ counted old.failed_writes)
IsNotCopiedWhole count old new NoFile = ⊥
IsNotCopiedWhole count old new There = ⊥

-- Why the site of one device is not copied to another one: it is not ready to be written, and the other one is as before; or it was, and was not written there.
abbrev pub IsNotCopied : Option ℕ → State → State → State → State → CopyFault → Type 0
IsNotCopied asked old new other other_new fault = (IsNotPlanned asked old new fault × (other_new ≡ other)) ⊎ (NothingCounted old new × (count : ℕ) × HasCount asked new.disk.view count × IsNotCopiedWhole count other other_new fault)

-- ---- lines

-- a fault of the new image by its name
abbrev pub copy_line : List ℕ → List ℕ
copy_line name = codes "copy: " ++ name

-- the line of a fault, without its LF
abbrev pub copy_fault_line : CopyFault → List ℕ
copy_fault_line (OfImage fault) = fault_line fault
copy_fault_line Small = copy_line (codes "Small")
copy_fault_line (Full need free) = copy_line (full_name need free)
copy_fault_line Failed = copy_line (codes "Failed")
copy_fault_line NoFile = copy_line (codes "NoFile")
copy_fault_line There = copy_line (codes "There")

-- what to do about a fault, as a sentence for a line of its own; no bytes where nothing is said
abbrev pub copy_advice : CopyFault → List ℕ
copy_advice (OfImage fault) = advice fault
copy_advice Small = codes "An image has 16 to 65536 pages."
copy_advice (Full need free) = codes "The site takes more pages than that: give more by --pages."
copy_advice Failed = []
copy_advice NoFile = codes "The new file can not be made, or another program has it open."
copy_advice There = codes "There is such a file already, which stays as it is: give another name, or remove it first."
