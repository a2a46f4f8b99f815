-- Why a site is not ready to be written, and what is ready.
use Rattle.std.proofs.Common.{◌≡◌, ◌⊎◌, ◌≤◌, inr, ⊎_elim, ℕ, List, Option, Some, refl, sym, ap, subst, ◌∙◌, arith, IsTrue}
use Rattle.common_types.specs.Counts.{Rose}
use Rattle.host_types.specs.Site.{Site}
use Rattle.sector_device.specs.Device.{State, NothingCounted}
use Rattle.page_store.specs.Pages.{Pair}
use Rattle.page_store.specs.Content.{is_tree_version}
use Rattle.page_store.specs.declared.banner.Banner.{Banner}
use Rattle.page_store.specs.declared.fault.KeeperFault.{KeeperFault}
use Rattle.page_store.specs.declared.fault.KeeperFault.TheVariants as store
use Rattle.filled_images.specs.FilledImages as images
use Rattle.filled_images.specs.FilledImages.{pages_for}
use Rattle.site_records.specs.Layout.{layout}
use Rattle.host_on_disk.specs.ImageSites.{ImageRepresents}
use Rattle.image_commands.specs.Faults.{IsNotRead, IsReadingFault}
use Rattle.image_commands.specs.declared.fault.ImageFault.{ImageFault}
use Rattle.image_commands.specs.declared.fault.ImageFault.TheVariants.{Refused, NoFile, BadRecord, Store, Memory}
use Rattle.image_copies.specs.Copies.{HasCount}
use Rattle.image_copies.specs.CopyFaults.{of_new, IsNoCount, IsNoCopyMade, IsNotPlanned, IsNotCopiedWhole}
use Rattle.image_copies.specs.declared.fault.CopyFault.{CopyFault}
use Rattle.image_copies.specs.declared.fault.CopyFault.TheVariants.{Image as OfImage, Small, Full, Failed, NoFile as NoNewFile, There}

-- a read that failed behind others that didn't
pub read_since : (old mid new : State) (fault : ImageFault) → NothingCounted old mid → mid.honest ≡ old.honest → 128 ≤ old.size → IsNotRead mid new fault → IsNotRead old new fault
read_since old mid new (Refused refused) counts honest large is = absurd is
read_since old mid new NoFile counts honest large is = absurd is
read_since old mid new BadRecord counts honest large is = absurd is
read_since old mid new (Store fault) counts honest large is = (is.0, is.1 ∙ counts.writes, λ keeps. subst (λ (n : ℕ). Rose n new.failed_reads) counts.reads (is.2 (subst IsTrue (sym honest) keeps)))
read_since old mid new Memory counts honest large is = (large, is.1 ∙ counts.writes)

pub counted_since : (old mid new : State) → NothingCounted old mid → NothingCounted mid new → NothingCounted old new
counted_since old mid new first second = record { reads = second.reads ∙ first.reads; writes = second.writes ∙ first.writes }

-- a copy that is not made is not planned
pub not_planned : (asked : Option ℕ) (old new : State) (count : ℕ) (pairs : List Pair) (fault : CopyFault) → NothingCounted old new → 128 ≤ old.size → (asked ≡ Some count) ⊎ ((16 ≤ count) × (count ≤ 65536))
    → (IsTrue old.honest → HasCount asked new.disk.view count) → (IsTrue old.honest → (s : Site) × ImageRepresents old.disk.view s × (pairs ≡ layout s)) → IsNoCopyMade count pairs fault → IsNotPlanned asked old new fault
not_planned asked old new count pairs (OfImage fault) counts large possible counted read is = subst (λ (f : ImageFault). IsReadingFault old new f) (sym is) (inr (large, counts.writes))
not_planned asked old new count pairs Small counts large possible counted read is = (counts, no_count)
  where
    no_count : IsNoCount asked
    no_count = ⊎_elim (λ e. (count, e, is)) (λ fits. absurd (⊎_elim (λ few. omega (arith, few, fits.0)) (λ many. omega (arith, many, fits.1)) is)) possible
not_planned asked old new count pairs (Full need free) counts large possible counted read is = (
  counts,
  is.4,
  λ honest.
      let site = read honest in
      record {
        site = site.0;
        stands = site.1;
        need_is = is.2 ∙ ap (λ (l : List Pair). pages_for l) site.2;
        counted = subst (λ (n : ℕ). HasCount asked new.disk.view n) is.3 (counted honest);
      },
)
not_planned asked old new count pairs Failed counts large possible counted read is = absurd is
not_planned asked old new count pairs NoNewFile counts large possible counted read is = absurd is
not_planned asked old new count pairs There counts large possible counted read is = absurd is

-- the faults of the image of some pairs, as the copy's
pub not_made : (count : ℕ) (pairs : List Pair) (fault : KeeperFault) → images.IsNotMade count pairs fault → IsNoCopyMade count pairs (of_new fault)
not_made count pairs store.Small is = is
not_made count pairs (store.Full need free) is = is
not_made count pairs store.Failed is = absurd is
not_made count pairs store.Device is = absurd is
not_made count pairs store.NoImage is = absurd is
not_made count pairs store.Version is = absurd is
not_made count pairs (store.Damaged page) is = absurd is
not_made count pairs store.Spent is = absurd is
not_made count pairs store.Deep is = absurd is
not_made count pairs store.Memory is = refl

-- the same once it is written
pub not_written : (count : ℕ) (old new : State) (fault : KeeperFault) → (((fault ≡ store.Failed) → ⊥) → new ≡ old) → images.IsNotWritten count old new fault → IsNotCopiedWhole count old new (of_new fault)
not_written count old new store.Small same is = (is, same (λ e. cc e))
not_written count old new (store.Full need free) same is = absurd is
not_written count old new store.Failed same is = is
not_written count old new store.Device same is = absurd is
not_written count old new store.NoImage same is = absurd is
not_written count old new store.Version same is = absurd is
not_written count old new (store.Damaged page) same is = absurd is
not_written count old new store.Spent same is = absurd is
not_written count old new store.Deep same is = absurd is
not_written count old new store.Memory same is = absurd is

pub opened_version : (banner : Banner) → banner.version ≡ 2 → IsTrue (is_tree_version banner.version)
opened_version banner two = ap is_tree_version two
