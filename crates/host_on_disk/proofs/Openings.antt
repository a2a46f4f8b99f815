-- Why a device isn't opened.
use Rattle.std.proofs.Common.{subst, inr, ◌≡◌, ◌≤◌, ◌<◌, true, length, inl, refl, sym, ap, ◌∙◌, arith}
use Rattle.std.specs.Prelude.{false, IsTrue, List}
use Rattle.std.proofs.lemmas.Bool.{true≢false}
use Rattle.host_types.specs.Site.{Site}
use Rattle.common_types.specs.Counts.{counted}
use Rattle.sector_device.specs.Device.{State, NothingCounted}
use Rattle.page_store.specs.Sectors.{Image}
use Rattle.page_store.specs.Pages.{Pair}
use Rattle.page_store.specs.StoreState.{StoreState}
use Rattle.page_store.specs.Content.{is_tree_version, HasContent}
use Rattle.page_store.specs.Counting.{CountsRefusal}
use Rattle.page_store.specs.declared.banner.Banner.{Banner}
use Rattle.page_store.specs.declared.slot.Slot.{Slot}
use Rattle.page_store.specs.declared.fault.KeeperFault.{KeeperFault}
use Rattle.page_store.specs.declared.fault.KeeperFault.TheVariants as kinds
use Rattle.cow_tree.specs.Opening.{IsTree, IsTreeOpenFault}
use Rattle.cow_tree.specs.KeeperLaws.{opens_trees}
use Rattle.site_store.specs.Opening as sites
use Rattle.site_store.specs.declared.fault.SiteOpenFault.{SiteOpenFault}
use Rattle.site_store.specs.declared.fault.SiteOpenFault.TheVariants as reading
use Rattle.host_on_disk.specs.ImageSites.{ImageRepresents}
use Rattle.host_on_disk.specs.OpenFaults.{IsOpeningFault, of_keeper, of_site}
use Rattle.host_on_disk.specs.declared.open_fault.OpenFault.TheVariants.{Keeper, Memory}
use Rattle.host_on_disk.proofs.Images.{shown, no_content, no_slot, other_version, too_small, slot_there}

-- a refusal of the key-value store
pub keeper_refused : (old new : State) → (IsTrue old.honest → length old.disk.view ≡ old.size) → (fault : KeeperFault) → IsTreeOpenFault old new fault → CountsRefusal fault old new → IsOpeningFault old new (of_keeper fault)
keeper_refused old new size kinds.Device is counts = is
keeper_refused old new size kinds.NoImage is counts = (is, counts, λ honest. no_slot old.disk.view (is.1 honest))
keeper_refused old new size kinds.Version is counts = (inl is, counts, λ honest. let found = is.1 honest in other_version old.disk.view found.0 found.1 found.2)
keeper_refused old new size (kinds.Damaged page) is counts = (is, counts, λ honest. no_content old.disk.view (is.1 honest).2)
keeper_refused old new size kinds.Small is counts = (is, counts, λ honest. too_small old.disk.view (omega (arith, size honest, is)))
keeper_refused old new size kinds.Memory is counts = (is, counts)
keeper_refused old new size kinds.Spent is counts = absurd is
keeper_refused old new size kinds.Deep is counts = absurd is
keeper_refused old new size (kinds.Full need free) is counts = absurd is
keeper_refused old new size kinds.Failed is counts = absurd is

-- it is `Small` of a small device, which comes back
pub small_refused : {D : Type 0} → (state : D → State) (device back : D) (fault : KeeperFault) → IsTreeOpenFault (state device) (state back) fault → (fault ≡ kinds.Small → back ≡ device) → (state device).size < 128 → (of_keeper fault ≡ Keeper kinds.Small) × (back ≡ device)
small_refused state device back kinds.Small is same small = (refl, same refl)
small_refused state device back kinds.Device is same small = let large = is.0 in absurd (omega (arith, large, small))
small_refused state device back kinds.NoImage is same small = let large = is.0 in absurd (omega (arith, large, small))
small_refused state device back kinds.Version is same small = let large = is.0 in absurd (omega (arith, large, small))
small_refused state device back (kinds.Damaged page) is same small = let large = is.0 in absurd (omega (arith, large, small))
small_refused state device back kinds.Memory is same small = let large = is.0 in absurd (omega (arith, large, small))
small_refused state device back kinds.Spent is same small = absurd is
small_refused state device back kinds.Deep is same small = absurd is
small_refused state device back (kinds.Full need free) is same small = absurd is
small_refused state device back kinds.Failed is same small = absurd is

-- content in a version of trees stands under a current slot of a tree
pub tree_slot : (image : Image) (pairs : List Pair) (banner : Banner) → HasContent image pairs banner → IsTrue (is_tree_version banner.version) → (slot : Slot) × IsTree image slot
tree_slot image pairs banner has version = let there = slot_there image pairs banner has in (there.0, (there.1, subst (λ (b : Banner). IsTrue (is_tree_version b.version)) there.2 version))

-- The pairs of a device were opened: what they are, and that nothing was counted.
pub record ArePairs (old : State) (before : StoreState) : Type 0 where
  pub large : 128 ≤ old.size
  pub honest : IsTrue old.honest → IsTrue before.honest
  pub usable : before.usable ≡ true
  pub reads : before.failed_reads ≡ old.failed_reads
  pub writes : before.failed_writes ≡ old.failed_writes
  pub content : IsTrue old.honest → HasContent old.disk.view before.pairs before.banner
  pub version : IsTrue (is_tree_version before.banner.version)

-- a refusal of the site, once its pairs are opened
pub site_refused : (old new : State) (before after : StoreState) → ArePairs old before → new.failed_reads ≡ after.failed_reads → new.failed_writes ≡ before.failed_writes → (fault : SiteOpenFault) → sites.IsSiteOpenFault before after fault → IsOpeningFault old new (of_site fault)
site_refused old new before after opened reads writes fault is = by fault is
  where
    nothing : after.failed_reads ≡ before.failed_reads → NothingCounted old new
    nothing none = record { reads = reads ∙ none ∙ opened.reads; writes = writes ∙ opened.writes }

    by : (fault : SiteOpenFault) → sites.IsSiteOpenFault before after fault → IsOpeningFault old new (of_site fault)
    by reading.BadRecord is = (
      opened.large,
      nothing is.1,
      λ honest. (before.pairs, before.banner, (opened.content honest, opens_trees before.banner.version opened.version), is.2),
      λ honest s stands. is.3 (opened.honest honest) s (shown old.disk.view before.pairs before.banner s (opened.content honest) stands),
    )
    by (reading.Keeper kinds.Device) is = (opened.large, inl (reads ∙ is.1 ∙ ap counted opened.reads, writes ∙ opened.writes))
    by (reading.Keeper (kinds.Damaged page)) is = (
      (opened.large, λ honest. absurd (true≢false (sym (opened.honest honest) ∙ is.2))),
      nothing is.1,
      λ honest. absurd (true≢false (sym (opened.honest honest) ∙ is.2)),
    )
    by (reading.Keeper kinds.Failed) is = absurd (true≢false (sym opened.usable ∙ is.0))
    by (reading.Keeper kinds.NoImage) is = absurd is
    by (reading.Keeper kinds.Version) is = (
      inr (opened.large, λ honest. (before.pairs, before.banner, (opened.content honest, opens_trees before.banner.version opened.version), is.2)),
      nothing is.1,
      λ honest s stands. is.2 (shown old.disk.view before.pairs before.banner s (opened.content honest) stands).version,
    )
    by (reading.Keeper kinds.Small) is = absurd is
    by (reading.Keeper kinds.Spent) is = absurd is
    by (reading.Keeper kinds.Deep) is = absurd is
    by (reading.Keeper (kinds.Full need free)) is = absurd is
    by (reading.Keeper kinds.Memory) is = absurd is
    by reading.Memory is = ((opened.large, λ honest. tree_slot old.disk.view before.pairs before.banner (opened.content honest) opened.version), nothing is.1)

-- lack of memory once a site was opened
pub no_memory : (old new : State) (s : Site) → 128 ≤ old.size → NothingCounted old new → (IsTrue old.honest → ImageRepresents old.disk.view s) → IsOpeningFault old new Memory
no_memory old new s large counts stands = ((large, λ honest. by (stands honest)), counts)
  where
    by : ImageRepresents old.disk.view s → (slot : Slot) × IsTree old.disk.view slot
    by (pairs, banner, (has, opened), shows) = tree_slot old.disk.view pairs banner has opened
