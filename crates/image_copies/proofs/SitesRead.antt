-- A site that was read from its keeper.
use Rattle.std.proofs.Common.{◌≡◌, ◌≤◌, ℕ, true, List, refl, sym, subst, ◌∙◌}
use Rattle.common_types.specs.Counts.{Rose}
use Rattle.host_types.specs.Site.{Site}
use Rattle.host_types.specs.SiteState.{SiteState, IsReadFault}
use Rattle.host_types.specs.declared.site_fault.SiteFault.{SiteFault}
use Rattle.host_types.specs.declared.site_fault.SiteFault.TheVariants as sites
use Rattle.sector_device.specs.Device.{State}
use Rattle.page_store.specs.Pages.{Pair}
use Rattle.page_store.specs.StoreState.{StoreState}
use Rattle.page_store.specs.declared.banner.Banner.{Banner}
use Rattle.site_store.specs.Represented.{PairsShowSite, RepresentedBy}
use Rattle.image_commands.specs.Faults.{of_site, IsNotRead}
use Rattle.image_commands.specs.declared.fault.ImageFault.{ImageFault}
use Rattle.image_commands.specs.declared.fault.ImageFault.TheVariants.{Refused, NoFile, BadRecord, Store, Memory}
use Rattle.image_copies.specs.SitesRead as pairs
use Rattle.image_copies.proofs.PairsRead.{lies}

pub shows_again : (h : StoreState) (s t : Site) (pairs : List Pair) (banner : Banner) → RepresentedBy h s → pairs ≡ h.pairs → banner ≡ h.banner → s ≡ t → PairsShowSite pairs banner t
shows_again h s t pairs banner shows same_pairs same_banner same =
    subst (λ (x : Site). PairsShowSite pairs banner x) same (subst (λ (b : Banner). PairsShowSite pairs b s) (sym same_banner) (subst (λ (p : List Pair). PairsShowSite p h.banner s) (sym same_pairs) shows))

-- a count of items that was not read
pub site_not_read : (old new : State) (a b : SiteState) (fault : SiteFault) → a.honest ≡ old.honest → a.failed_reads ≡ old.failed_reads → new.failed_reads ≡ b.failed_reads → new.failed_writes ≡ old.failed_writes → a.usable ≡ true → 128 ≤ old.size
    → IsReadFault true a b fault → IsNotRead old new (of_site fault)
site_not_read old new a b (sites.Refused refused) honest before now writes usable large is = absurd is
site_not_read old new a b sites.Read honest before now writes usable large is = (refl, writes, λ keeps. subst (λ (n : ℕ). Rose n new.failed_reads) before (subst (λ (n : ℕ). Rose a.failed_reads n) (sym now) (is (honest ∙ keeps))))
site_not_read old new a b (sites.Full need free) honest before now writes usable large is = absurd is
site_not_read old new a b sites.Spent honest before now writes usable large is = absurd is
site_not_read old new a b sites.Deep honest before now writes usable large is = absurd is
site_not_read old new a b sites.Failed honest before now writes usable large is = absurd (lies a.usable usable is)
site_not_read old new a b sites.Memory honest before now writes usable large is = (large, writes)

-- pairs that were not read, behind other reads that didn't fail
pub pairs_not_read : (old new : State) (h k : StoreState) (fault : ImageFault) → h.honest ≡ old.honest → h.failed_reads ≡ old.failed_reads → new.failed_reads ≡ k.failed_reads → new.failed_writes ≡ old.failed_writes → 128 ≤ old.size → pairs.IsSiteNotRead h k fault → IsNotRead old new fault
pairs_not_read old new h k (Refused refused) honest before now writes large is = absurd is
pairs_not_read old new h k NoFile honest before now writes large is = absurd is
pairs_not_read old new h k BadRecord honest before now writes large is = absurd is
pairs_not_read old new h k (Store fault) honest before now writes large is = (is.0, writes, λ keeps. subst (λ (n : ℕ). Rose n new.failed_reads) before (subst (λ (n : ℕ). Rose h.failed_reads n) (sym now) (is.1 (honest ∙ keeps))))
pairs_not_read old new h k Memory honest before now writes large is = (large, writes)
