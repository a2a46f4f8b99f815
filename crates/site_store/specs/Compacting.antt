-- Writing a site anew, as its callers see it.
use Rattle.std.specs.Prelude.{◌≡◌, ℕ, true, false, List, Result, IsTrue, IfErr, IsErrOf}
use Rattle.common_types.specs.CrashStates.{CrashStates, AddsOnly, AddsNone}
use Rattle.host_types.specs.Site.{Site}
use Rattle.host_types.specs.SiteState.{SiteState}
use Rattle.host_types.specs.declared.site_fault.SiteFault.{SiteFault}
use Rattle.host_types.specs.declared.site_fault.SiteFault.TheVariants.{Failed, Spent}
use Rattle.page_store.specs.CompactCalls.{WritesAnew}
use Rattle.page_store.specs.Pages.{Pair}
use Rattle.page_store.specs.StoreState.{StoreState, StoreHasTried, last_generation}
use Rattle.page_store.specs.Compaction.{IsCompactFault, CompactsTheSame}
use Rattle.page_store.specs.Counting.{reads_after, writes_after}
use Rattle.page_store.specs.Work.{WritesAtMost}
use Rattle.page_store.specs.declared.banner.Banner.{Banner}
use Rattle.page_store.specs.declared.fault.KeeperFault.{KeeperFault}
use Rattle.site_store.specs.Represented.{Represents}
use Rattle.site_store.specs.StoreFault.{store_site_fault_of}

-- The key-value store gave a fault of which this is the site's, and it is counted as it counts it.
pub record IsSiteCompactFault (old new : StoreState) (may_need : ℕ → Type 0) (fault : SiteFault) : Type 0 where
  pub given : KeeperFault
  pub is : fault ≡ store_site_fault_of given
  pub comes : IsCompactFault old new may_need given
  pub reads : new.failed_reads ≡ reads_after given old.failed_reads
  pub writes : new.failed_writes ≡ writes_after old.usable given old.failed_writes

-- no call failed
pub record NoCallFailed (old new : StoreState) : Type 0 where
  pub reads : new.failed_reads ≡ old.failed_reads
  pub writes : new.failed_writes ≡ old.failed_writes

-- The site stays, and what pins keep.
pub record SiteAndPinsStay (old new : SiteState) : Type 0 where
  pub site : IsTrue old.honest → new.site ≡ old.site
  pub pins : new.pins ≡ old.pins

-- The pairs of the site stand anew, and no call failed.
pub record WritesSiteAnew (old new : StoreState) (is_filled : Type 0) (takes : ℕ → Type 0) : Type 0 where
  pub anew : WritesAnew old new is_filled takes
  pub counts : NoCallFailed old new

-- Writing a site anew fails by its cause. Where no write or sync failed it may take as much as before.
pub record FailsToCompactSite {K : Type 0} (store_state : K → StoreState) (takes : K → ℕ → Type 0) (old new : K) (fault : SiteFault) : Type 0 where
  pub cause : IsSiteCompactFault (store_state old) (store_state new) (takes old) fault
  pub need : (store_state new).usable ≡ (store_state old).usable → CompactsTheSame (takes old) (takes new)

-- What is closed, or has no further generation, writes nothing anew.
pub record CompactsNoMore {T : Type 0} (old : StoreState) (result : Result T SiteFault) : Type 0 where
  pub closed : old.usable ≡ false → IsErrOf result Failed
  pub spent : old.usable ≡ true → old.top ≡ last_generation → IsErrOf result Spent

-- What writing a site anew takes, whatever it answers.
pub record TriesToCompact (old new : StoreState) : Type 0 where
  pub tried : StoreHasTried old new
  pub work : WritesAtMost old.free old.made new.made

-- A crash within it leaves what represents the same site. Where it was refused or closed, nothing was written.
pub record SiteCompactionCrashes {K L T : Type 0} (crash_states : K → CrashStates L) (has_content : L → List Pair → Banner → Type 0) (store_state : K → StoreState) (old new : K) (site : Site) (result : Result T SiteFault) : Type 0 where
  pub at_crash : IsTrue (store_state old).honest → (store_state old).usable ≡ true → AddsOnly (crash_states old) (crash_states new) (λ c. Represents has_content c site)
  pub no_new_crash_state : IsTrue (store_state old).honest → IfErr result (λ e. (store_state new).usable ≡ true → AddsNone (crash_states old) (crash_states new))
  pub no_new_crash_state_when_closed : IsTrue (store_state old).honest → (store_state old).usable ≡ false → AddsNone (crash_states old) (crash_states new)
