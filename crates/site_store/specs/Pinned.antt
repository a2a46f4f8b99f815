-- Reading what a pin keeps of a site.
use Rattle.std.specs.Prelude.{◌≡◌, ℕ, List, Some, IsTrue}
use Rattle.host_types.specs.Site.{Site, IsSite}
use Rattle.page_store.specs.Pages.{Pair}
use Rattle.page_store.specs.Pins.{pairs_at}
use Rattle.page_store.specs.StoreState.{StoreState}
use Rattle.site_records.specs.Layout.{layout}
use Rattle.site_store.specs.StoreReads.{NoneFailed, IsCountedFault}
use Rattle.site_store.specs.declared.fault.SiteOpenFault.{SiteOpenFault}
use Rattle.site_store.specs.declared.fault.SiteOpenFault.TheVariants.{BadRecord, Keeper, Memory}

-- The pairs that the pin of a number keeps are the layout of a valid site.
pub record StoodAt (number : ℕ) (h : StoreState) (s : Site) : Type 0 where
  pub pairs : List Pair
  pub keeps : pairs_at h number ≡ Some pairs
  pub valid : ∥ IsSite s ∥₁
  pub all : pairs ≡ layout s

-- When a fault may come of a call that reads what a pin keeps of a site, and takes no memory.
abbrev pub IsPinnedFault : ℕ → StoreState → StoreState → SiteOpenFault → Type 0
IsPinnedFault number old new BadRecord = NoneFailed old new × (IsTrue old.honest → (s : Site) → StoodAt number old s → ⊥)
IsPinnedFault number old new (Keeper fault) = IsCountedFault old new fault
IsPinnedFault number old new Memory = ⊥
