-- Reading a whole site from its pairs.
use Rattle.std.specs.Prelude.{◌≡◌, ◌+◌, ◌*◌, ◌<◌, ◌≤◌, ℕ, All, ◌==◌, slice_index_or, true, false, length, flat_map, List, [], ◌∷◌, Option, Some, None, IsTrue, if◌then◌else◌}
use Rattle.std.specs.List.{AllByRecursion}
use Rattle.page_store.specs.Sizes.{longest_key, longest_value}
use Rattle.common_types.specs.Counts.{counted}
use Rattle.common_types.specs.CrashStates.{CrashStates}
use Rattle.host_types.specs.Site.{Site, IsSite, item_at, with_item}
use Rattle.host_types.specs.declared.item.Item.{Item}
use Rattle.sector_device.specs.CallsMade.{none_made}
use Rattle.page_store.specs.Work.{ReadsPages, pages_tried}
use Rattle.page_store.specs.Pages.{Pair}
use Rattle.page_store.specs.Batch.{value_at}
pub use Rattle.page_store.specs.PairsInOrder.{key_or_none, last_key, AreFirst}
use Rattle.site_records.specs.Layout.{layout, item_pairs}
use Rattle.site_records.specs.Limits.{is_short}
use Rattle.page_store.specs.StoreState.{StoreState, CommitNeed}
use Rattle.page_store.specs.declared.edit.Edit.{Edit}
use Rattle.page_store.specs.declared.banner.Banner.{Banner}
use Rattle.page_store.specs.declared.fault.KeeperFault.TheVariants as kinds
use Rattle.site_store.specs.Represented.{RepresentedBy, PairsShowSite}
use Rattle.site_store.specs.StoreReads.{StoreReadsOnly, NoneFailed}
use Rattle.site_store.specs.declared.fault.SiteOpenFault.{SiteOpenFault}
use Rattle.site_store.specs.declared.fault.SiteOpenFault.TheVariants.{BadRecord, Keeper, Memory}

-- a site of no items under the names of a banner
abbrev pub site_under : Banner → Site
site_under b = record { items = []; host = b.host; port = b.port; admin = b.admin }

abbrev pub with_any : Site → List ℕ → Option Item → Site
with_any s selector None = s
with_any s selector (Some item) = with_item s selector item

-- with the item that a key names in a site, where it names one
abbrev pub with_named : Site → Site → List ℕ → Site
with_named from s [] = s
with_named from s (tag ∷ selector) = if tag == 73 then with_any s selector (item_at from selector) else s

-- with the items that the keys of some pairs name in a site
abbrev pub with_all_named : Site → Site → List Pair → Site
with_all_named from s [] = s
with_all_named from s (p ∷ ps) = with_all_named from (with_named from s p.0) ps

-- the same host, port and administrator
pub record HasAddressOf (s : Site) (b : Banner) : Type 0 where
  pub host : s.host ≡ b.host
  pub port : s.port ≡ b.port
  pub admin : s.admin ≡ b.admin

-- Why a keeper was not opened as a site, and what the reading of it counted: each fault has its own cause. `BadRecord` says that what is held is of version 2, and of an honest keeper that it represents no valid site.
abbrev pub IsSiteOpenFault : StoreState → StoreState → SiteOpenFault → Type 0
IsSiteOpenFault old new (Keeper kinds.Failed) = (old.usable ≡ false) × NoneFailed old new
IsSiteOpenFault old new (Keeper kinds.Device) = (old.usable ≡ true) × (new.failed_reads ≡ counted old.failed_reads)
IsSiteOpenFault old new (Keeper (kinds.Damaged page)) = (old.usable ≡ true) × NoneFailed old new × (old.honest ≡ false)
IsSiteOpenFault old new (Keeper kinds.NoImage) = ⊥
IsSiteOpenFault old new (Keeper kinds.Version) = (old.usable ≡ true) × NoneFailed old new × (old.banner.version ≡ 2 → ⊥)
IsSiteOpenFault old new (Keeper kinds.Small) = ⊥
IsSiteOpenFault old new (Keeper kinds.Spent) = ⊥
IsSiteOpenFault old new (Keeper kinds.Deep) = ⊥
IsSiteOpenFault old new (Keeper (kinds.Full need free)) = ⊥
IsSiteOpenFault old new (Keeper kinds.Memory) = ⊥
IsSiteOpenFault old new BadRecord = (old.usable ≡ true) × NoneFailed old new × (old.banner.version ≡ 2) × (IsTrue old.honest → (s : Site) → RepresentedBy old s → ⊥)
IsSiteOpenFault old new Memory = (old.usable ≡ true) × NoneFailed old new × (old.banner.version ≡ 2)

-- What was read is the layout of a valid site under the banner that is kept, and of as many pairs as are counted: so on every device, whatever it gave.
pub record IsReadWhole (h : StoreState) : Type 0 where
  pub pairs : List Pair
  pub site : Site
  pub shows : PairsShowSite pairs h.banner site
  pub counted : length pairs ≡ h.keys

-- Why some pairs under a banner are no site: `BadRecord` says that they represent no valid one.
abbrev pub IsSitePairsFault : List Pair → Banner → SiteOpenFault → Type 0
IsSitePairsFault pairs banner (Keeper fault) = ⊥
IsSitePairsFault pairs banner BadRecord = (s : Site) → PairsShowSite pairs banner s → ⊥
IsSitePairsFault pairs banner Memory = Unit {0}

-- each value fits a buffer
abbrev pub ValuesFit : List Pair → Type 0
ValuesFit pairs = All (λ p. length p.1 ≤ longest_value) pairs

-- each key fits a buffer
abbrev pub KeysFit : List Pair → Type 0
KeysFit pairs = All (λ p. length p.0 ≤ longest_key) pairs

-- Pairs in memory under a banner, as a store that holds them: no read of it fails, and it is never written.
abbrev pub pairs_state : List Pair → Banner → StoreState
pairs_state pairs banner = record { pairs = pairs; banner = banner; honest = true; usable = true; failed_reads = 0; failed_writes = 0; generation = 0; top = 0; free = 0; height = 0; keys = length pairs; made = none_made; pins = [] }

-- no item is too long
abbrev pub ItemsAreShort : List (List ℕ × Item) → Type 0
ItemsAreShort es = AllByRecursion (λ e. IsTrue (is_short e.1)) es

-- the pairs of some items, one item after the other
abbrev pub pairs_in : List (List ℕ × Item) → List Pair
pairs_in es = flat_map (λ e. item_pairs e.0 e.1) es

-- the place of a key among some pairs, or none where nothing stands at it
abbrev pub IsPlaceOf : List Pair → List ℕ → Option ℕ → Type 0
IsPlaceOf ps key None = value_at ps key ≡ None
IsPlaceOf ps key (Some n) = (n < length ps) × ((d : Pair) → value_at ps key ≡ Some (slice_index_or ps n d).1)

-- each of some pairs stands among all
abbrev pub StandAmong : List Pair → List Pair → Type 0
StandAmong all some = AllByRecursion (λ p. value_at all p.0 ≡ Some p.1) some

-- How many pairs an item has, where each stands among all; none where one doesn't.
abbrev pub CountsItem : List Pair → List ℕ → Item → Option ℕ → Type 0
CountsItem all selector item None = StandAmong all (item_pairs selector item) → ⊥
CountsItem all selector item (Some n) = StandAmong all (item_pairs selector item) × (n ≡ length (item_pairs selector item))

-- Each pair of some items stands among all, and there are so many of them.
abbrev pub AreCounted : List Pair → ℕ → List (List ℕ × Item) → Type 0
AreCounted all n es = StandAmong all (pairs_in es) × (n ≡ length (pairs_in es))

-- These pairs are the layout of a site that keeps all rules.
abbrev pub IsLayoutOf : List Pair → Site → Type 0
IsLayoutOf pairs s = IsSite s × (pairs ≡ layout s)

-- How much is read of a store to go through its pairs once: one search for each pair, and one that finds no more.
abbrev pub ReadsAll : StoreState → StoreState → Type 0
ReadsAll old new = ReadsPages ((old.keys + 1) * pages_tried old.height) old.made new.made

-- A keeper was opened as a site: it was only read, once through its pairs, no read failed, and it can be used.
pub record OpensSite {K L : Type 0} (store_state : K → StoreState) (may_need : K → List Edit → CommitNeed → Type 0) (crash_states : K → CrashStates L) (old new : K) : Type 0 where
  pub only : StoreReadsOnly store_state may_need crash_states old new
  pub reads : NoneFailed (store_state old) (store_state new)
  pub work : ReadsAll (store_state old) (store_state new)
  pub usable : (store_state new).usable ≡ true
