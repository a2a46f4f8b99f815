-- Images of version 1 as sites, and what an upgrade makes of them.
use Rattle.std.specs.Prelude.{◌≡◌, ◌⊎◌, ◌<◌, ◌+◌, ℕ, Bool, true, false, List, [], ◌∷◌, Result, Ok, Err, Some, length, is_none, ◌&&◌, if◌then◌else◌, IsTrue, IfErr}
use Rattle.std.specs.List.{AllByRecursion}
use Rattle.common_types.specs.CrashStates.{CrashStates, AddsOnly, AddsNone}
use Rattle.host_types.specs.Site.{Site, IsSite}
use Rattle.host_types.specs.declared.item.Item.{Item}
use Rattle.page_store.specs.Counting.{reads_after, writes_after}
use Rattle.page_store.specs.Pages.{Pair}
use Rattle.page_store.specs.Work.{WritesAtMost}
use Rattle.page_store.specs.StoreState.{StoreState, numbers_out, CommitNeed, SoManyPages, TooManyLevels, HasStayed, StoreHasFailed, MayBeDeep, last_generation}
use Rattle.page_store.specs.declared.banner.Banner.{Banner}
use Rattle.page_store.specs.declared.edit.Edit.{Edit}
use Rattle.page_store.specs.declared.fault.KeeperFault.{KeeperFault}
use Rattle.page_store.specs.declared.fault.KeeperFault.TheVariants as kinds
use Rattle.site_pairs.specs.Edits.{Edits, batch_of}
use Rattle.site_records.specs.Records.{recorded_body, record_bytes, record_bytes_v1}
use Rattle.site_records.specs.Limits.{is_small, is_record_v1}
use Rattle.site_records.specs.Layout.{Pairs, is_record_key, layout, layout_v1}
use Rattle.site_records.specs.declared.record.Record.{Record}
use Rattle.site_store.specs.Represented.{Represents, RepresentedBy}
use Rattle.site_store.specs.StoreReads.{IsFaultUnless}
use Rattle.site_store.specs.declared.fault.SiteOpenFault.{SiteOpenFault}
use Rattle.site_store.specs.declared.fault.SiteOpenFault.TheVariants.{BadRecord, Keeper, Memory}

-- an item that version 1 knows: it never expires, and its views are smaller
abbrev pub is_first : Item → Bool
is_first item = is_none item.until && is_small (recorded_body item.body)

-- These pairs and this banner represent a valid site in version 1.
pub record ShowsFirst (pairs : List Pair) (banner : Banner) (s : Site) : Type 0 where
  pub valid : ∥ IsSite s ∥₁
  pub known : AllByRecursion (λ e. IsTrue (is_first e.1)) s.items
  pub all : pairs ≡ layout_v1 s
  pub host : banner.host ≡ s.host
  pub port : banner.port ≡ s.port
  pub admin : banner.admin ≡ s.admin
  pub version : banner.version ≡ 1

-- What is left has the pairs and the banner of a site in version 1.
abbrev pub RepresentsFirst : {L : Type 0} → (L → List Pair → Banner → Type 0) → L → Site → Type 0
RepresentsFirst has_content c s = (pairs : List Pair) × (banner : Banner) × has_content c pairs banner × ShowsFirst pairs banner s

-- in version 1 or in version 2
abbrev pub RepresentsEitherVersion : {L : Type 0} → (L → List Pair → Banner → Type 0) → L → Site → Type 0
RepresentsEitherVersion has_content c s = RepresentsFirst has_content c s ⊎ Represents has_content c s

-- the site that a store holds in version 1
abbrev pub FirstBy : StoreState → Site → Type 0
FirstBy h s = ShowsFirst h.pairs h.banner s

-- ---- records of version 2 by those of version 1

-- a record in version 1, and the same in version 2
pub record IsRaised (old new : List ℕ) : Type 0 where
  pub kept : Record
  pub valid : IsTrue (is_record_v1 kept)
  pub old_is : old ≡ record_bytes_v1 kept
  pub new_is : new ≡ record_bytes kept

-- a record, or another value, which stays
abbrev pub IsRaisedAt : (changes : Bool) → List ℕ → List ℕ → Type 0
IsRaisedAt true old new = IsRaised old new
IsRaisedAt false old new = new ≡ old

abbrev pub IsRaisedPair : Pair → Pair → Type 0
IsRaisedPair p q = (q.0 ≡ p.0) × IsRaisedAt (is_record_key p.0) p.1 q.1

-- one after another
abbrev pub AreRaised : List Pair → List Pair → Type 0
AreRaised [] [] = Unit {0}
AreRaised [] (q ∷ qs) = ⊥
AreRaised (p ∷ ps) [] = ⊥
AreRaised (p ∷ ps) (q ∷ qs) = IsRaisedPair p q × AreRaised ps qs

-- why a value, or pairs, or a site is not made of something: there is none, or no memory
abbrev pub IsNotRaised : {A : Type 0} → (A → Type 0) → SiteOpenFault → Type 0
IsNotRaised Is BadRecord = (a : _) → Is a → ⊥
IsNotRaised Is (Keeper fault) = ⊥
IsNotRaised Is Memory = Unit {0}

-- the records among some pairs come
abbrev pub record_edits : Pairs → Edits
record_edits [] = []
record_edits (p ∷ ps) = if is_record_key p.0 then (p.0, Some p.1) ∷ record_edits ps else record_edits ps

-- ---- what an upgrade does

-- the same host, port and administrator, in version 2
abbrev pub raised_banner : Banner → Banner
raised_banner b = record b { version = 2 }

-- the edits that bring the records of a site in version 2
abbrev pub upgrade_batch : Site → List Edit
upgrade_batch s = batch_of (record_edits (layout s))

-- when a fault may come of reading what a store holds in version 1
abbrev pub IsFirstReadFault : StoreState → StoreState → SiteOpenFault → Type 0
IsFirstReadFault old new fault = IsFaultUnless ((s : Site) × FirstBy old s) old new fault

-- The site that some pairs and a banner represent in version 1, and the batch that makes its layout of them.
abbrev pub IsUpgradeOf : List Pair → Banner → List Edit → Type 0
IsUpgradeOf pairs banner batch = (s : Site) × ShowsFirst pairs banner s × (batch ≡ upgrade_batch s)

-- What was read is the layout of a valid site of version 1, with so many items, and of as many pairs as are counted: so on every device, whatever it gave.
pub record IsFirstWhole (h : StoreState) (count : ℕ) : Type 0 where
  pub pairs : List Pair
  pub site : Site
  pub shows : ShowsFirst pairs h.banner site
  pub counted : length pairs ≡ h.keys
  pub items : count ≡ length site.items

-- A site of version 1 was written as one of version 2, in one commit: so many records, one for each item.
pub record IsUpgraded (old new : StoreState) (count : ℕ) : Type 0 where
  pub site : IsTrue old.honest → (s : Site) × FirstBy old s × RepresentedBy new s × (count ≡ length s.items)
  pub whole : IsFirstWhole old count
  pub banner : new.banner ≡ raised_banner old.banner
  pub once : new.top ≡ old.top + 1
  pub generation : new.generation ≡ old.top + 1
  pub usable : new.usable ≡ true
  pub honest : new.honest ≡ old.honest
  pub reads : new.failed_reads ≡ old.failed_reads
  pub writes : new.failed_writes ≡ old.failed_writes
  pub out : numbers_out new ≡ numbers_out old
  pub calls : WritesAtMost old.free old.made new.made

-- Why nothing was upgraded, and what stays then: all of it, but that a keeper that has failed may have tried one generation more. `BadRecord` says that the pairs and the banner represent no site in version 1.
abbrev pub IsUpgradeFault : StoreState → StoreState → (List Edit → CommitNeed → Type 0) → SiteOpenFault → Type 0
IsUpgradeFault old new may_need BadRecord = HasStayed old new × (IsTrue old.honest → (s : Site) → FirstBy old s → ⊥)
IsUpgradeFault old new may_need Memory = HasStayed old new
IsUpgradeFault old new may_need (Keeper kinds.Device) = HasStayed old new
IsUpgradeFault old new may_need (Keeper (kinds.Damaged page)) = HasStayed old new × (old.honest ≡ false)
IsUpgradeFault old new may_need (Keeper kinds.Spent) = HasStayed old new × (old.top ≡ last_generation)
IsUpgradeFault old new may_need (Keeper kinds.Deep) = HasStayed old new × (IsTrue old.honest → (s : Site) × FirstBy old s × MayBeDeep old (length s.items) × may_need (upgrade_batch s) TooManyLevels)
IsUpgradeFault old new may_need (Keeper (kinds.Full need free)) =
    HasStayed old new × ((free ≡ old.free) × (free < need)) × (IsTrue old.honest → (s : Site) × FirstBy old s × may_need (upgrade_batch s) (SoManyPages need))
IsUpgradeFault old new may_need (Keeper kinds.Failed) = StoreHasFailed old new × (IsTrue old.honest → IsTrue old.usable → (s : Site) × FirstBy old s)
IsUpgradeFault old new may_need (Keeper kinds.NoImage) = ⊥
IsUpgradeFault old new may_need (Keeper kinds.Version) = ⊥
IsUpgradeFault old new may_need (Keeper kinds.Small) = ⊥
IsUpgradeFault old new may_need (Keeper kinds.Memory) = ⊥

-- a keeper's fault of a commit
abbrev pub commit_fault : KeeperFault → SiteOpenFault
commit_fault kinds.Memory = Memory
commit_fault kinds.Device = Keeper kinds.Device
commit_fault kinds.NoImage = Keeper kinds.NoImage
commit_fault kinds.Version = Keeper kinds.Version
commit_fault (kinds.Damaged page) = Keeper (kinds.Damaged page)
commit_fault kinds.Small = Keeper kinds.Small
commit_fault kinds.Spent = Keeper kinds.Spent
commit_fault kinds.Deep = Keeper kinds.Deep
commit_fault (kinds.Full need free) = Keeper (kinds.Full need free)
commit_fault kinds.Failed = Keeper kinds.Failed

-- what a fault counts: that of the keeper does, no other
abbrev pub reads_counted : SiteOpenFault → ℕ → ℕ
reads_counted (Keeper fault) count = reads_after fault count
reads_counted BadRecord count = count
reads_counted Memory count = count

abbrev pub writes_counted : Bool → SiteOpenFault → ℕ → ℕ
writes_counted usable (Keeper fault) count = writes_after usable fault count
writes_counted usable BadRecord count = count
writes_counted usable Memory count = count

-- Nothing was upgraded: why, and what was counted.
pub record IsNotUpgraded (old new : StoreState) (may_need : List Edit → CommitNeed → Type 0) (fault : SiteOpenFault) : Type 0 where
  pub cause : IsUpgradeFault old new may_need fault
  pub honest : new.honest ≡ old.honest
  pub reads : new.failed_reads ≡ reads_counted fault old.failed_reads
  pub writes : new.failed_writes ≡ writes_counted old.usable fault old.failed_writes
  pub out : numbers_out new ≡ numbers_out old
  pub calls : WritesAtMost old.free old.made new.made

-- the keeper that an upgrade hands back, whatever it answers
abbrev pub handed_back : {K : Type 0} → Result (K × ℕ) (SiteOpenFault × K) → K
handed_back (Ok done) = done.0
handed_back (Err refused) = refused.1

-- A crash within an upgrade leaves the site, in one version or the other. Where nothing was upgraded but the keeper can be used, and where there was no site in version 1, nothing was written.
pub record UpgradeCrashes {K L : Type 0} (store_state : K → StoreState) (crash_states : K → CrashStates L) (has_content : L → List Pair → Banner → Type 0) (old : K) (result : Result (K × ℕ) (SiteOpenFault × K)) : Type 0 where
  pub at_crash : IsTrue (store_state old).honest → (store_state old).usable ≡ true → (s : Site) → FirstBy (store_state old) s → AddsOnly (crash_states old) (crash_states (handed_back result)) (λ c. RepresentsEitherVersion has_content c s)
  pub no_new_crash_state : IsTrue (store_state old).honest → IfErr result (λ e. (store_state e.1).usable ≡ true → AddsNone (crash_states old) (crash_states e.1))
  pub no_site : IsTrue (store_state old).honest → ((s : Site) → FirstBy (store_state old) s → ⊥) → AddsNone (crash_states old) (crash_states (handed_back result))
