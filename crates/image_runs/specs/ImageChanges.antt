-- Changes that are made on a site and on the site of an image, and what a crash leaves of them.
use Rattle.std.specs.Prelude.{◌≡◌, ◌≢◌, ℕ, ◌-◌, true, List, take, Result, Ok, Err, OnOk, IfErr, IsTrue}
use Rattle.host_types.specs.Site.{Site}
use Rattle.host_types.specs.SiteState.{SiteState}
use Rattle.host_types.specs.Counting.{IsReadCounted, writes_after}
use Rattle.host_types.specs.declared.site_fault.SiteFault.{SiteFault}
use Rattle.host_types.specs.declared.site_fault.SiteFault.TheVariants.{Failed}
use Rattle.host_types.specs.declared.site_keeper.SiteKeeper.{Ghosts}
use Rattle.host_types.specs.CrashStates.{CrashStates, AddsOnly, AddsNone, may_crash_to}
use Rattle.sector_device.specs.Device.{State, NothingCounted}
use Rattle.page_store.specs.Sectors.{Image}
use Rattle.cow_tree.specs.TreeSeen.{device_of}
use Rattle.cow_tree.specs.declared.tree_keeper.TreeKeeper.{TreeKeeper}
use Rattle.site_store.specs.Seen.{keeper_of}
use Rattle.site_store.specs.declared.disk_site.DiskSite.{DiskSite}
use Rattle.change_file.specs.Applied.{apply_all, IsStopped, RepresentsFront}
use Rattle.change_file.specs.declared.fault.FileChange.{FileChange}
use Rattle.change_file.specs.declared.fault.ApplyFault.{ApplyFault}
use Rattle.host_on_disk.specs.ImageSites.{ImageRepresents}

-- The site is that of these changes, made one after another, and each crash state represents it.
abbrev pub HasMadeChanges : {L : Type 0} → (L → Site → Type 0) → CrashStates L → Site → List FileChange → ℕ → Type 0
HasMadeChanges {L = L} represents states old changes now = (t : Site) × (apply_all old changes now ≡ Ok t) × ((c : L) → may_crash_to states c → represents c t)

-- All changes were made, or, unless a write or a sync failed, those before the one that was not. A crash in between leaves what represents the site after some of them, from the front.
pub record AppliesTo {S L : Type 0} (site_state : S → SiteState) (crash_states : S → CrashStates L) (represents : L → Site → Type 0) (old new : S) (changes : List FileChange) (now : ℕ) (result : Result ℕ ApplyFault) : Type 0 where
  pub all : OnOk result (HasMadeChanges represents (crash_states new) (site_state old).site changes now)
  pub before : (e : ApplyFault) → result ≡ Err e → e.fault ≢ Failed → HasMadeChanges represents (crash_states new) (site_state old).site (take (e.number - 1) changes) now
  pub at_crash : AddsOnly (crash_states old) (crash_states new) (RepresentsFront represents (site_state old).site changes now)

-- The same of the one site that reads of a device give at first. To open it writes nothing.
pub record AppliesToImage {D : Type 0} (state : D → State) (crash_states : D → CrashStates Image) (old new : D) (changes : List FileChange) (now : ℕ) (result : Result ℕ ApplyFault) : Type 0 where
  pub site : Site
  pub stands : ImageRepresents (state old).disk.view site
  pub alone : (s : Site) → ImageRepresents (state old).disk.view s → s ≡ site
  pub opened : D
  pub no_new_crash_state : AddsNone (crash_states old) (crash_states opened)
  pub all : OnOk result (HasMadeChanges ImageRepresents (crash_states new) site changes now)
  pub before : (e : ApplyFault) → result ≡ Err e → e.fault ≢ Failed → HasMadeChanges ImageRepresents (crash_states new) site (take (e.number - 1) changes) now
  pub at_crash : AddsOnly (crash_states opened) (crash_states new) (RepresentsFront ImageRepresents site changes now)

-- What changes count on a device of which one was not made with this fault: a read that failed, or the first write or sync that did, and nothing else.
pub record CountsOnDevice (fault : SiteFault) (old new : State) : Type 0 where
  pub reads : IsReadCounted old.honest fault old.failed_reads new.failed_reads
  pub writes : new.failed_writes ≡ writes_after true fault old.failed_writes

-- A device was opened as the site that it shows, which counts nothing; the changes up to one were made on that, and that one was not, for its own cause; and the device was handed back.
pub record StopsOnImage {D Pin : Type 0} {dict : _} {tree : _} (k : Ghosts (DiskSite (TreeKeeper D dict) tree) Pin) (old new : D) (changes : List FileChange) (now : ℕ) (stopped : ApplyFault) : Type 0 where
  pub opened : DiskSite (TreeKeeper D dict) tree
  pub closed : DiskSite (TreeKeeper D dict) tree
  pub shows : IsTrue (dict.state old).honest → ImageRepresents (dict.state old).disk.view (k.site_state opened).site
  pub counted : NothingCounted (dict.state old) (dict.state (device_of (keeper_of opened)))
  pub usable : (k.site_state opened).usable ≡ true
  pub stops : IsStopped k.site_state k.lacks opened closed changes now stopped.number stopped.fault
  pub handed : new ≡ device_of (keeper_of closed)

-- What changes on the site of an image count on its device, by their answer. It stays as honest as it is.
pub record CountsChangesOn {D : Type 0} (state : D → State) (old new : D) (result : Result ℕ ApplyFault) : Type 0 where
  pub counts : OnOk result (NothingCounted (state old) (state new))
  pub counts_fault : IfErr result (λ e. CountsOnDevice e.fault (state old) (state new))
  pub honest : (state new).honest ≡ (state old).honest
