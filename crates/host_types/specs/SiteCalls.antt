-- What the calls of a keeper of a site do, effect by effect.
use Rattle.std.specs.Prelude.{◌≡◌, ◌⊎◌, ◌≤◌, ℕ, Bool, true, false, List, [], length, take, Result, Ok, IfOk, OnOk, IfErr, IsErrOf, IsTrue}
use Rattle.common_types.specs.CrashStates.{CrashStates, AddsOnly, AddsNone}
use Rattle.host_types.specs.AllChanges.{Changes}
use Rattle.host_types.specs.Card.{chunk_of}
use Rattle.host_types.specs.Counting.{CountsReads, CountsWrites}
use Rattle.host_types.specs.Pins.{Pinned, pinned_items, viewed_among}
use Rattle.host_types.specs.Site.{Site}
use Rattle.host_types.specs.SiteState.{SiteState, HasRead, LacksTheSame, IsUnchangedBehind, HasTried, SpentFirst, IsReadFault}
use Rattle.host_types.specs.declared.site_fault.SiteFault.{SiteFault}
use Rattle.host_types.specs.declared.site_fault.SiteFault.TheVariants.{Failed}

-- ---- reads

-- Nothing of the site changes, nor what a change may lack, and nothing is written.
pub record ReadsOnly {K L : Type 0} (site_state : K → SiteState) (lacks : K → Changes → SiteFault → Type 0) (crash_states : K → CrashStates L) (old new : K) : Type 0 where
  pub kept : HasRead (site_state old) (site_state new)
  pub lacking : LacksTheSame (lacks old) (lacks new)
  pub no_new_crash_state : IsTrue (site_state old).honest → AddsNone (crash_states old) (crash_states new)

-- How a call that only reads ends: a fault has its cause, a read that failed is counted, and what is closed gives nothing.
pub record ReadsOrFails {T : Type 0} (may_lack_memory : Bool) (old new : SiteState) (result : Result T SiteFault) : Type 0 where
  pub fault : IfErr result (IsReadFault may_lack_memory old new)
  pub reads : CountsReads result old new
  pub closed : old.usable ≡ false → IsErrOf result Failed

-- the bytes of a view of what stands at a selector among the items that a pin keeps
abbrev pub pinned_view : SiteState → Pinned → List ℕ → ℕ → List ℕ
pinned_view h pin selector view = viewed_among (pinned_items h pin) selector view

-- The front of the buffer is chunk k of these bytes, where it is known to be, and what stands behind it stays; after a fault the whole buffer does.
pub record GivesChunk (Known : Type 0) (bytes : List ℕ) (k : ℕ) (old new : List ℕ) (result : Result ℕ SiteFault) : Type 0 where
  pub within : IfOk result (λ n. n ≤ length new)
  pub chunk : Known → IfOk result (λ n. take n new ≡ chunk_of bytes k)
  pub behind : IfOk result (λ n. IsUnchangedBehind n old new)
  pub untouched : IfErr result (λ e. new ≡ old)

-- the same where the view is known to have bytes
abbrev pub GivesKnownChunk : Bool → List ℕ → ℕ → List ℕ → List ℕ → Result ℕ SiteFault → Type 0
GivesKnownChunk honest bytes k old new result = GivesChunk (IsTrue honest × (bytes ≡ [] → ⊥)) bytes k old new result

-- ---- changes; `applied` is the site that is to be made, or the first refusal

-- What is made is the site that is to be, and then no write or sync has failed.
pub record ChangesSite {T E R : Type 0} (old new : SiteState) (applied : Result Site R) (result : Result T E) : Type 0 where
  pub done : IsTrue old.honest → OnOk result (applied ≡ Ok new.site)
  pub still_usable : OnOk result (new.usable ≡ true)

-- What is closed makes nothing. Where no further change is taken, that is told first, by the fault of one change.
pub record ChangesNoMore {T E : Type 0} (lacks : SiteFault → Type 0) (failed : E) (usable : Bool) (told : Result T SiteFault) (result : Result T E) : Type 0 where
  pub spent : usable ≡ true → SpentFirst lacks told
  pub closed : usable ≡ false → IsErrOf result failed

-- What a change counts, whatever it answers, by the fault of one change.
pub record CountsChange {T : Type 0} (old new : SiteState) (told : Result T SiteFault) : Type 0 where
  pub tried : HasTried old new
  pub reads : CountsReads told old new
  pub writes : CountsWrites told old new

-- A crash within the call leaves what represents the site before it, or the changed one. Where nothing failed and nothing was changed, and where it was closed, nothing was written.
pub record ChangeCrashes {K L T R E : Type 0} (site_state : K → SiteState) (crash_states : K → CrashStates L) (represents : L → Site → Type 0) (old new : K) (applied : Result Site R) (result : Result T E) : Type 0 where
  pub at_crash : IsTrue (site_state old).honest → (site_state old).usable ≡ true → AddsOnly (crash_states old) (crash_states new) (λ c. represents c (site_state old).site ⊎ ((s : Site) × (applied ≡ Ok s) × represents c s))
  pub no_new_crash_state : IsTrue (site_state old).honest → IfErr result (λ e. (site_state new).usable ≡ true → AddsNone (crash_states old) (crash_states new))
  pub no_new_crash_state_when_closed : IsTrue (site_state old).honest → (site_state old).usable ≡ false → AddsNone (crash_states old) (crash_states new)
