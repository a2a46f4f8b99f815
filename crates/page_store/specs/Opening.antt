-- What an opening of an image does to its device.
use Rattle.std.specs.Prelude.{◌+◌, ℕ, ◌≡◌, Some, Result, IsTrue, OnOk, IfErr}
use Rattle.common_types.specs.CrashStates.{CrashStates, AddsNone}
use Rattle.sector_device.specs.Device.{State, NothingCounted}
use Rattle.sector_device.specs.Effects.{MadeAtMost}
use Rattle.page_store.specs.Sectors.{Image}
use Rattle.page_store.specs.Counting.{CountsRefusal}
use Rattle.page_store.specs.DeviceEffects.{KeepsDevice}
use Rattle.page_store.specs.Roots.{IsFoundSlot, current, greatest_seal}
use Rattle.page_store.specs.declared.slot.Slot.{Slot}
use Rattle.page_store.specs.declared.fault.KeeperFault.{KeeperFault}
use Rattle.page_store.specs.declared.fault.KeeperFault.TheVariants.{Small}

-- A call that opens an image: the device stays the same, a read or a sync that fails is counted and nothing else, `Small` comes before anything is asked of the device, and each fault has its reason.
pub record ReadsToOpen {T D : Type 0} (state : D → State) (crash_states : D → CrashStates Image) (old new : D) (reason : State → State → KeeperFault → Type 0) (result : Result T KeeperFault) : Type 0 where
  pub device : KeepsDevice state crash_states old new
  pub counts : OnOk result (NothingCounted (state old) (state new))
  pub counts_fault : IfErr result (λ e. CountsRefusal e (state old) (state new))
  pub small : IfErr result (λ e. e ≡ Small → new ≡ old)
  pub fault : IfErr result (reason (state old) (state new))

-- An opening made one sync, at most so many reads, and no write.
pub record MadeToOpen (r : ℕ) (old new : State) : Type 0 where
  pub sync : new.made.syncs ≡ old.made.syncs + 1
  pub most : MadeAtMost r 0 1 old new

-- The slot that is current, of such a version, and the greatest seal.
pub record FindsSlot (old : State) (is_version : ℕ → Type 0) (slot : Slot) (top : ℕ) : Type 0 where
  pub slot_is : IsTrue old.honest → current old.disk.view ≡ Some slot
  pub top_is : IsTrue old.honest → greatest_seal old.disk.view 16 ≡ top
  pub fits : IsFoundSlot old.size slot
  pub version_is : is_version slot.root.banner.version

-- A refused opening hands the device back: `Small` as it was, and else with one sync, reads and no write. The refusal has its reason, and a call that failed is counted.
pub record RefusesToOpen {D : Type 0} (state : D → State) (crash_states : D → CrashStates Image) (given : D) (reason : State → State → KeeperFault → Type 0) (back : D) (fault : KeeperFault) : Type 0 where
  pub cause : reason (state given) (state back) fault
  pub counts : CountsRefusal fault (state given) (state back)
  pub small : fault ≡ Small → back ≡ given
  pub work : MadeAtMost (state given).size 0 1 (state given) (state back)
  pub at_crash : IsTrue (state given).honest → AddsNone (crash_states given) (crash_states back)
  pub handed_back : ((state back).size ≡ (state given).size) × ((state back).honest ≡ (state given).honest)
