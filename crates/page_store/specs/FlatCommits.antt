-- How a keeper of flat pages writes a commit.
use Rattle.std.specs.Prelude.{◌≡◌, ◌⊎◌, ◌<◌, ◌+◌, ◌*◌, ℕ, Bool, true, false, List, Result, IsTrue, IfErr}
use Rattle.common_types.specs.Counts.{Counts}
use Rattle.common_types.specs.CrashStates.{CrashStates, AddsOnly, may_crash_to}
use Rattle.sector_device.specs.Device.{State}
use Rattle.sector_device.specs.Effects.{MadeIfOk}
use Rattle.sector_device.specs.declared.device.DeviceFault.{DeviceFault}
use Rattle.page_store.specs.Batch.{is_map, updated}
use Rattle.page_store.specs.Commit.{IsBetween}
use Rattle.page_store.specs.Content.{is_opened}
use Rattle.page_store.specs.Encoding.{pages_needed}
use Rattle.page_store.specs.FlatState.{IsFlatBetween, flat_commit}
use Rattle.page_store.specs.Sectors.{Image}
use Rattle.page_store.specs.StoreState.{last_generation}
use Rattle.page_store.specs.declared.banner.Banner.{Banner}
use Rattle.page_store.specs.declared.edit.Edit.{Edit}
use Rattle.page_store.specs.declared.fault.KeeperFault.{KeeperFault}
use Rattle.page_store.specs.declared.flat_keeper.FlatKeeper.{FlatKeeper}
use Rattle.page_store.specs.declared.flat_plan.Plan.{Plan}

-- `between`: a crash leaves what one before the call might have left, or an image on the way to the other half and the other slot. `written`: so many pages as the batch needs and the page of a root, with two syncs. `unwritten`: a fault before the first write leaves the device as it is.
pub record WritesOtherHalf {D T : Type 0} {dict : _} (state : D → State) (crash_states : FlatKeeper D dict → CrashStates Image) (old new : FlatKeeper D dict) (batch : List Edit) (given : Banner) (result : Result T KeeperFault) : Type 0 where
  pub between : IsTrue (state old.device).honest → old.usable ≡ true → AddsOnly (crash_states old) (crash_states new) (λ c. may_crash_to (crash_states old) c ⊎ IsFlatBetween old.slot old.pairs.items old.top (state old.device).disk.view batch given c)
  pub written : MadeIfOk result 0 (8 * pages_needed (updated old.pairs.items batch) + 8) 2 (state old.device) (state new.device)
  pub unwritten : IfErr result (λ e. new.usable ≡ old.usable → new.device ≡ old.device)

-- ---- the plan of a commit

-- A plan that may be written: no write or sync has failed, a generation is left, and the pairs and the version are ones of flat pages.
pub record MayWriteHalf (flag : Bool) (top : ℕ) (plan : Plan) : Type 0 where
  pub usable : flag ≡ true
  pub left : top < last_generation
  pub map : is_map plan.pairs.items ≡ true
  pub version : IsTrue (is_opened plan.slot.root.banner.version)

-- What was planned is held.
pub record HoldsHalf {D : Type 0} {dict : _} (plan : Plan) (new : FlatKeeper D dict) : Type 0 where
  pub pairs : new.pairs.items ≡ plan.pairs.items
  pub slot : new.slot ≡ plan.slot
  pub usable : new.usable ≡ true

-- What was held is held, and no further commit is taken.
pub record HoldsOldHalf {D : Type 0} {dict : _} (old new : FlatKeeper D dict) : Type 0 where
  pub same_pairs : new.pairs.items ≡ old.pairs.items
  pub same_slot : new.slot ≡ old.slot
  pub shut : new.usable ≡ false

-- A generation was tried, and a write or a sync that failed is counted. So many pages and the page of a root were written, with two syncs.
pub record CountsHalf {D T : Type 0} {dict : _} (state : D → State) (old new : FlatKeeper D dict) (pages : ℕ) (result : Result T DeviceFault) : Type 0 where
  pub top : new.top ≡ old.top + 1
  pub honest : (state new.device).honest ≡ (state old.device).honest
  pub reads : (state new.device).failed_reads ≡ (state old.device).failed_reads
  pub writes : Counts result (state old.device).failed_writes (state new.device).failed_writes
  pub work : MadeIfOk result 0 (8 * pages + 8) 2 (state old.device) (state new.device)

-- A crash leaves an image on the way to what is planned.
abbrev pub CrashesHalfWay : {D : Type 0} {dict : _} → (D → State) → (FlatKeeper D dict → CrashStates Image) → FlatKeeper D dict → FlatKeeper D dict → Plan → Type 0
CrashesHalfWay state crash_states old new plan =
    AddsOnly (crash_states old) (crash_states new) (IsBetween (flat_commit old.slot old.pairs.items (old.top + 1) plan.pairs.items plan.slot.root.banner) plan.pages.items (state old.device).disk.view)
