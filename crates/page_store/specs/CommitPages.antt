-- What writing new pages and a root over them does to a device.
use Rattle.std.specs.Prelude.{◌≡◌, List, Result, IsTrue, OnOk}
use Rattle.common_types.specs.CrashStates.{CrashStates, AddsOnly}
use Rattle.sector_device.specs.Device.{State}
use Rattle.sector_device.specs.declared.device.DeviceFault.{DeviceFault}
use Rattle.page_store.specs.Commit.{Commit, IsReady, IsBetween, IsDone}
use Rattle.page_store.specs.Sectors.{Image}
use Rattle.page_store.specs.declared.commit.NewPage.{NewPage}
use Rattle.page_store.specs.declared.slot.Slot.{Slot}

-- Of each commit that may be done so: every crash leaves the content from before or the new one, and no page changed that wasn't free; once it is done, every image is the view, and that has the new content.
pub record CommitsPages {D T : Type 0} (state : D → State) (crash_states : D → CrashStates Image) (old new : D) (slot : Slot) (pages : List NewPage) (result : Result T DeviceFault) : Type 0 where
  pub at_crash : IsTrue (state old).honest → (commit : Commit) → commit.new ≡ slot → IsReady commit pages (state old).disk.view → AddsOnly (crash_states old) (crash_states new) (IsBetween commit pages (state old).disk.view)
  pub done : IsTrue (state old).honest → (commit : Commit) → commit.new ≡ slot → IsReady commit pages (state old).disk.view → OnOk result (IsDone commit pages (crash_states new) (state old).disk.view (state new).disk.view)
