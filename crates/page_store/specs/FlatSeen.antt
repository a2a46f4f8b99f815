-- A keeper of flat pages as its callers see it.
use Rattle.std.specs.Prelude.{ℕ, List, Bool}
use Rattle.common_types.specs.CrashStates.{CrashStates}
use Rattle.sector_device.specs.Device.{State}
use Rattle.page_store.specs.Pages.{Pair}
use Rattle.page_store.specs.Sectors.{Image}
use Rattle.page_store.specs.Steps.{crash_states_of}
use Rattle.page_store.specs.StoreState.{StoreState}
use Rattle.page_store.specs.FlatState.{flat_holding}
use Rattle.page_store.specs.declared.slot.Slot.{Slot}
use Rattle.page_store.specs.declared.banner.Banner.{Banner}
use Rattle.page_store.specs.declared.flat_keeper.FlatKeeper.{FlatKeeper}

abbrev pub device_of : {D : Type 0} {dict : _} → FlatKeeper D dict → D
device_of k = k.device

abbrev pub pairs_of : {D : Type 0} {dict : _} → FlatKeeper D dict → List Pair
pairs_of k = k.pairs.items

abbrev pub banner_of : {D : Type 0} {dict : _} → FlatKeeper D dict → Banner
banner_of k = k.slot.root.banner

-- the greatest generation that was found or tried
abbrev pub top_of : {D : Type 0} {dict : _} → FlatKeeper D dict → ℕ
top_of k = k.top

abbrev pub is_open : {D : Type 0} {dict : _} → FlatKeeper D dict → Bool
is_open k = k.usable

abbrev pub slot_of : {D : Type 0} {dict : _} → FlatKeeper D dict → Slot
slot_of k = k.slot

-- what its trait tells
abbrev pub held : {D : Type 0} {dict : _} → (D → State) → FlatKeeper D dict → StoreState
held state k = flat_holding (state k.device) k.slot k.pairs.items k.top k.usable

-- what its trait tells that a crash may leave
abbrev pub crashes_of : {D : Type 0} {dict : _} → (D → ℕ) → (D → ℕ → Image → Type 0) → FlatKeeper D dict → CrashStates Image
crashes_of moment possible_since k = crash_states_of moment possible_since k.device
