-- A keeper of a tree as its callers see it.
use Rattle.std.specs.Prelude.{ℕ, Bool, List, Option}
use Rattle.common_types.specs.CrashStates.{CrashStates}
use Rattle.sector_device.specs.Device.{State}
use Rattle.page_alloc.specs.LedgerState.{LedgerState}
use Rattle.page_store.specs.Pages.{Pair}
use Rattle.page_store.specs.Sectors.{Image}
use Rattle.page_store.specs.Steps.{crash_states_of}
use Rattle.page_store.specs.StoreState.{StoreState, CommitNeed}
use Rattle.page_store.specs.declared.edit.Edit.{Edit}
use Rattle.page_store.specs.declared.slot.Slot.{Slot}
use Rattle.cow_tree.specs.Compacting.{MayNeedFilled}
use Rattle.cow_tree.specs.Needs.{MayNeed}
use Rattle.cow_tree.specs.TreeState.{tree_holding}
use Rattle.cow_tree.specs.declared.tree_root.TreeRoot.{TreeRoot}
use Rattle.cow_tree.specs.declared.tree_keeper.TreeKeeper.{TreeKeeper}

abbrev pub device_of : {D : Type 0} {dict : _} → TreeKeeper D dict → D
device_of k = k.device

abbrev pub slot_of : {D : Type 0} {dict : _} → TreeKeeper D dict → Slot
slot_of k = k.slot

-- which pages are held and free
abbrev pub ledger_of : {D : Type 0} {dict : _} → TreeKeeper D dict → LedgerState
ledger_of k = k.ledger

-- the greatest generation that was found or tried
abbrev pub top_of : {D : Type 0} {dict : _} → TreeKeeper D dict → ℕ
top_of k = k.top

-- no write or sync has failed
abbrev pub is_open : {D : Type 0} {dict : _} → TreeKeeper D dict → Bool
is_open k = k.usable

-- what its trait tells
abbrev pub held : {D : Type 0} {dict : _} → (D → State) → TreeKeeper D dict → StoreState
held state k = tree_holding (state k.device) k.slot k.ledger k.top k.usable k.pinned

-- the trees that pins keep, by the pins' numbers
abbrev pub pinned_by : {D : Type 0} {dict : _} → TreeKeeper D dict → List (Option TreeRoot)
pinned_by k = k.pinned

-- the pairs of the leaf that the last `next` that read one has kept, if there is any
abbrev pub kept_by : {D : Type 0} {dict : _} → TreeKeeper D dict → List Pair
kept_by k = k.kept

-- what a batch may need
abbrev pub needs : {D : Type 0} {dict : _} → (D → State) → TreeKeeper D dict → List Edit → CommitNeed → Type 0
needs state k batch need = MayNeed k.slot (state k.device) batch need

-- how many pages writing all pairs anew may take
abbrev pub takes : {D : Type 0} {dict : _} → (D → State) → TreeKeeper D dict → ℕ → Type 0
takes state k need = MayNeedFilled k.slot (state k.device) need

-- what its trait tells that a crash may leave
abbrev pub crashes_of : {D : Type 0} {dict : _} → (D → ℕ) → (D → ℕ → Image → Type 0) → TreeKeeper D dict → CrashStates Image
crashes_of moment possible_since k = crash_states_of moment possible_since k.device
