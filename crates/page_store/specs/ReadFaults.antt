-- When a walk over flat pages fails.
use Rattle.std.specs.Prelude.{Bool, IsTrue, ◌≡◌, ◌⊎◌, ◌≤◌, ◌<◌, ◌+◌, None, Option, List, ℕ}
use Rattle.common_types.specs.Counts.{counted}
use Rattle.page_store.specs.Pages.{Pair}
use Rattle.page_store.specs.Flat.{half_size}
use Rattle.page_store.specs.declared.slot.Slot.{Slot}
use Rattle.page_store.specs.declared.fault.KeeperFault.{KeeperFault}
use Rattle.page_store.specs.declared.fault.KeeperFault.TheVariants as faults

-- the slot itself, or a page of the half that it names
abbrev pub MayBeNamed : Slot → ℕ → Type 0
MayBeNamed slot page = (page ≡ slot.number) ⊎ ((slot.root.tree ≤ page) × (page < slot.root.tree + half_size slot.root.pages))

-- A read failed, a page was found wrong, or memory was lacking; `read` is what the pages hold.
abbrev pub IsHalfFault : Slot → Bool → ℕ → ℕ → Option (List Pair) → KeeperFault → Type 0
IsHalfFault slot honest before now read faults.Device = now ≡ counted before
IsHalfFault slot honest before now read faults.NoImage = ⊥
IsHalfFault slot honest before now read faults.Version = ⊥
IsHalfFault slot honest before now read (faults.Damaged page) = (IsTrue honest → read ≡ None) × MayBeNamed slot page
IsHalfFault slot honest before now read faults.Small = ⊥
IsHalfFault slot honest before now read faults.Spent = ⊥
IsHalfFault slot honest before now read faults.Deep = ⊥
IsHalfFault slot honest before now read (faults.Full need free) = ⊥
IsHalfFault slot honest before now read faults.Failed = ⊥
IsHalfFault slot honest before now read faults.Memory = Unit {0}
