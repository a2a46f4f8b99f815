-- What a switch of the root does to an image.
use Rattle.std.specs.Prelude.{◌≡◌, ◌⊎◌, ℕ, zero, suc, ◌+◌, ◌*◌, ◌<◌, ◌≤◌, List, [], ◌++◌, length, drop, Some, None}
use Rattle.page_store.specs.Sectors.{Image, sector}
use Rattle.page_store.specs.Roots.{seal_of, root_at, slot_of}
use Rattle.page_store.specs.declared.slot.Slot.{Slot}
use Rattle.page_store.specs.Steps.{chunk}

-- the record's bytes in so many sectors of a slot's page, from one on
abbrev pub record_in : List ℕ → ℕ → ℕ → List ℕ
record_in bytes k zero = []
record_in bytes k (suc n) = drop 24 (chunk bytes k) ++ record_in bytes (suc k) n

-- the bytes of a slot's page on a device of so many sectors
pub record IsSlotPage (sectors : ℕ) (slot : Slot) (bytes : List ℕ) : Type 0 where
  pub seals : (k : ℕ) → k < 8 → seal_of (8 * slot.number + k) (chunk bytes k) ≡ Some slot.seal
  pub root : root_at sectors (record_in bytes 0 8) ≡ Some slot.root

-- the seal is above each that stands in a slot's sectors, valid or not
pub record IsAbove (seal number : ℕ) (image : Image) : Type 0 where
  pub each : (k old : ℕ) → k < 8 → seal_of (8 * number + k) (sector image (8 * number + k)) ≡ Some old → old < seal

-- the slot as before, not valid, or the new one; each of its sectors as before or with the new seal; all else as before
pub record IsSwitching (slot : Slot) (a c : Image) : Type 0 where
  pub size : length c ≡ length a
  pub others : (n : ℕ) → (n < 8 * slot.number) ⊎ (8 * slot.number + 8 ≤ n) → sector c n ≡ sector a n
  pub here : (slot_of c slot.number ≡ slot_of a slot.number) ⊎ ((slot_of c slot.number ≡ None) ⊎ (slot_of c slot.number ≡ Some slot))
  pub sealed : (k : ℕ) → k < 8 → (sector c (8 * slot.number + k) ≡ sector a (8 * slot.number + k)) ⊎ (seal_of (8 * slot.number + k) (sector c (8 * slot.number + k)) ≡ Some slot.seal)

-- the slot is the new one; all else as before
pub record IsSwitched (slot : Slot) (a c : Image) : Type 0 where
  pub size : length c ≡ length a
  pub others : (n : ℕ) → (n < 8 * slot.number) ⊎ (8 * slot.number + 8 ≤ n) → sector c n ≡ sector a n
  pub here : slot_of c slot.number ≡ Some slot
