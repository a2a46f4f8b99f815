-- The disk model of this project: what a sync has made sure of, what was written since, what reads give, and what a crash may leave.
use Rattle.std.specs.Prelude.{◌≡◌, ◌⊎◌, ℕ, List, [], ◌∷◌, ◌++◌, length, Some, slice_get, slice_set}

-- the bytes of each sector
abbrev pub Sectors : Type 0
Sectors = List (List ℕ)

-- sectors with what was written to them, the oldest first
abbrev pub Writes : Type 0
Writes = List (ℕ × List ℕ)

-- `base`: the sectors at the last sync that succeeded. `writes`: those listed since then. `view`: what reads give.
pub record Disk : Type 0 where
  pub base : List (List ℕ)
  pub writes : List (ℕ × List ℕ)
  pub view : List (List ℕ)

-- one of these writes put the bytes into the sector
abbrev pub WasWritten : ℕ → List ℕ → List (ℕ × List ℕ) → Type 0
WasWritten n bytes [] = ⊥
WasWritten n bytes (w ∷ writes) = ((w.0 ≡ n) × (w.1 ≡ bytes)) ⊎ WasWritten n bytes writes

-- What a crash may leave: each sector is that of the base or of a listed write to it, each by itself.
pub record IsImage (disk : Disk) (image : List (List ℕ)) : Type 0 where
  pub size : length image ≡ length disk.base
  pub each : (n : ℕ) (bytes : List ℕ) → slice_get image n ≡ Some bytes → (slice_get disk.base n ≡ Some bytes) ⊎ WasWritten n bytes disk.writes

-- after a write that is listed and shown
abbrev pub written : ℕ → List ℕ → Disk → Disk
written n bytes d = record { base = d.base; writes = d.writes ++ (n, bytes) ∷ []; view = slice_set d.view n bytes }

-- after a write that is listed and not shown
abbrev pub listed : ℕ → List ℕ → Disk → Disk
listed n bytes d = record { base = d.base; writes = d.writes ++ (n, bytes) ∷ []; view = d.view }

-- after a sync that succeeded
abbrev pub synced : Disk → Disk
synced d = record { base = d.view; writes = []; view = d.view }

-- A write that failed is listed or not, and is shown only where it is listed.
abbrev pub WriteFailed : ℕ → List ℕ → Disk → Disk → Type 0
WriteFailed n bytes old new = (new ≡ old) ⊎ ((new ≡ listed n bytes old) ⊎ (new ≡ written n bytes old))

-- After a sync that failed the list stands, and reads give any image.
pub record SyncFailed (old new : Disk) : Type 0 where
  pub base : new.base ≡ old.base
  pub writes : new.writes ≡ old.writes
  pub view : IsImage new new.view
