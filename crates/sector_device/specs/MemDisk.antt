-- What the parts of a disk in memory keep together.
use Rattle.std.specs.Prelude.{◌≡◌, ◌≤◌, ℕ, List, length, take, drop}
use Rattle.sector_device.specs.AfterStop.{done}
use Rattle.sector_device.specs.Calls.{fresh, replay, writes_of}
use Rattle.sector_device.specs.declared.call.Call.{Call}

-- `synced` calls came up to the last sync: they make the base, and the writes after them are the listed ones.
pub record IsReadBack (first : List (List ℕ)) (calls : List Call) (synced : ℕ) (shown : List (List ℕ)) : Type 0 where
  pub within : synced ≤ length calls
  pub base : done (writes_of (take synced calls)) first ≡ (replay (fresh first) calls).base
  pub writes : writes_of (drop synced calls) ≡ (replay (fresh first) calls).writes
  pub view : shown ≡ (replay (fresh first) calls).view
