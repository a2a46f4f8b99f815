-- How many calls a tree makes of its device.
use Rattle.std.specs.Prelude.{◌≡◌, ◌≤◌, ◌+◌, ◌*◌, ℕ}
use Rattle.sector_device.specs.Device.{State}
use Rattle.page_alloc.specs.LedgerState.{LedgerState, free_count}

-- Of each page that is newly held at most eight sectors were read, each once, and nothing was written or made sure of.
pub record ReadsEachOnce (old new : State) (before after : LedgerState) : Type 0 where
  pub rises : old.made.reads ≤ new.made.reads
  pub reads : new.made.reads + 8 * free_count after ≤ old.made.reads + 8 * free_count before
  pub writes : new.made.writes ≡ old.made.writes
  pub syncs : new.made.syncs ≡ old.made.syncs

-- So many new pages and the page of a root were written, and two syncs made sure of them.
pub record WritesPages (n : ℕ) (old new : State) : Type 0 where
  pub writes : new.made.writes ≡ old.made.writes + (8 * n + 8)
  pub syncs : new.made.syncs ≡ old.made.syncs + 2
