-- What a compaction of a key-value store leaves: the same pairs, written anew.
use Rattle.std.specs.Prelude.{◌≡◌, ◌+◌, ℕ, true, IsTrue}
use Rattle.page_store.specs.StoreState.{StoreState, OnlyPages, IsCommitFault, numbers_out}
use Rattle.page_store.specs.declared.fault.KeeperFault.{KeeperFault}
use Rattle.page_store.specs.declared.fault.KeeperFault.TheVariants as faults

-- The same pairs and the same banner stand in the next generation, and as many are counted.
pub record IsCompacted (old new : StoreState) : Type 0 where
  pub pairs : IsTrue old.honest → new.pairs ≡ old.pairs
  pub banner : new.banner ≡ old.banner
  pub usable : new.usable ≡ true
  pub generation : new.generation ≡ old.top + 1
  pub top : new.top ≡ old.top + 1
  pub keys : new.keys ≡ old.keys
  pub out : numbers_out new ≡ numbers_out old
  pub pins : IsTrue old.honest → new.pins ≡ old.pins

-- A compaction may need as much after a call as before it.
pub record CompactsTheSame (old new : ℕ → Type 0) : Type 0 where
  pub after : (need : ℕ) → old need → new need
  pub before : (need : ℕ) → new need → old need

-- When a fault may come of a compaction, and what stands then: as of a commit, but there are never too many levels.
abbrev pub IsCompactFault : StoreState → StoreState → (ℕ → Type 0) → KeeperFault → Type 0
IsCompactFault old new may_need faults.Deep = ⊥
IsCompactFault old new may_need other = IsCommitFault old new 0 (OnlyPages may_need) other
