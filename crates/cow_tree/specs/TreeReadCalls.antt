-- What look-ups of a keeper of a tree do beyond those of every keeper.
use Rattle.std.specs.Prelude.{◌≡◌, ◌<◌, ℕ, List, [], Option, Result, IsTrue, IfOk, OnOk}
use Rattle.page_store.specs.ReadCalls.{IsPairAfter}
use Rattle.page_store.specs.declared.fault.KeeperFault.{KeeperFault}
use Rattle.cow_tree.specs.KeptLeaves.{has_next}
use Rattle.cow_tree.specs.TreeSeen.{kept_by}
use Rattle.cow_tree.specs.declared.tree_keeper.TreeKeeper.{TreeKeeper}

-- `from_kept`: the pair stands in the leaf that is kept afterwards. `some`: where the tree has a level that leaf has a pair, so that a walk doesn't end because a page gives none. `unread`: where the leaf that was kept tells the pair the device isn't asked.
pub record WalksByLeaf {D : Type 0} {dict : _} (old new : TreeKeeper D dict) (after key value : List ℕ) (result : Result (Option (ℕ × ℕ)) KeeperFault) : Type 0 where
  pub from_kept : IfOk result (λ found. IsPairAfter after key value found (kept_by new))
  pub some : OnOk result (0 < new.slot.root.height → kept_by new ≡ [] → ⊥)
  pub unread : IsTrue (has_next (kept_by old) after) → (new.device ≡ old.device) × (kept_by new ≡ kept_by old)
