-- What a supply comes to.
use Rattle.std.specs.Prelude.{◌≡◌, ℕ, ◌+◌, ◌-◌, List, Option, Some}
use Rattle.tree_nodes.specs.Tree.{Tree, OldPages, pairs_of, owned_at}
use Rattle.tree_nodes.specs.Supply.{path_depth, supplied, one_at}
use Rattle.tree_nodes.specs.Valid.{IsValid}

-- The page at the end of a key's path is read as a node of its level; with that node the tree is as valid, has the same pairs, and one owned node more, at the page's depth.
pub record Supplies (old : OldPages) (level : ℕ) (key : List ℕ) (n : ℕ) (tree : Tree) (low : List ℕ) (high : Option (List ℕ)) : Type 0 where
  pub read : Tree
  pub opened : old.opened (level - path_depth key tree) n ≡ Some read
  pub valid : IsValid old level (supplied key read tree) low high
  pub pairs : pairs_of old (supplied key read tree) ≡ pairs_of old tree
  pub owned : (depth : ℕ) → owned_at depth (supplied key read tree) ≡ owned_at depth tree + one_at depth (path_depth key tree)
