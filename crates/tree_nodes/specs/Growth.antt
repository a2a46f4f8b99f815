-- How many nodes are owned, and how many levels come with edits.
use Rattle.std.specs.Prelude.{◌≡◌, ◌⊎◌, ℕ, zero, suc, ◌+◌, ◌-◌, ◌*◌, ◌^◌, ◌≤◌, max, Option, Some, None}
use Rattle.tree_nodes.specs.Tree.{Tree, Others, page, leaf, branch, none, other, owned_nodes, other_count}
use Rattle.tree_nodes.specs.Steps.{RootState}

-- how many nodes of a tree are owned, where there is a tree
abbrev pub owned_under : Option Tree → ℕ
owned_under None = 0
owned_under (Some tree) = owned_nodes tree

-- So many levels of a tree, from its root down, are branches.
abbrev mutual
  pub AreBranches : ℕ → Tree → Type 0
  AreBranches zero tree = Unit {0}
  AreBranches (suc n) (page m) = ⊥
  AreBranches (suc n) (leaf pairs) = ⊥
  AreBranches (suc n) (branch tree others) = AreBranches n tree × AreRowBranches n others

  pub AreRowBranches : ℕ → Others → Type 0
  AreRowBranches n none = Unit {0}
  AreRowBranches n (other key tree others) = AreBranches n tree × AreRowBranches n others

-- How many edits stand in so many levels, from the root down: a split leaves each half at least seven children, so a branch took an edit for each child beyond them on the lowest of these levels, and on each other
-- one seven times as many as on the level below.
abbrev mutual
  pub edits_in : ℕ → Tree → ℕ
  edits_in zero tree = 0
  edits_in (suc n) (page m) = 0
  edits_in (suc n) (leaf pairs) = 0
  edits_in (suc n) (branch tree others) = 7 ^ n * (other_count others - 6) + (edits_in n tree + row_edits_in n others)

  pub row_edits_in : ℕ → Others → ℕ
  row_edits_in n none = 0
  row_edits_in n (other key tree others) = edits_in n tree + row_edits_in n others

-- how many edits made so many levels, beside those that stand in them
abbrev pub edits_for_levels : ℕ → ℕ
edits_for_levels zero = 0
edits_for_levels (suc n) = 7 ^ n + edits_for_levels n

-- A tree that had so many levels, one at least, after so many edits: they made its new levels.
abbrev pub HasGrown : ℕ → ℕ → Option Tree → ℕ → Type 0
HasGrown from edits None height = ⊥
HasGrown from edits (Some tree) height = (n : ℕ) × (height ≡ n + max 1 from) × AreBranches n tree × (edits_for_levels n + edits_in n tree ≤ edits)

-- it has no level more, or so many as these edits may have made
abbrev pub MayHaveGrown : ℕ → ℕ → RootState → Type 0
MayHaveGrown from edits state = (state.height ≤ max 1 from) ⊎ HasGrown from edits state.root state.height
