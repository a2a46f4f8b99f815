-- The page at the end of a key's path, replaced by what its bytes say.
use Rattle.std.specs.Prelude.{ℕ, zero, suc, List, [], ◌∷◌, Option, Some, None, if◌then◌else◌}
use Rattle.page_store.specs.Reading.{◌>>=◌}
use Rattle.page_store.specs.Pages.{Child, leaf_of, branch_of}
use Rattle.page_store.specs.Content.{Bounds, place_in}
use Rattle.tree_nodes.specs.Tree.{Tree, Others, page, leaf, branch, none, other, goes_first}

abbrev pub others_named : List Child → Others
others_named [] = none
others_named (child ∷ children) = other child.key (page child.page) (others_named children)

-- a branch whose children are the pages that it names
abbrev pub branch_named : List Child → Option Tree
branch_named [] = None
branch_named (child ∷ children) = Some (branch (page child.page) (others_named children))

-- what the bytes of a page of a level say, where they are that page
abbrev pub tree_in : Bounds → ℕ → ℕ → List ℕ → Option Tree
tree_in bounds zero n bytes = do
  pairs ← leaf_of (place_in bounds 0 n) [] None bytes
  Some (leaf pairs)
tree_in bounds (suc level) n bytes = do
  children ← branch_of (place_in bounds (suc level) n) [] None bytes
  branch_named children

-- how many branches a key's path goes through
abbrev mutual
  pub path_depth : List ℕ → Tree → ℕ
  path_depth key (page n) = 0
  path_depth key (leaf pairs) = 0
  path_depth key (branch tree others) = suc (if goes_first key others then path_depth key tree else row_depth key others)

  pub row_depth : List ℕ → Others → ℕ
  row_depth key none = 0
  row_depth key (other first tree others) = if goes_first key others then path_depth key tree else row_depth key others

-- the tree with another at the end of a key's path, where a page is
abbrev mutual
  pub supplied : List ℕ → Tree → Tree → Tree
  supplied key t (page n) = t
  supplied key t (leaf pairs) = leaf pairs
  supplied key t (branch tree others) = if goes_first key others then branch (supplied key t tree) others else branch tree (row_supplied key t others)

  pub row_supplied : List ℕ → Tree → Others → Others
  row_supplied key t none = none
  row_supplied key t (other first tree others) = if goes_first key others then other first (supplied key t tree) others else other first tree (row_supplied key t others)

-- 1 at one depth, 0 at the others
abbrev pub one_at : ℕ → ℕ → ℕ
one_at zero zero = 1
one_at zero (suc n) = 0
one_at (suc m) zero = 0
one_at (suc m) (suc n) = one_at m n
