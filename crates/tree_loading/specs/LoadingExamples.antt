-- Worked examples: trees of no pairs, of one leaf and of two, and branches over a level.
use Rattle.std.specs.Prelude.{◌≡◌, ℕ, List, [], ◌∷◌, Some, codes, replicate}
use Rattle.page_store.specs.Pages.{Pair}
use Rattle.tree_nodes.specs.Tree.{Others, leaf, branch, none, other}
use Rattle.tree_nodes.specs.Steps.{no_tree}
use Rattle.tree_loading.specs.Filled.{leaves_of, branches_of, filled}

abbrev pub pair : List ℕ → List ℕ → Pair
pair key value = (key, value)

-- keys a, b and d
abbrev pub three : List Pair
three = pair (codes "a") (codes "1") ∷ pair (codes "b") (codes "2") ∷ pair (codes "d") [] ∷ []

-- a pair that takes 1,029 bytes in a page, which has room for three of them
abbrev pub long : ℕ → Pair
long key = pair (key ∷ []) (replicate 1024 0)

-- a node under a key of 300 bytes, of which a branch has fourteen
abbrev pub node : ℕ → Others → Others
node key others = other (key ∷ replicate 299 0) (leaf []) others

-- fourteen nodes before others
abbrev pub fourteen : Others → Others
fourteen others = node 1 (node 2 (node 3 (node 4 (node 5 (node 6 (node 7 (node 8 (node 9 (node 10 (node 11 (node 12 (node 13 (node 14 others)))))))))))))

-- the children of a branch after its first, of fourteen
abbrev pub thirteen : Others
thirteen = node 2 (node 3 (node 4 (node 5 (node 6 (node 7 (node 8 (node 9 (node 10 (node 11 (node 12 (node 13 (node 14 none))))))))))))

pub record LoadingExamples : Type 0 where
  pub no_pairs : filled [] ≡ no_tree
  pub one_leaf : filled three ≡ record { root = Some (leaf three); height = 1 }
  pub full_leaf : leaves_of (long 1 ∷ long 2 ∷ long 3 ∷ []) ≡ other (1 ∷ []) (leaf (long 1 ∷ long 2 ∷ long 3 ∷ [])) none
  pub two_leaves : filled (long 1 ∷ long 2 ∷ long 3 ∷ long 4 ∷ []) ≡
      record { root = Some (branch (leaf (long 1 ∷ long 2 ∷ long 3 ∷ [])) (other (4 ∷ []) (leaf (long 4 ∷ [])) none)); height = 2 }
  pub full_branch : branches_of (fourteen none) ≡ other (1 ∷ replicate 299 0) (branch (leaf []) thirteen) none
  pub two_branches : branches_of (fourteen (node 15 none)) ≡ other (1 ∷ replicate 299 0) (branch (leaf []) thirteen) (other (15 ∷ replicate 299 0) (branch (leaf []) none) none)
