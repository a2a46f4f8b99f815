-- Whether a tree has a key.
use Rattle.std.specs.Prelude.{ℕ, Bool, false, List, Option, Some, None, is_some, if◌then◌else◌}
use Rattle.page_store.specs.Batch.{value_at}
use Rattle.tree_nodes.specs.Tree.{Tree, Others, page, leaf, branch, none, other, goes_first}

-- whether a key has a value, by the leaf that its path ends at; no where the nodes on the path aren't all owned
abbrev mutual
  pub has_key : List ℕ → Tree → Bool
  has_key key (page n) = false
  has_key key (leaf pairs) = is_some (value_at pairs key)
  has_key key (branch tree others) = if goes_first key others then has_key key tree else row_has_key key others

  pub row_has_key : List ℕ → Others → Bool
  row_has_key key none = false
  row_has_key key (other first tree others) = if goes_first key others then has_key key tree else row_has_key key others

abbrev pub has_under : List ℕ → Option Tree → Bool
has_under key None = false
has_under key (Some tree) = has_key key tree
