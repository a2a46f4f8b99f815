-- A key deleted from a tree. Nothing is left of a page without entries.
use Rattle.std.specs.Prelude.{ℕ, zero, suc, List, [], ◌∷◌, Option, Some, None, if◌then◌else◌}
use Rattle.std.specs.Map.{remove_entry}
use Rattle.std.specs.BTreeMap.{is_at}
use Rattle.common_types.specs.ByteOrder.{byte_cmp}
use Rattle.page_store.specs.Pages.{Pair}
use Rattle.tree_nodes.specs.Tree.{Tree, Others, page, leaf, branch, none, other, goes_first}

abbrev pub leaf_left : List Pair → Option Tree
leaf_left [] = None
leaf_left (pair ∷ pairs) = Some (leaf (pair ∷ pairs))

-- a branch of what is left of its first child, and the others
abbrev pub first_left : Option Tree → Others → Option Tree
first_left (Some tree) others = Some (branch tree others)
first_left None none = None
first_left None (other key tree others) = Some (branch tree others)

abbrev pub other_left : List ℕ → Option Tree → Others → Others
other_left key (Some tree) others = other key tree others
other_left key None others = others

abbrev mutual
  pub delete : List ℕ → Tree → Option Tree
  delete key (page n) = Some (page n)
  delete key (leaf pairs) = leaf_left (remove_entry (is_at (byte_cmp key)) pairs)
  delete key (branch tree others) = if goes_first key others then first_left (delete key tree) others else Some (branch tree (delete_row key others))

  pub delete_row : List ℕ → Others → Others
  delete_row key none = none
  delete_row key (other first tree others) = if goes_first key others then other_left first (delete key tree) others else other first tree (delete_row key others)

-- a row with what is left of one of its children
abbrev pub others_less : Others → ℕ → Option Tree → Others
others_less none at t = none
others_less (other key tree others) zero t = other_left key t others
others_less (other key tree others) (suc at) t = other key tree (others_less others at t)
