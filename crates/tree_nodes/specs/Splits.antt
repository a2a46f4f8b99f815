-- Where the entries of a page are parted that don't fit it. It is left open: no contract says more of it than the law `a_split_fits_two_pages`. The same entries are always parted at the same place, since the pages that a
-- batch needs are one number.
use Rattle.std.specs.Prelude.{ℕ, suc, ◌+◌, ◌-◌, List, length, nat_le, if◌then◌else◌}
use Rattle.page_store.specs.Pages.{Pair}
use Rattle.page_store.specs.Encoding.{fitting}
use Rattle.tree_nodes.specs.Tree.{Others, none, other}
use Rattle.tree_nodes.specs.declared.splitting.TheConstants.{FRONT_OF_LEAF, FRONT_OF_BRANCH}

-- how many of these children, from the first on, fit into so many bytes
abbrev pub fitting_others : ℕ → Others → ℕ
fitting_others room none = 0
fitting_others room (other key tree others) = if nat_le (6 + length key) room then suc (fitting_others (room - (6 + length key)) others) else 0

-- how many of these pairs the first of two leaves has
unfoldable pub leaf_place : List Pair → ℕ
leaf_place pairs = fitting FRONT_OF_LEAF pairs

-- how many of these children the first of two branches has, beside its first one
unfoldable pub branch_place : Others → ℕ
branch_place others = fitting_others FRONT_OF_BRANCH others
