use Rattle.std.proofs.Common.{◌≡◌, List, ◌++◌}
use Rattle.page_store.specs.Pages.{Pair}
use Rattle.tree_loading.specs.Filled.{leaves_of}
use Rattle.tree_loading.specs.Rows.{leaves_with}
use Rattle.tree_loading.proofs.loading.leaves_of.Given as goal

abbrev pub invariant-loop-pair : goal.invariant-loop-pair
invariant-loop-pair l = (pairs : List Pair) → leaves_with l.row pairs ≡ leaves_of (l.yielded ++ pairs)
