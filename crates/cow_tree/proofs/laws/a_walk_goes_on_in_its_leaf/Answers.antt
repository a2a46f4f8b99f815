use Rattle.std.proofs.Common.{map, [], None}
use Rattle.std.specs.List.{list_all}
use Rattle.page_store.specs.Keys.{rises}
use Rattle.page_store.specs.Pages.{key_of}
use Rattle.page_store.specs.Batch.{is_pair}
use Rattle.page_store.specs.Content.{place_in}
use Rattle.tree_nodes.proofs.KeyOrder.{both_true}
use Rattle.cow_tree.proofs.RunsTell.{run_goes_on}
use Rattle.cow_tree.proofs.TreesAreMaps.{leaf_map}
use Rattle.cow_tree.proofs.laws.a_walk_goes_on_in_its_leaf.Goals as goal

pub returns : goal.returns
returns c = λ bytes bounds tree leaf key found is e some.
    let rising = both_true (rises (map key_of leaf)) (list_all is_pair leaf) (leaf_map (place_in bounds 0 is.page) [] None (bytes is.page) leaf is.pairs_are) in
    run_goes_on leaf key found rising.0 e some
