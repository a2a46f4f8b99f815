use Rattle.std.proofs.Common.{ap, ◌∙◌, List, length}
use Rattle.page_store.specs.Pages.{Pair, pair_at}
use Rattle.page_store.specs.Content.{place_in}
use Rattle.tree_nodes.specs.PageViews.{bounds_of}
use Rattle.cow_tree.proofs.LeafBytes.{entries_behind}
use Rattle.cow_tree.proofs.kept_reads.keep_leaf.Goals as goal

pub returns-in-Ok : goal.returns-in-Ok
returns-in-Ok c = λ view are is.
    c.keep.ensures view are is (entries_behind pair_at (place_in (bounds_of c.args.bounds) 0 c.args.page) c.args.bytes.now c.count_pairs.result c.in-Ok.ensures.head (c.count_pairs.ensures ∙ ap (λ (l : List Pair). length l) c.in-Ok.ensures.pairs))
