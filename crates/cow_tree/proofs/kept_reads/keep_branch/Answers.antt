use Rattle.std.proofs.Common.{ap, ◌∙◌, List, length}
use Rattle.page_store.specs.Pages.{Child, child_at}
use Rattle.page_store.specs.Content.{place_in}
use Rattle.tree_nodes.specs.PageViews.{bounds_of}
use Rattle.cow_tree.proofs.LeafBytes.{entries_behind}
use Rattle.cow_tree.proofs.PlacesFound.{has_children}
use Rattle.cow_tree.proofs.kept_reads.keep_branch.Goals as goal

pub returns-in-Ok : goal.returns-in-Ok
returns-in-Ok c = λ view are is.
    c.keep.ensures view are is (has_children c.args.level c.args.bytes.now c.count_children.result c.requires
    (entries_behind child_at (place_in (bounds_of c.args.bounds) c.args.level c.args.page) c.args.bytes.now c.count_children.result c.in-Ok.ensures.head (c.count_children.ensures ∙ ap (λ (l : List Child). length l) c.in-Ok.ensures.children)))
