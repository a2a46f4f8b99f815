use Rattle.std.proofs.Common.{ap, ◌∙◌, List}
use Rattle.std.specs.List.{slice_get}
use Rattle.page_store.specs.Pages.{Pair}
use Rattle.tree_nodes.specs.NodeView.{others_view}
use Rattle.tree_loading.proofs.RowsMade.{no_leaf_added, leaf_added}
use Rattle.tree_loading.proofs.leaf_row.put_leaf.Goals as goal

pub returns-in_default : goal.returns-in_default
returns-in_default c = no_leaf_added (others_view c.args.row.now.items) c.args.pairs.items (c.in_default.ensures.value ∙ ap (λ (l : List Pair). slice_get l 0) c.deref.ensures.value)

pub returns : goal.returns
returns c =
    leaf_added c.args.row.now.items c.push.new.self.items c.args.pairs c.in_ok-key.key c.in-Some.first.now c.in_ok-push.ensures.items (c.in_ok-key.ensures ∙ c.key.ensures)
    (c.in-Some.ensures.value ∙ ap (λ (l : List Pair). slice_get l 0) c.deref.ensures.value)
