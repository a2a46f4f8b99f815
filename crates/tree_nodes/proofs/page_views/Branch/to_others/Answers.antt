use Rattle.std.proofs.Common.{List, ℕ, sym, ap, ◌∙◌}
use Rattle.page_store.specs.Pages.{Child}
use Rattle.tree_nodes.specs.Tree.{page, other}
use Rattle.tree_nodes.specs.NodeView.{others_view}
use Rattle.tree_nodes.specs.PageViews.{children_in}
use Rattle.tree_nodes.specs.Supply.{others_named}
use Rattle.tree_nodes.proofs.NodesAsTrees.{Children}
use Rattle.tree_nodes.proofs.NodesRead.{joined_others, joined_none, one_more}
use Rattle.tree_nodes.proofs.page_views.Branch.to_others.Goals as goal

pub loop-key-preserved : goal.loop-key-preserved
loop-key-preserved c =
    let before = c.loop-key.children.items in
    let more = others_named (children_in c.in-Some.others.count c.in-Some.others.entries.now) in
    ap (λ (l : Children). joined_others (others_view l) more) c.in_ok-push.ensures.items
    ∙ one_more before c.in_ok-from_slice.field-0 c.in-Some.page more
    ∙ ap (λ (k : List ℕ). joined_others (others_view before) (other k (page c.in-Some.page) more)) c.in_ok-from_slice.ensures
    ∙ ap (λ (l : List Child). joined_others (others_view before) (others_named l)) (sym c.in-Some.ensures.children)
    ∙ c.loop-key.invariant

pub returns : goal.returns
returns c =
    sym (joined_none (others_view c.loop-key.children.items))
    ∙ ap (λ (l : List Child). joined_others (others_view c.loop-key.children.items) (others_named l)) (sym c.in_default.ensures.children)
    ∙ c.loop-key.invariant
