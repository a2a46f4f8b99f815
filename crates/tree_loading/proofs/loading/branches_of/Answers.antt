use Rattle.std.proofs.Common.{◌≡◌, ◌∙◌, sym, ap, subst, rules}
use Rattle.std.specs.Prelude.{IfOk}
use Rattle.std.proofs.lemmas.List.{map-id}
use Rattle.std.proofs.lemmas.Iterator.Adapters.{YieldsList-from_vec}
use Rattle.std.proofs.lemmas.Iterator.Consumers.{YieldsList-end}
use Rattle.tree_nodes.specs.Tree.{Others, none, other}
use Rattle.tree_nodes.specs.NodeView.{tree_of, others_view}
use Rattle.tree_nodes.proofs.NodesAsTrees.{Children}
use Rattle.tree_loading.specs.Filled.{branches_of}
use Rattle.tree_loading.proofs.RowsMade.{joined_none, node_comes}
use Rattle.tree_loading.proofs.loading.branches_of.Goals as goal

pub loop-key-preserved : goal.loop-key-preserved
loop-key-preserved c = λ others.
    c.in_ok-add.ensures others ∙ c.loop-key.invariant (other c.in-Some.key (tree_of c.in-Some.node) others) ∙ ap branches_of (node_comes c.loop-key.yielded c.in-Some.key c.in-Some.node others)

pub returns : goal.returns
returns c =
    let all = YieldsList-from_vec {s = c.into_iter-key-iterator.result} c.args.level.items (search rules) (search rules) in
    let end = YieldsList-end all c.loop-key.yielded _ c.loop-key.yielded_by _ c.next.new.self c.in-None.is c.next.ensures.steps in
    let made = c.loop-key.invariant none ∙ ap branches_of (joined_none (others_view c.loop-key.yielded) ∙ ap (λ (l : Children). others_view l) (sym (map-id c.loop-key.yielded) ∙ end.0)) in
    subst (λ (row : Others). IfOk c.finish.result (λ x. others_view x.items ≡ row)) made c.finish.ensures
