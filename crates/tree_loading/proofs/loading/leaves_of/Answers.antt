use Rattle.std.proofs.Common.{◌≡◌, ◌∙◌, [], sym, ap, subst, append-nil, rules}
use Rattle.std.specs.Prelude.{IfOk}
use Rattle.std.proofs.lemmas.List.{map-id}
use Rattle.std.proofs.lemmas.Iterator.Adapters.{YieldsList-from_vec}
use Rattle.std.proofs.lemmas.Iterator.Consumers.{YieldsList-end}
use Rattle.tree_nodes.specs.Tree.{Others}
use Rattle.tree_nodes.specs.NodeView.{others_view}
use Rattle.tree_loading.specs.Filled.{leaves_of}
use Rattle.tree_loading.proofs.loading.leaves_of.Goals as goal

pub returns : goal.returns
returns c =
    let all = YieldsList-from_vec {s = c.into_iter-pair-iterator.result} c.args.pairs.items (search rules) (search rules) in
    let end = YieldsList-end all c.loop-pair.yielded _ c.loop-pair.yielded_by _ c.next.new.self c.in-None.is c.next.ensures.steps in
    let made = c.loop-pair.invariant [] ∙ ap leaves_of (append-nil c.loop-pair.yielded ∙ sym (map-id c.loop-pair.yielded) ∙ end.0) in
    subst (λ (row : Others). IfOk c.finish.result (λ x. others_view x.items ≡ row)) made c.finish.ensures
