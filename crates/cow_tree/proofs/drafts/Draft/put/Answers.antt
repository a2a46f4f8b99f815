use Rattle.std.proofs.Common.{◌≡◌, ◌<◌, ℕ, Option, ap, subst, ◌∙◌}
use Rattle.std.proofs.lemmas.Result.{err_from_is_err_and}
use Rattle.page_store.specs.StoreState.{most_levels}
use Rattle.tree_nodes.specs.Steps.{RootState, where_owned, put_under}
use Rattle.tree_nodes.specs.OwnedTrees.{state_of}
use Rattle.cow_tree.proofs.DraftSteps.{no_pages}
use Rattle.cow_tree.proofs.drafts.Draft.put.Goals as goal

pub returns-in_err-test_depth-clause-fault : goal.returns-in_err-test_depth-clause-fault
returns-in_err-test_depth-clause-fault c =
    let tree = state_of c.args.self.tree in
    let made : state_of c.in_ok-tree.tree ≡ put_under c.args.key.now c.args.value.now tree.root tree.height =
    c.in_ok-tree.ensures.tree no_pages ∙ ap (λ (o : Option ℕ). where_owned o (put_under c.args.key.now c.args.value.now tree.root tree.height) tree) c.requires.owned in
    let deep = c.in_err-test_depth.ensures.deep in
    let e = err_from_is_err_and c.from_residual-in_err-test_depth.result c.from_residual-in_err-test_depth.ensures.1 in
    rw (e.1, e.2, deep.0) (subst (λ (s : RootState). most_levels < s.height) made deep.1)

pub returns-clause-tree : goal.returns-clause-tree
returns-clause-tree c =
    let tree = state_of c.args.self.tree in
    c.in_ok-tree.ensures.tree no_pages ∙ ap (λ (o : Option ℕ). where_owned o (put_under c.args.key.now c.args.value.now tree.root tree.height) tree) c.requires.owned
