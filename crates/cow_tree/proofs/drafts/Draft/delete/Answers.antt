use Rattle.std.proofs.Common.{ℕ, Option, ap, ◌∙◌}
use Rattle.tree_nodes.specs.Steps.{where_owned, delete_under}
use Rattle.tree_nodes.specs.OwnedTrees.{state_of}
use Rattle.cow_tree.proofs.DraftSteps.{no_pages}
use Rattle.cow_tree.proofs.drafts.Draft.delete.Goals as goal

pub returns-clause-tree : goal.returns-clause-tree
returns-clause-tree c =
    let tree = state_of c.args.self.tree in
    c.delete.ensures.tree no_pages ∙ ap (λ (o : Option ℕ). where_owned o (delete_under c.args.key.now tree.root tree.height) tree) c.requires.owned
