use Rattle.std.proofs.Common.{◌≡◌, ◌∷◌, []}
use Rattle.page_store.specs.Heads.{seen_child}
use Rattle.tree_nodes.specs.PageViews.{children_in, page_on_path}
use Rattle.tree_nodes.proofs.page_views.Branch.page_of.Given as goal

abbrev pub invariant-loop-next : goal.invariant-loop-next
invariant-loop-next l = page_on_path l.key (seen_child [] l.page ∷ children_in l.left.count l.left.entries.now) ≡ page_on_path l.key (children_in l.self.count l.self.entries.now)

abbrev pub decreases-loop-next : goal.decreases-loop-next
decreases-loop-next l = l.left.count
