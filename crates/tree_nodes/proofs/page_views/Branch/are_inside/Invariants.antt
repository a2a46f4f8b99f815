use Rattle.std.proofs.Common.{◌≡◌}
use Rattle.std.specs.List.{list_all}
use Rattle.page_store.specs.Pages.{is_inside}
use Rattle.tree_nodes.specs.PageViews.{children_in}
use Rattle.tree_nodes.proofs.page_views.Branch.are_inside.Given as goal

abbrev pub invariant-loop-page : goal.invariant-loop-page
invariant-loop-page l = list_all (is_inside l.pages) (children_in l.left.count l.left.entries.now) ≡ list_all (is_inside l.pages) (children_in l.self.count l.self.entries.now)

abbrev pub decreases-loop-page : goal.decreases-loop-page
decreases-loop-page l = l.left.count
