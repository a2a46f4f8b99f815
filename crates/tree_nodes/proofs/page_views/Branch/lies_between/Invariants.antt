use Rattle.std.proofs.Common.{◌≡◌, map, drop}
use Rattle.std.specs.Prelude.{option_copied}
use Rattle.std.specs.List.{list_all}
use Rattle.page_store.specs.Keys.{is_between}
use Rattle.page_store.specs.Pages.{child_key}
use Rattle.tree_nodes.specs.PageViews.{children_in}
use Rattle.tree_nodes.proofs.page_views.Branch.lies_between.Given as goal

abbrev pub invariant-loop-key : goal.invariant-loop-key
invariant-loop-key l = list_all (is_between l.low (option_copied l.high)) (map child_key (children_in l.left.count l.left.entries.now)) ≡ list_all (is_between l.low (option_copied l.high)) (drop 1 (map child_key (children_in l.self.count l.self.entries.now)))

abbrev pub decreases-loop-key : goal.decreases-loop-key
decreases-loop-key l = l.left.count
