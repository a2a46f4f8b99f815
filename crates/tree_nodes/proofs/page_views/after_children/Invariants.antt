use Rattle.std.proofs.Common.{◌≡◌, ◌-◌}
use Rattle.page_store.specs.Pages.{child_at, entries_at}
use Rattle.tree_nodes.specs.PageViews.{after_entries}
use Rattle.tree_nodes.proofs.page_views.after_children.Given as goal

abbrev pub invariant-loop : goal.invariant-loop
invariant-loop l = after_entries (entries_at child_at (l.count - l.counter) l.rest) ≡ after_entries (entries_at child_at l.count l.bytes)
