use Rattle.std.proofs.Common.{◌≡◌, ◌-◌}
use Rattle.std.specs.Prelude.{option_copied}
use Rattle.page_store.specs.Pages.{pair_at, entries_at}
use Rattle.tree_nodes.specs.LeafForm.{after_leaf}
use Rattle.tree_nodes.proofs.LeafWalks.{left_leaf}
use Rattle.tree_nodes.proofs.leaf_form.after_between.Given as goal

abbrev pub invariant-loop : goal.invariant-loop
invariant-loop l = left_leaf l.last (option_copied l.high) (entries_at pair_at (l.count - l.counter) l.rest) ≡ after_leaf l.low (option_copied l.high) (entries_at pair_at l.count l.bytes)
