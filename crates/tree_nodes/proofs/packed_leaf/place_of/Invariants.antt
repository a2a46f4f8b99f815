use Rattle.std.proofs.Common.{◌≡◌, ◌+◌, ◌-◌, ◌≤◌, length}
use Rattle.std.specs.BTreeMap.{is_at}
use Rattle.common_types.specs.ByteOrder.{byte_cmp}
use Rattle.tree_nodes.specs.PageViews.{pairs_in}
use Rattle.tree_nodes.specs.PackedEntries.{bytes_before, bytes_of_first}
use Rattle.tree_nodes.proofs.PackedEntries.{AreBytes}
use Rattle.tree_nodes.proofs.packed_leaf.place_of.Given as goal

abbrev pub invariant-loop : goal.invariant-loop
invariant-loop l = record {
  before : (length l.entries - length l.left) + bytes_before (is_at (byte_cmp l.key)) (pairs_in (l.count - l.counter) l.left) ≡ bytes_before (is_at (byte_cmp l.key)) (pairs_in l.count l.entries);
  there : bytes_of_first (is_at (byte_cmp l.key)) (pairs_in (l.count - l.counter) l.left) ≡ bytes_of_first (is_at (byte_cmp l.key)) (pairs_in l.count l.entries);
  all : length (pairs_in (l.count - l.counter) l.left) ≡ l.count - l.counter;
  inside : length l.left ≤ length l.entries;
  bytes : AreBytes l.left;
}
