use Rattle.std.proofs.Common.{◌≡◌, ◌++◌, take, drop}
use Rattle.std.specs.Map.{remove_entry}
use Rattle.std.specs.BTreeMap.{is_at}
use Rattle.common_types.specs.ByteOrder.{byte_cmp}
use Rattle.page_store.proofs.batch.remove_pair.Given as goal

abbrev pub invariant-loop-place : goal.invariant-loop-place
invariant-loop-place l = record {
  same : l.pairs ≡ l.fn.pairs;
  rest : remove_entry (is_at (byte_cmp l.key)) l.fn.pairs.items ≡ take l.place l.fn.pairs.items ++ remove_entry (is_at (byte_cmp l.key)) (drop l.place l.fn.pairs.items);
}
