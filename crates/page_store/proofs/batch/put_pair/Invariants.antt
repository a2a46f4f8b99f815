use Rattle.std.proofs.Common.{◌≡◌, ◌++◌, take, drop}
use Rattle.std.specs.BTreeMap.{insert_entry}
use Rattle.common_types.specs.ByteOrder.{byte_cmp}
use Rattle.page_store.proofs.batch.put_pair.Given as goal

abbrev pub invariant-loop-place : goal.invariant-loop-place
invariant-loop-place l = record {
  same : l.pairs.items ≡ l.fn.pairs.items;
  key : l.key ≡ l.fn.key;
  rest : insert_entry byte_cmp l.fn.pairs.items l.fn.key l.fn.value ≡ take l.place l.fn.pairs.items ++ insert_entry byte_cmp (drop l.place l.fn.pairs.items) l.fn.key l.fn.value;
}
