use Rattle.std.proofs.Common.{◌≡◌, ◌*◌, length}
use Rattle.page_store.specs.Roots.{record_from}
use Rattle.page_store.proofs.roots.record_of.Given as goal

abbrev pub invariant-loop-k : goal.invariant-loop-k
invariant-loop-k l = record {
  items : l.record.items ≡ record_from l.sectors (8 * l.slot) l.k;
  size : length l.record.items ≡ 488 * l.k;
}
