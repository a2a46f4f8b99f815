use Rattle.std.proofs.Common.{◌≡◌, ◌+◌, ◌-◌, ◌*◌, ◌++◌, length, replicate}
use Rattle.page_store.specs.Encoding.{padded, root_sectors}
use Rattle.page_store.proofs.encoding.slot_sectors.Given as goal

abbrev pub invariant-loop-k : goal.invariant-loop-k
invariant-loop-k l = record {
  all : l.out.items ++ root_sectors (l.first + l.k) l.slot.seal (8 - l.k) (replicate (488 * (8 - l.k)) 0) ≡ root_sectors l.first l.slot.seal 8 (padded 3904 l.fields.items);
  length : length l.out.items ≡ 512 * l.k;
}
