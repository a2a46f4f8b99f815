use Rattle.std.proofs.Common.{◌≡◌, ◌-◌, ◌++◌}
use Rattle.site_records.specs.Layout.{chunk_pairs}
use Rattle.site_pairs.proofs.item_pairs.put_part.Given as goal

-- what is there with what is left is all
abbrev pub invariant-loop-k : goal.invariant-loop-k
invariant-loop-k l = l.pairs.items ++ chunk_pairs l.selector l.part l.bytes (l.count - l.k) l.k ≡ l.fn.pairs.items ++ chunk_pairs l.selector l.part l.bytes l.count 0
