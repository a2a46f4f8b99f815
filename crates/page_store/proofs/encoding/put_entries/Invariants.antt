use Rattle.std.proofs.Common.{◌≡◌, ◌++◌, take}
use Rattle.page_store.specs.Encoding.{entries_bytes}
use Rattle.page_store.proofs.encoding.put_entries.Given as goal

abbrev pub invariant-loop-pair : goal.invariant-loop-pair
invariant-loop-pair l = l.out.items ≡ l.fn.out.items ++ entries_bytes (take l.pair-index l.pairs)
