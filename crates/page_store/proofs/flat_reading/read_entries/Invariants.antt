use Rattle.std.proofs.Common.{◌≡◌, ◌-◌}
use Rattle.page_store.specs.Pages.{pair_at, entries_at}
use Rattle.page_store.specs.Flat.{with_front}
use Rattle.page_store.proofs.flat_reading.read_entries.Given as goal

abbrev pub invariant-loop : goal.invariant-loop
invariant-loop l = with_front l.pairs.items (entries_at pair_at (l.count - l.counter) l.rest) ≡ with_front l.fn.pairs.items (entries_at pair_at l.count l.bytes)
