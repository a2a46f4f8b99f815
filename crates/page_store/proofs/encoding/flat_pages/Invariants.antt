use Rattle.std.proofs.Common.{◌≡◌, ◌+◌, ◌-◌, ◌≤◌, ◌++◌, length, IsTrue}
use Rattle.std.specs.List.{list_all}
use Rattle.page_store.specs.Batch.{is_pair}
use Rattle.page_store.specs.Encoding.{paged, by_pages, flat_pages}
use Rattle.page_store.proofs.encoding.flat_pages.Given as goal

abbrev pub invariant-loop-rest : goal.invariant-loop-rest
invariant-loop-rest l = record {
  all : l.pages.items ++ flat_pages l.seal l.page (paged (length l.pairs - length l.pages.items) l.rest) ≡ flat_pages l.seal l.first (by_pages l.pairs);
  page : l.page ≡ l.first + length l.pages.items;
  room : length l.pages.items + length l.rest ≤ length l.pairs;
  pairs : IsTrue (list_all is_pair l.rest);
}

abbrev pub decreases-loop-rest : goal.decreases-loop-rest
decreases-loop-rest l = length l.rest
