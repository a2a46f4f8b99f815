use Rattle.std.proofs.Common.{◌≡◌, ◌+◌, ◌-◌, ◌≤◌, length, IsTrue}
use Rattle.std.specs.List.{list_all}
use Rattle.page_store.specs.Batch.{is_pair}
use Rattle.page_store.specs.Encoding.{paged, pages_needed}
use Rattle.page_store.proofs.encoding.pages_needed.Given as goal

abbrev pub invariant-loop-rest : goal.invariant-loop-rest
invariant-loop-rest l = record {
  all : l.count + length (paged (length l.pairs - l.count) l.rest) ≡ pages_needed l.pairs;
  room : l.count + length l.rest ≤ length l.pairs;
  pairs : IsTrue (list_all is_pair l.rest);
}

abbrev pub decreases-loop-rest : goal.decreases-loop-rest
decreases-loop-rest l = length l.rest
