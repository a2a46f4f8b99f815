use Rattle.std.proofs.Common.{◌≡◌, map, take, IsTrue}
use Rattle.std.specs.List.{list_all}
use Rattle.page_store.specs.Batch.{is_pair}
use Rattle.site_pairs.proofs.first_site.copies_of.Given as goal

abbrev pub invariant-loop-entry : goal.invariant-loop-entry
invariant-loop-entry l = record {
  copies : l.copies.items ≡ map (λ e. (e.0.now, e.1.now)) (take l.entry-index l.entry-items);
  sizes : IsTrue (list_all is_pair l.copies.items);
}
