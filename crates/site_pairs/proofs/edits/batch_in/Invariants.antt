use Rattle.std.proofs.Common.{◌≡◌, map, take, IsTrue}
use Rattle.std.specs.List.{list_all}
use Rattle.page_store.specs.Batch.{is_edit}
use Rattle.site_pairs.specs.Edits as spec
use Rattle.site_pairs.proofs.edits.batch_in.Given as goal

abbrev pub invariant-loop-entry : goal.invariant-loop-entry
invariant-loop-entry l = record {
  batch : l.batch.items ≡ spec.batch_of (map (λ e. (e.0.now, e.1.now)) (take l.entry-index l.entry-items));
  sizes : IsTrue (list_all is_edit l.batch.items);
}
