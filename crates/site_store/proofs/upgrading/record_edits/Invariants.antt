use Rattle.std.proofs.Common.{◌≡◌, drop, ◌++◌, IsTrue}
use Rattle.std.specs.List.{list_all}
use Rattle.page_store.specs.Batch.{is_edit}
use Rattle.site_pairs.specs.Edits.{batch_of}
use Rattle.site_store.specs.Upgrading.{record_edits}
use Rattle.site_store.proofs.upgrading.record_edits.Given as goal

-- the edits of the rest come behind
abbrev pub invariant-loop-pair : goal.invariant-loop-pair
invariant-loop-pair l = record {
  edits : l.batch.items ++ batch_of (record_edits (drop l.pair-index l.pairs)) ≡ batch_of (record_edits l.pairs);
  sizes : IsTrue (list_all is_edit l.batch.items);
}
