use Rattle.std.proofs.Common.{◌≡◌, take}
use Rattle.page_store.specs.Batch.{updated}
use Rattle.page_store.proofs.batch.updated_pairs.Given as goal

abbrev pub invariant-loop-edit : goal.invariant-loop-edit
invariant-loop-edit l = l.now.items ≡ updated l.pairs (take l.edit-index l.batch)
