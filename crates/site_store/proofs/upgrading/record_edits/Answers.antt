use Rattle.std.proofs.Common.{◌+◌, drop}
use Rattle.std.specs.Prelude.{option_to_list}
use Rattle.site_pairs.specs.Edits.{batch_of}
use Rattle.site_store.specs.Upgrading.{record_edits}
use Rattle.site_store.proofs.Upgrades.{edits_on, sizes_on, here}
use Rattle.site_store.proofs.upgrading.record_edits.Goals as goal

pub loop-pair-preserved : goal.loop-pair-preserved
loop-pair-preserved c =
    let pairs = c.args.pairs.now in
    let n = c.loop-pair.pair-index in
    let p = c.pair-item.result in
    let inv = c.loop-pair.invariant in
    let batch = c.loop-pair.batch.items in
    let new = c.add_any.new.batch.items in
    let edit = c.in_ok-edit.edit in
    record {
      edits = edits_on (drop n pairs) (drop (n + 1) pairs) p batch (option_to_list edit) (batch_of (record_edits pairs)) new (here pairs n p c.loop-pair-test.true c.pair-item.is) c.in_ok-edit.ensures.edit c.in_ok-add_any.ensures inv.edits;
      sizes = sizes_on batch new edit inv.sizes c.in_ok-edit.ensures.sizes c.in_ok-add_any.ensures;
    }
