use Rattle.std.proofs.Common.{rules, ◌≡◌, ◌+◌, ◌-◌, ◌++◌, ap, ◌∙◌}
use Rattle.host_types.specs.Card.{chunk_of}
use Rattle.site_records.specs.Keys.{chunk_key}
use Rattle.site_records.specs.Layout.{LayoutPair, Pairs, chunk_pairs}
use Rattle.site_pairs.proofs.ItemPairs.{next_chunk}
use Rattle.site_pairs.proofs.item_pairs.put_part.Goals as goal

pub loop-k-preserved : goal.loop-k-preserved
loop-k-preserved c =
    let count = c.chunk_count-count.result in
    let k = c.loop-k.k in
    let bytes = c.args.bytes.now in
    let p : LayoutPair = (c.chunk_key-key.result, c.new.result) in
    let is : p ≡ (chunk_key c.args.selector.now c.args.part k, chunk_of bytes k) = search rules in
    ap (λ (ps : Pairs). ps ++ chunk_pairs c.args.selector.now c.args.part bytes (count - (k + 1)) (k + 1)) c.in_ok-push.ensures.items
    ∙ next_chunk c.loop-k.pairs.items (c.args.pairs.now.items ++ chunk_pairs c.args.selector.now c.args.part bytes count 0) c.args.selector.now c.args.part bytes count k p c.loop-k-test.true is c.loop-k.invariant
