use Rattle.std.proofs.Common.{◌≡◌, ℕ, List, ◌+◌, ◌-◌, length, drop, ◌∷◌, false, sym, ap, subst, ◌∙◌, arith}
use Rattle.std.specs.Ordering.{is_eq}
use Rattle.std.specs.BTreeMap.{is_at}
use Rattle.common_types.specs.ByteOrder.{byte_cmp}
use Rattle.page_store.specs.Flat.{entry_size}
use Rattle.tree_nodes.specs.PageViews.{pairs_in}
use Rattle.tree_nodes.proofs.PackedEntries.{AreBytes, bytes_after}
use Rattle.tree_nodes.proofs.EntriesFound.{next_entry, over_other, not_equal}
use Rattle.tree_nodes.proofs.packed_leaf.place_of.Goals as goal

pub split_at-requires : goal.split_at-requires
split_at-requires c =
    let x = next_entry (c.args.count - c.loop.counter) (c.args.count - (c.loop.counter + 1)) c.loop.left.now c.loop.invariant.bytes (omega (arith, c.loop-test.true)) c.loop.invariant.all in
    let size : c.first_key-size.result.1 ≡ entry_size x.0.0 = rw x.1.read at c.first_key-size.ensures.size in
    omega (arith, size, x.1.entry.room)

pub loop-preserved : goal.loop-preserved
loop-preserved c =
    let m = c.args.count - (c.loop.counter + 1) in
    let x = next_entry (c.args.count - c.loop.counter) (c.args.count - (c.loop.counter + 1)) c.loop.left.now c.loop.invariant.bytes (omega (arith, c.loop-test.true)) c.loop.invariant.all in
    let size : c.first_key-size.result.1 ≡ entry_size x.0.0 = rw x.1.read at c.first_key-size.ensures.size in
    let key : c.first_key-size.result.0.now ≡ x.0.0.0 = rw x.1.read at c.first_key-size.ensures.key in
    let rest : c.split_at.result.1.now ≡ drop (entry_size x.0.0) c.loop.left.now = c.split_at.ensures.back ∙ ap (λ (n : ℕ). drop n c.loop.left.now) size in
    let passed : is_at (byte_cmp c.args.key.now) x.0.0.0 ≡ false = ap (is_at (byte_cmp c.args.key.now)) (sym key) ∙ ap is_eq (sym c.compare_bytes.ensures) ∙ not_equal c.compare_bytes.result c.if-eq.ensures in
    let over = over_other (is_at (byte_cmp c.args.key.now)) (pairs_in (c.args.count - c.loop.counter) c.loop.left.now) (pairs_in m c.split_at.result.1.now) x.0.0 (x.1.row ∙ ap (λ (l : List ℕ). x.0.0 ∷ pairs_in m l) (sym rest)) passed in
    record {
      before = omega (arith, c.loop.invariant.before, c.loop.invariant.inside, over.0, size, x.1.entry.room, c.split_at.ensures.back_len);
      there = sym over.1 ∙ c.loop.invariant.there;
      all = ap (λ (l : List ℕ). length (pairs_in m l)) rest ∙ x.1.others;
      inside = omega (arith, c.loop.invariant.inside, c.split_at.ensures.back_len);
      bytes = subst AreBytes (sym rest) (bytes_after (entry_size x.0.0) c.loop.left.now c.loop.invariant.bytes);
    }
