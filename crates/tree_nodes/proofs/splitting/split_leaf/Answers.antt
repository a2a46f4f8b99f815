use Rattle.std.proofs.Common.{◌≡◌, vec_len, length, ap, ◌∙◌, arith}
use Rattle.page_store.specs.Encoding.{fitting}
use Rattle.tree_nodes.specs.Splits.{leaf_place}
use Rattle.tree_nodes.proofs.FittingEntries.{is_none, is_some, leaf_whole, leaf_front_alone, leaf_in_two}
use Rattle.tree_nodes.proofs.splitting.split_leaf.Goals as goal

pub returns-then-fitting-len : goal.returns-then-fitting-len
returns-then-fitting-len c =
    let count : c.fitting.result ≡ fitting 4072 c.args.pairs.items = c.fitting.ensures.count ∙ ap (fitting 4072) c.deref.ensures.value in
    leaf_whole c.args.pairs (omega (arith, count, c.if-fitting-len.true, c.len.ensures, c.args.pairs.ok))

pub returns-then-is_empty : goal.returns-then-is_empty
returns-then-is_empty c =
    let items = c.args.pairs.items in
    let count : c.fitting.result ≡ fitting 4072 items = c.fitting.ensures.count ∙ ap (fitting 4072) c.deref.ensures.value in
    let at : c.leaf_place.result ≡ leaf_place items = c.leaf_place.ensures.count ∙ ap leaf_place c.deref-2.ensures.value in
    leaf_front_alone items c.split_off.new.self c.in_ok-back.back (λ e. omega (arith, e, count, c.if-fitting-len.false, c.len.ensures, c.args.pairs.ok))
    (rw at at c.in_ok-back.ensures.items) (rw at at c.in_ok-back.ensures.tail) (is_none c.is_empty.result (vec_len c.in_ok-back.back) (length c.in_ok-back.back.items) c.is_empty.ensures c.if-is_empty.true (omega (arith, c.in_ok-back.back.ok)))

pub returns : goal.returns
returns c =
    let items = c.args.pairs.items in
    let count : c.fitting.result ≡ fitting 4072 items = c.fitting.ensures.count ∙ ap (fitting 4072) c.deref.ensures.value in
    let at : c.leaf_place.result ≡ leaf_place items = c.leaf_place.ensures.count ∙ ap leaf_place c.deref-2.ensures.value in
    leaf_in_two items c.split_off.new.self c.in_ok-back.back c.in_ok-key.key c.index.result.now (λ e. omega (arith, e, count, c.if-fitting-len.false, c.len.ensures, c.args.pairs.ok))
    (rw at at c.in_ok-back.ensures.items) (rw at at c.in_ok-back.ensures.tail) (is_some c.is_empty.result (vec_len c.in_ok-back.back) (length c.in_ok-back.back.items) c.is_empty.ensures c.if-is_empty.false (omega (arith, c.in_ok-back.back.ok))) c.index.ensures (c.in_ok-key.ensures ∙ c.key.ensures)
