use Rattle.std.proofs.Common.{sym, ap, drop, ◌∙◌, arith}
use Rattle.std.specs.Ordering.{nat_cmp, ordering_then}
use Rattle.common_types.specs.ByteOrder.{byte_cmp}
use Rattle.common_types.proofs.ByteOrders.{by_words}
use Rattle.common_types.proofs.byte_order.compare_words.Goals as goal

pub returns-in-Some-Some : goal.returns-in-Some-Some
returns-in-Some-Some c =
    let here = c.in-Some-Some.ensures in
    let there = c.in-Some-Some.ensures' in
    let behind = byte_cmp (drop 8 c.args.one.now) (drop 8 c.args.other.now) in
    let by = by_words c.args.one.now c.args.other.now (λ i. omega (arith, c.type_inv.one i)) (λ i. omega (arith, c.type_inv.other i)) here.0 there.0 in
    (here.0, there.0, by ∙ ap (λ o. ordering_then o behind) ((λ i. nat_cmp (sym here.1 i) (sym there.1 i)) ∙ sym c.cmp.ensures))
