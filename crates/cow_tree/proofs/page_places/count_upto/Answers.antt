use Rattle.std.proofs.Common.{◌<◌, ◌-◌, sym, ◌∙◌, arith}
use Rattle.cow_tree.specs.KeptPlaces.{key_from}
use Rattle.cow_tree.proofs.SearchedByHalves.{upto_high, upto_low, upto_most, key_got, some_got}
use Rattle.cow_tree.proofs.page_places.count_upto.Goals as goal

pub loop-low-init : goal.loop-low-init
loop-low-init c = record {
  order = omega arith;
  count = omega arith;
  between = λ keys are rising. (omega arith, let most = upto_most c.args.key.now keys in let many = are.many in omega (arith, most, many));
}

pub returns-in_err-here : goal.returns-in_err-here
returns-in_err-here c = λ keys are rising.
    let middle = c.tried_next-middle.result in
    let from = c.tried_next-middle.ensures.from in
    let below = c.tried_next-middle.ensures.below in
    let count = c.loop-low.invariant.count in
    let inside : middle < c.args.places.now.count = omega (arith, count, below) in
    let there = key_got (key_from c.args.level c.args.bytes.now) keys c.args.places.now.count c.args.places.now.at middle c.in_ok-get.field-0.now inside (c.in_ok-get.ensures.lookup.3.1 0) are in
    absurd (some_got keys middle (let many = are.many in omega (arith, inside, many)) (sym there ∙ sym c.in_err-here.ensures))

pub loop-low-preserved-then-precedes : goal.loop-low-preserved-then-precedes
loop-low-preserved-then-precedes c =
    let middle = c.tried_next-middle.result in
    let from = c.tried_next-middle.ensures.from in
    let below = c.tried_next-middle.ensures.below in
    let count = c.loop-low.invariant.count in
    let inside : middle < c.args.places.now.count = omega (arith, count, below) in
    record {
      order = omega (arith, from, below);
      count = omega (arith, inside);
      between = λ keys are rising.
          let there = key_got (key_from c.args.level c.args.bytes.now) keys c.args.places.now.count c.args.places.now.at middle c.in_ok-get.field-0.now inside (c.in_ok-get.ensures.lookup.3.1 0) are in
          ((c.loop-low.invariant.between keys are rising).0, upto_high c.args.key.now keys middle c.in_ok-here.here.now (sym there ∙ sym c.in_ok-here.ensures) (sym c.precedes.ensures ∙ c.if-precedes.true));
    }

pub loop-low-preserved : goal.loop-low-preserved
loop-low-preserved c =
    let middle = c.tried_next-middle.result in
    let from = c.tried_next-middle.ensures.from in
    let below = c.tried_next-middle.ensures.below in
    let count = c.loop-low.invariant.count in
    let inside : middle < c.args.places.now.count = omega (arith, count, below) in
    record {
      order = omega (arith, from, below);
      count = omega (arith, count);
      between = λ keys are rising.
          let there = key_got (key_from c.args.level c.args.bytes.now) keys c.args.places.now.count c.args.places.now.at middle c.in_ok-get.field-0.now inside (c.in_ok-get.ensures.lookup.3.1 0) are in
          (upto_low c.args.key.now keys middle c.in_ok-here.here.now rising (sym there ∙ sym c.in_ok-here.ensures) (sym c.precedes.ensures ∙ c.if-precedes.false), (c.loop-low.invariant.between keys are rising).1);
    }
