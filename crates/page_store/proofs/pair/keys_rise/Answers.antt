use Rattle.std.proofs.Common.{◌≡◌, ◌-◌, ◌+◌, ℕ, List, suc, true, map, drop, get_or, sym, subst, ap, ◌∙◌, arith}
use Rattle.std.specs.Ordering.{is_lt}
use Rattle.common_types.specs.ByteOrder.{byte_cmp}
use Rattle.page_store.specs.Keys.{rises, precedes}
use Rattle.page_store.specs.Pages.{key_of}
use Rattle.page_store.proofs.OpeningFinds.{rises_more, rises_last}
use Rattle.page_store.proofs.pair.keys_rise.Goals as goal

pub loop-place-preserved : goal.loop-place-preserved
loop-place-preserved c =
    let place = c.loop-place.place in
    let low = c.loop-place.auto.place in
    let lt = c.loop-place-test.true in
    let a = c.index-pairs-place.result in
    let b = c.index-pairs-place-in-loop-place.result in
    let next : suc (place - 1) ≡ place = omega (arith, low) in
    let at : b ≡ get_or c.args.pairs.now (suc (place - 1)) b = subst (λ (n : ℕ). b ≡ get_or c.args.pairs.now n b) (sym next) c.index-pairs-place-in-loop-place.is in
    let less : precedes a.0 b.0 ≡ true = ap is_lt (ap (λ (k : List ℕ). byte_cmp k b.0) (sym c.key.ensures) ∙ ap (byte_cmp c.key.result.now) (sym c.key-in-loop-place.ensures) ∙ sym c.in-Less.ensures) in
    let step = rises_more c.args.pairs.now (place - 1) a b true (omega (arith, low, lt)) c.index-pairs-place.is at less in
    let last : suc (place - 1) ≡ place + 1 - 1 = omega (arith, low) in
    subst (λ (n : ℕ). rises (map key_of (drop n c.args.pairs.now)) ≡ rises (map key_of c.args.pairs.now)) last (sym step ∙ c.loop-place.invariant)

pub returns : goal.returns
returns c = sym (rises_last c.args.pairs.now (c.loop-place.place - 1) (let low = c.loop-place.auto.place in let t = c.loop-place-test.false in omega (arith, low, t))) ∙ c.loop-place.invariant
