use Rattle.std.proofs.Common.{◌≡◌, ◌<◌, ◌++◌, ◌∷◌, [], ℕ, List, length, insert, sym, ap, ◌∙◌, arith}
use Rattle.std.specs.declared.cmp.Ordering.TheVariants.{Less, Equal}
use Rattle.common_types.specs.ByteOrder.{byte_cmp}
use Rattle.page_store.specs.Pages.{Pair}
use Rattle.page_store.proofs.Places.{put_less, put_equal, put_last, same_at}
use Rattle.page_store.proofs.batch.put_pair.Goals as goal

pub returns-in-Less : goal.returns-in-Less
returns-in-Less c =
    let key = c.loop-place.invariant.key in
    let less : byte_cmp c.args.key c.index.result.now.0 ≡ Less = ap (λ (k : List ℕ). byte_cmp k c.index.result.now.0) (sym (c.as_slice.ensures ∙ key)) ∙ ap (byte_cmp c.as_slice.result.now) (sym c.key-in-loop-place.ensures) ∙ sym c.in-Less.ensures in
    let made : c.new.result ≡ (c.args.key, c.args.value) = c.new.ensures ∙ ap (λ (k : List ℕ). (k, c.args.value)) key in
    c.in_ok-insert-in-Less.ensures.items ∙ ap (insert c.loop-place.pairs.items c.loop-place.place) made
    ∙ put_less c.args.pairs.now.items c.loop-place.pairs.items _ c.loop-place.place c.args.key c.args.value c.index.result.now c.loop-place.invariant.same (let ok = c.args.pairs.now.ok in let len = c.len-place-end.ensures in let t = c.loop-place-test.true in let e = ap length c.loop-place.invariant.same in omega (arith, ok, len, t, e)) c.index.ensures less c.loop-place.invariant.rest

pub returns-in-Equal : goal.returns-in-Equal
returns-in-Equal c =
    let key = c.loop-place.invariant.key in
    let equal : byte_cmp c.args.key c.index.result.now.0 ≡ Equal = ap (λ (k : List ℕ). byte_cmp k c.index.result.now.0) (sym (c.as_slice.ensures ∙ key)) ∙ ap (byte_cmp c.as_slice.result.now) (sym c.key-in-loop-place.ensures) ∙ sym c.in-Equal.ensures in
    let at = c.index.ensures in
    let lt : c.loop-place.place < length c.loop-place.pairs.items = (let ok = c.args.pairs.now.ok in let len = c.len-place-end.ensures in let t = c.loop-place-test.true in let e = ap length c.loop-place.invariant.same in omega (arith, ok, len, t, e)) in
    let at2 = c.index_mut.ensures.value in
    put_equal c.args.pairs.now.items c.loop-place.pairs.items _ c.loop-place.place c.args.key c.args.value c.index.result.now c.set_value.new.self c.loop-place.invariant.same lt c.index.ensures equal (c.set_value.ensures ∙ ap (λ (p : Pair). (p.0, c.args.value)) (same_at c.loop-place.pairs.items c.loop-place.place c.index_mut.result.now c.index.result.now lt at2 at)) c.loop-place.invariant.rest

pub returns : goal.returns
returns c =
    let key = c.loop-place.invariant.key in
    let made : c.new-2.result ≡ (c.args.key, c.args.value) = c.new-2.ensures ∙ ap (λ (k : List ℕ). (k, c.args.value)) key in
    c.in_ok-push.ensures.items ∙ ap (λ (p : Pair). c.loop-place.pairs.items ++ p ∷ []) made ∙ put_last c.args.pairs.now.items c.loop-place.pairs.items _ c.loop-place.place c.args.key c.args.value c.loop-place.invariant.same (let ok = c.args.pairs.now.ok in let len = c.len-place-end.ensures in let t = c.loop-place-test.false in let e = ap length c.loop-place.invariant.same in omega (arith, ok, len, t, e)) c.loop-place.invariant.rest
