use Rattle.std.proofs.Common.{◌≡◌, ◌-◌, ◌+◌, ◌++◌, ◌∷◌, [], List, suc, ap, sym, subst, ◌∙◌, arith}
use Rattle.page_store.specs.Pages.{Pair, pair_at, entries_at}
use Rattle.page_store.specs.Flat.{with_front}
use Rattle.page_store.proofs.Parsing.{entries_more}
use Rattle.page_store.proofs.flat_reading.read_entries.Goals as goal

pub loop-preserved : goal.loop-preserved
loop-preserved c =
    let t = c.loop-test.true in
    let read = c.in-Some.ensures in
    let pushed = c.in_ok-push.ensures.items in
    let is : c.args.count - c.loop.counter ≡ suc (c.args.count - (c.loop.counter + 1)) = omega (arith, t) in
    let copy : c.in_ok-from_slices.field-0 ≡ (c.in-Some.key.now, c.in-Some.value.now) = c.in_ok-from_slices.ensures in
    let now : c.push.new.self.items ≡ c.loop.pairs.items ++ (c.in-Some.key.now, c.in-Some.value.now) ∷ [] = pushed ∙ ap (λ (x : Pair). c.loop.pairs.items ++ x ∷ []) copy in
    subst (λ (l : List Pair). with_front l (entries_at pair_at (c.args.count - (c.loop.counter + 1)) c.in-Some.after.now) ≡ with_front c.args.pairs.now.items (entries_at pair_at c.args.count c.args.bytes.now)) (sym now)
    (entries_more c.loop.pairs.items (c.args.count - c.loop.counter) (c.args.count - (c.loop.counter + 1)) (c.in-Some.key.now, c.in-Some.value.now) c.loop.rest.now c.in-Some.after.now (with_front c.args.pairs.now.items (entries_at pair_at c.args.count c.args.bytes.now)) is (sym read) c.loop.invariant)
