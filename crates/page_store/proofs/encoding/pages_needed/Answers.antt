use Rattle.std.proofs.Common.{◌≡◌, ◌≤◌, ◌<◌, ◌+◌, ◌-◌, ℕ, List, length, drop, IsTrue, subst, sym, ap, ◌∙◌, arith}
use Rattle.std.specs.List.{list_all}
use Rattle.page_store.specs.Batch.{is_pair}
use Rattle.page_store.specs.Pages.{Pair}
use Rattle.page_store.specs.Encoding.{fitting, page_room, paged}
use Rattle.page_store.proofs.PairsByPage.{fitting_le, fitting_some, all_drop, paged_step, some_left}
use Rattle.page_store.proofs.encoding.pages_needed.Goals as goal

pub split_at-requires : goal.split_at-requires
split_at-requires c = subst (λ (n : ℕ). n ≤ length c.loop-rest.rest.now) (sym c.fitting.ensures) (fitting_le page_room c.loop-rest.rest.now)

pub loop-rest-smaller : goal.loop-rest-smaller
loop-rest-smaller c =
    let left = some_left (length c.loop-rest.rest.now) (sym c.is_empty.ensures ∙ c.loop-rest-test.true) in
    let some = fitting_some c.loop-rest.rest.now left c.loop-rest.invariant.pairs in
    let is = c.fitting.ensures in
    let back = c.split_at.ensures.back_len in
    let goal_is : length c.split_at.result.1.now < length c.loop-rest.rest.now = omega (arith, some, is, back) in
    goal_is

pub loop-rest-preserved : goal.loop-rest-preserved
loop-rest-preserved c =
    let rest = c.loop-rest.rest.now in
    let left = some_left (length rest) (sym c.is_empty.ensures ∙ c.loop-rest-test.true) in
    let some = fitting_some rest left c.loop-rest.invariant.pairs in
    let is = c.fitting.ensures in
    let back = c.split_at.ensures.back_len in
    let after : c.split_at.result.1.now ≡ drop (fitting page_room rest) rest = c.split_at.ensures.back ∙ ap (λ (n : ℕ). drop n rest) is in
    let room = c.loop-rest.invariant.room in
    let step = paged_step (length c.args.pairs.now - c.loop-rest.count) rest (omega (arith, room, left)) left in
    let less : length c.args.pairs.now - c.loop-rest.count - 1 ≡ length c.args.pairs.now - (c.loop-rest.count + 1) = omega (arith, room, left) in
    let size : length (paged (length c.args.pairs.now - c.loop-rest.count) rest) ≡ 1 + length (paged (length c.args.pairs.now - (c.loop-rest.count + 1)) c.split_at.result.1.now) =
    rw (step, less, after) (omega arith) in
    let all = c.loop-rest.invariant.all in
    record {
      all = omega (arith, size, all);
      room = omega (arith, room, back, is, some);
      pairs = subst (λ (l : List Pair). IsTrue (list_all is_pair l)) (sym after) (all_drop is_pair (fitting page_room rest) rest c.loop-rest.invariant.pairs);
    }
