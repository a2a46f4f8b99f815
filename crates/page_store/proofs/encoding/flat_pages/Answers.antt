use Rattle.std.proofs.Common.{◌≡◌, ◌≤◌, ◌<◌, ◌+◌, ◌-◌, ◌++◌, ℕ, List, length, drop, take, IsTrue, subst, sym, ap, ◌∙◌, arith, refl, length-append}
use Rattle.std.specs.List.{list_all}
use Rattle.page_store.specs.Batch.{is_pair}
use Rattle.page_store.specs.Pages.{Pair}
use Rattle.page_store.specs.Encoding.{fitting, page_room, paged, by_pages, flat_pages, entries_bytes}
use Rattle.page_store.specs.declared.commit.NewPage.{NewPage}
use Rattle.page_store.proofs.PairsByPage.{fitting_le, fitting_some, fitting_room, all_drop, all_take, paged_step, some_left, small_page, flat_pages_length, next_page}
use Rattle.page_store.proofs.encoding.flat_pages.Goals as goal

pub split_at-requires : goal.split_at-requires
split_at-requires c = subst (λ (n : ℕ). n ≤ length c.loop-rest.rest.now) (sym c.fitting.ensures) (fitting_le page_room c.loop-rest.rest.now)

pub flat_page-requires : goal.flat_page-requires
flat_page-requires c =
    let rest = c.loop-rest.rest.now in
    let front : c.split_at.result.0.now ≡ take (fitting page_room rest) rest = c.split_at.ensures.front ∙ ap (λ (n : ℕ). take n rest) c.fitting.ensures in
    let fits = fitting_room page_room rest in
    record {
      pairs = subst (λ (l : List Pair). IsTrue (list_all is_pair l)) (sym front) (all_take is_pair (fitting page_room rest) rest c.loop-rest.invariant.pairs);
      count = subst (λ (l : List Pair). length l < 65536) (sym front) (small_page (take (fitting page_room rest) rest) fits);
      room = subst (λ (l : List Pair). length (entries_bytes l) ≤ page_room) (sym front) fits;
    }

pub overflow_add-page : goal.overflow_add-page
overflow_add-page c =
    let rest = c.loop-rest.rest.now in
    let left = some_left (length rest) (sym c.is_empty.ensures ∙ c.loop-rest-test.true) in
    let room = c.loop-rest.invariant.room in
    let step = paged_step (length c.args.pairs.now - length c.loop-rest.pages.items) rest (omega (arith, room, left)) left in
    let all = c.loop-rest.invariant.all in
    let page = c.loop-rest.invariant.page in
    let more = paged (length c.args.pairs.now - length c.loop-rest.pages.items) rest in
    let whole : length c.loop-rest.pages.items + length more ≡ length (by_pages c.args.pairs.now) =
    ap (λ (n : ℕ). length c.loop-rest.pages.items + n) (sym (flat_pages_length c.args.seal c.loop-rest.page more)) ∙ sym (length-append c.loop-rest.pages.items (flat_pages c.args.seal c.loop-rest.page more))
    ∙ ap length all ∙ flat_pages_length c.args.seal c.args.first (by_pages c.args.pairs.now) in
    let some : 0 < length more = rw step (omega arith) in
    let needed = c.requires.numbers in
    omega (arith, whole, some, page, needed)

pub loop-rest-smaller : goal.loop-rest-smaller
loop-rest-smaller c =
    let left = some_left (length c.loop-rest.rest.now) (sym c.is_empty.ensures ∙ c.loop-rest-test.true) in
    let some = fitting_some c.loop-rest.rest.now left c.loop-rest.invariant.pairs in
    let is = c.fitting.ensures in
    let back = c.split_at.ensures.back_len in
    let goal_is : length c.split_at.result.1.now < length c.loop-rest.rest.now = omega (arith, some, is, back) in
    goal_is

pub loop-rest-preserved : goal.loop-rest-preserved
loop-rest-preserved c =
    let rest = c.loop-rest.rest.now in
    let left = some_left (length rest) (sym c.is_empty.ensures ∙ c.loop-rest-test.true) in
    let some = fitting_some rest left c.loop-rest.invariant.pairs in
    let is = c.fitting.ensures in
    let back = c.split_at.ensures.back_len in
    let after : c.split_at.result.1.now ≡ drop (fitting page_room rest) rest = c.split_at.ensures.back ∙ ap (λ (n : ℕ). drop n rest) is in
    let front : c.split_at.result.0.now ≡ take (fitting page_room rest) rest = c.split_at.ensures.front ∙ ap (λ (n : ℕ). take n rest) is in
    let room = c.loop-rest.invariant.room in
    let pushed = c.in_ok-push.ensures.items in
    let page = c.loop-rest.invariant.page in
    let step = paged_step (length c.args.pairs.now - length c.loop-rest.pages.items) rest (omega (arith, room, left)) left in
    let all = c.loop-rest.invariant.all in
    let size : length c.push.new.self.items ≡ length c.loop-rest.pages.items + 1 = ap length pushed ∙ length-append c.loop-rest.pages.items _ in
    let less : length c.args.pairs.now - length c.loop-rest.pages.items - 1 ≡ length c.args.pairs.now - length c.push.new.self.items = omega (arith, room, left, size) in
    record {
      all =
          subst (λ (pages : List NewPage). pages ++ flat_pages c.args.seal (c.loop-rest.page + 1) (paged (length c.args.pairs.now - length c.push.new.self.items) c.split_at.result.1.now) ≡ flat_pages c.args.seal c.args.first (by_pages c.args.pairs.now)) (sym pushed)
          (next_page c.loop-rest.pages.items (flat_pages c.args.seal c.args.first (by_pages c.args.pairs.now)) c.args.seal c.loop-rest.page c.in_ok-flat_page.field-0 c.split_at.result.0.now (paged (length c.args.pairs.now - length c.loop-rest.pages.items) rest)
          (paged (length c.args.pairs.now - length c.push.new.self.items) c.split_at.result.1.now) c.in_ok-flat_page.ensures (step ∙ rw (front, after, less) refl) all);
      page = omega (arith, page, size);
      room = omega (arith, room, back, is, some, size);
      pairs = subst (λ (l : List Pair). IsTrue (list_all is_pair l)) (sym after) (all_drop is_pair (fitting page_room rest) rest c.loop-rest.invariant.pairs);
    }
