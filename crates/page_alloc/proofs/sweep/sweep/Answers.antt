use Rattle.std.proofs.Common.{◌≡◌, ◌<◌, ◌-◌, ◌+◌, length, get_or, sym, ap, ◌∙◌, arith}
use Rattle.std.proofs.lemmas.List.{get_or_read}
use Rattle.page_alloc.specs.declared.life.Life.TheVariants.{Never}
use Rattle.page_alloc.specs.Runs.{use_at, use_of, at}
use Rattle.page_alloc.proofs.Sweeping.{swept_more}
use Rattle.page_alloc.proofs.Uses.{waiting_at, at_waiting}
use Rattle.page_alloc.proofs.sweep.sweep.Goals as goal

pub loop-place-preserved-then-not-is_pinned : goal.loop-place-preserved-then-not-is_pinned
loop-place-preserved-then-not-is_pinned c =
    let before = c.loop-place.runs in
    let after = c.release.new.self in
    let start = c.args.runs.now in
    let j = c.loop-place.place - 1 in
    let q = c.index-page.result.now in
    let within : j < length before.order.pages.items = omega arith in
    let more : j + 1 ≡ c.loop-place.place = omega arith in
    let sizes : length before.order.pages.items ≡ length c.args.lives.now = omega arith in
    let is : q ≡ at before.order.pages.items j = get_or_read before.order.pages.items j q within c.index-page.ensures 0 in
    let there : at before.order.places.items q ≡ j = ap (at before.order.places.items) is ∙ before.order.inverse.place_back j within in
    record {
      size = c.release.ensures.moves.size ∙ c.loop-place.invariant.size;
      left = omega arith;
      uses = swept_more c.args.pins.now (λ p. get_or c.args.lives.now p Never) (length c.args.lives.now) j after.starts.retired q (at before.order.places.items) (at after.order.places.items)
          (use_of start.starts start.order.places.items) (use_of before.starts before.order.places.items) (use_of after.starts after.order.places.items)
          (rw more c.loop-place.invariant.uses)
          (omega arith)
          (λ p lt same. sym (before.order.inverse.page_back p (omega (arith, lt))) ∙ ap (at before.order.pages.items) same ∙ sym is)
          (ap (use_at before.starts) there ∙ waiting_at before.starts j (omega arith) (omega arith))
          (sym c.is_pinned.ensures ∙ c.if-not-is_pinned.true)
          (λ p lt. c.release.ensures.moves.uses p (omega (arith, lt)))
          (λ p lt. c.release.ensures.waiting p (omega (arith, lt)))
          (λ p lt waits. at_waiting after.starts (at after.order.places.items p) waits);
    }
