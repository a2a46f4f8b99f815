use Rattle.std.proofs.Common.{◌≡◌, ◌-◌, ◌∙◌, ◌++◌, ◌∷◌, [], ap, refl, sym, arith}
use Rattle.std.specs.Prelude.{filter, max}
use Rattle.host_types.specs.Site.{post_selector}
use Rattle.image_items.proofs.Posted.{one_more, all_posts, fits}
use Rattle.image_items.proofs.posts.names_of_posts.Goals as goal

pub loop-number-preserved : goal.loop-number-preserved
loop-number-preserved c =
    let so_far = c.loop-number.invariant in (
      so_far.0,
      omega (arith, so_far.1),
      λ past. absurd (omega (arith, past, so_far.1, c.loop-number-test.true)),
      c.in_ok-add_name.ensures ∙ ap (λ ns. ns ++ filter fits (post_selector c.args.board.now c.loop-number.number ∷ [])) so_far.3 ∙ sym (one_more c.args.board.now c.max-first.result c.loop-number.number so_far.0 so_far.1),
    )

pub returns : goal.returns
returns c =
    let so_far = c.loop-number.invariant in
    let first : c.max-first.result ≡ max (c.args.next - c.args.cap) 1 = rw (c.max-first.ensures, c.saturating_sub.ensures, c.from.ensures) refl in
    so_far.3 ∙ all_posts c.args.board.now c.args.cap c.args.next c.max-first.result c.loop-number.number first c.loop-number-test.false c.loop-number.auto.number-end so_far.2
