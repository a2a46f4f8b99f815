use Rattle.std.proofs.Common.{◌≡◌, ◌-◌, ◌+◌, ◌++◌, ◌∷◌, [], List, length, suc, sym, subst, ap, ◌∙◌, arith}
use Rattle.std.proofs.lemmas.List.{length-append}
use Rattle.host_types.specs.declared.card.CardView.{CardView}
use Rattle.site_records.specs.Field.{times, with_front}
use Rattle.site_records.specs.Reading.{view_at}
use Rattle.site_records.proofs.Loops.{times_more}
use Rattle.site_records.proofs.view_reading.views_by.Goals as goal

pub loop-preserved : goal.loop-preserved
loop-preserved c =
    let t = c.loop-test.true in
    let all = times view_at c.args.count c.args.bytes.now in
    let is : c.args.count - c.loop.counter ≡ suc (c.args.count - (c.loop.counter + 1)) = omega (arith, t) in
    let front : with_front (c.loop.views.items ++ c.in_ok-view.view ∷ []) (times view_at (c.args.count - (c.loop.counter + 1)) c.in_ok-view.behind.now) ≡ all = times_more view_at c.loop.views.items (c.args.count - c.loop.counter) (c.args.count - (c.loop.counter + 1)) c.in_ok-view.view c.loop.rest.now c.in_ok-view.behind.now all is c.in_ok-view.ensures c.loop.invariant.0 in
    let held = c.push.ensures.items in (
      subst (λ (l : List CardView). with_front l (times view_at (c.args.count - (c.loop.counter + 1)) c.in_ok-view.behind.now) ≡ all) (sym held) front,
      ap length held ∙ length-append c.loop.views.items (c.in_ok-view.view ∷ []) ∙ ap (λ n. n + 1) c.loop.invariant.1,
    )
