use Rattle.std.proofs.Common.{◌≡◌, ◌-◌, ◌+◌, ◌++◌, ◌∷◌, [], List, ℕ, length, suc, sym, subst, ap, ◌∙◌, arith}
use Rattle.std.proofs.lemmas.List.{length-append}
use Rattle.site_records.specs.Field.{times, with_front}
use Rattle.site_records.specs.Reading.{answer_at}
use Rattle.site_records.proofs.Loops.{times_more}
use Rattle.site_records.proofs.question_reading.choices_by.Goals as goal

pub loop-preserved : goal.loop-preserved
loop-preserved c =
    let t = c.loop-test.true in
    let all = times answer_at c.args.count c.args.bytes.now in
    let is : c.args.count - c.loop.counter ≡ suc (c.args.count - (c.loop.counter + 1)) = omega (arith, t) in
    let front : with_front (c.loop.choices.items ++ c.in_ok-choice.choice ∷ []) (times answer_at (c.args.count - (c.loop.counter + 1)) c.in_ok-choice.behind.now) ≡ all = times_more answer_at c.loop.choices.items (c.args.count - c.loop.counter) (c.args.count - (c.loop.counter + 1)) c.in_ok-choice.choice c.loop.rest.now c.in_ok-choice.behind.now all is c.in_ok-choice.ensures c.loop.invariant.0 in
    let held = c.push.ensures.items in (
      subst (λ (l : List (List ℕ)). with_front l (times answer_at (c.args.count - (c.loop.counter + 1)) c.in_ok-choice.behind.now) ≡ all) (sym held) front,
      ap length held ∙ length-append c.loop.choices.items (c.in_ok-choice.choice ∷ []) ∙ ap (λ n. n + 1) c.loop.invariant.1,
    )
