use Rattle.std.proofs.Common.{◌≡◌, ◌++◌, ap, ◌∙◌, arith, refl, true, false}
use Rattle.std.proofs.lemmas.Grind.{common_steps}
use Rattle.text_writer.proofs.ClientReads.{client_reads}
use Rattle.text_writer.proofs.Joins.{given_text}
use Rattle.text_writer.specs.Place.{given_from}
use Rattle.text_writer.proofs.Runs.{further}
use Rattle.text_writer.proofs.whole.text.Goals as goal
use Rattle.text_writer.specs.Text.{client, text}

pub loop-at-init : goal.loop-at-init
loop-at-init c = (omega arith, ap (λ l. l ++ given_from (record { at_start = true; held = false }) c.args.body.now) c.in_ok-sent.ensures.items ∙ given_text c.args.body.now)

pub loop-at-preserved : goal.loop-at-preserved
loop-at-preserved c =
    further c.args.body.now c.loop-at.sent.items _ _ c.loop-at.place _ _ c.loop-at.at c.run_length-run.result _ _ (omega (arith, c.loop-at-test.true)) refl refl c.after-place.ensures c.run_length-run.ensures.run c.behind_run-place.ensures c.run_length-run.ensures.within
    (c.in_ok-extend_from_slice.ensures.items ∙ ap (λ l. c.loop-at.sent.items ++ l) (c.as_slice.ensures.value ∙ c.emitted.ensures.bytes)) c.in_ok-extend_from_slice-2.ensures.items (c.loop-at.invariant).1

pub returns-clause-client : goal.returns-clause-client
returns-clause-client c =
    let sent : c.from.result ≡ text c.args.body.now = grind (arith, common_steps) in
    ap client sent ∙ client_reads c.args.body.now
