use Rattle.std.proofs.Common.{◌∙◌, arith}
use Rattle.std.proofs.lemmas.Grind.{common_steps}
use Rattle.text_writer.proofs.Pipes.{lines_on, unchanged_on}
use Rattle.text_writer.proofs.passing.give_lines.Goals as goal

pub loop-taken-preserved : goal.loop-taken-preserved
loop-taken-preserved c =
    let before = c.loop-taken.invariant in
    let line = c.give_line-line in
    record {
      within_rest = grind (arith, common_steps);
      onward = omega arith;
      within = line.ensures.within;
      given = lines_on c.args.start c.loop-taken.place line.result.place c.args.rest.now _ _ _ _ c.loop-taken.taken line.result.taken (grind (arith, common_steps)) before.given line.ensures.given;
      behind = line.ensures.behind ∙ unchanged_on c.loop-taken.end line.result.end c.loop-taken.out c.args.out.now line.ensures.onward before.behind;
    }
