use Rattle.std.proofs.Common.{◌∙◌, [], take, arith, refl}
use Rattle.std.proofs.lemmas.Grind.{common_steps}
use Rattle.text_writer.proofs.Pipes.{byte_passed, given_on, unchanged_on}
use Rattle.text_writer.proofs.pipe.TextPipe.next.Goals as goal

pub loop-taken-init : goal.loop-taken-init
loop-taken-init c =
    let gave = c.give-given in
    let lines = c.pass_lines-lines in
    record {
      within_chunk = lines.ensures.taken;
      within = lines.ensures.within;
      passes = λ more. lines.ensures.given more ∙ given_on [] (take gave.result gave.new.out) c.args.self.now gave.new.self gave.ensures.given gave.ensures.place _;
      behind = lines.ensures.behind ∙ unchanged_on gave.result _ gave.new.out c.args.out.now (omega arith) gave.ensures.behind;
      progress = grind (arith, common_steps);
    }

pub loop-taken-preserved : goal.loop-taken-preserved
loop-taken-preserved c =
    let before = c.loop-taken.invariant in
    let gave = c.give-given-in-loop-taken in
    record {
      within_chunk = grind (arith, common_steps);
      within = gave.ensures.within;
      passes = byte_passed c.args.chunk.now _ _ c.loop-taken.taken _ c.args.self.now c.loop-taken.self c.take_byte.new.self gave.new.self c.loop-taken-test.true refl before.passes c.take_byte.ensures gave.ensures.given gave.ensures.place;
      behind = gave.ensures.behind ∙ unchanged_on c.loop-taken.given gave.result c.loop-taken.out c.args.out.now gave.ensures.onward before.behind;
      progress = grind (arith, common_steps);
    }
