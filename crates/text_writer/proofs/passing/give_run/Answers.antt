use Rattle.std.proofs.Common.{◌≡◌, ◌+◌, ◌++◌, take, arith, refl}
use Rattle.std.proofs.lemmas.Grind.{common_steps}
use Rattle.text_writer.proofs.Pipes.{run_passed}
use Rattle.text_writer.proofs.passing.give_run.Goals as goal

pub returns-clause-given : goal.returns-clause-given
returns-clause-given c =
    let run = c.run_length-run in
    let given : take (c.args.at + run.result) c.copy_to.new.out ≡ take c.args.at c.args.out.now ++ take run.result (take c.min.result c.args.rest.now) = grind (arith, common_steps) in
    run_passed c.args.place c.args.rest.now _ c.args.out.now c.copy_to.new.out c.args.at c.min.result run.result refl run.ensures.run run.ensures.within given
