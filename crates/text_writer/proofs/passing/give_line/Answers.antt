use Rattle.std.proofs.Common.{◌∙◌, ◌+◌, arith}
use Rattle.text_writer.proofs.Pipes.{unchanged_on}
use Rattle.text_writer.proofs.passing.give_line.Goals as goal

pub returns-clause-behind : goal.returns-clause-behind
returns-clause-behind c =
    let byte = c.give_byte-end in
    let run = c.give_run-run in
    run.ensures.behind ∙ unchanged_on byte.result (byte.result + run.result) byte.new.out c.args.out.now (omega arith) byte.ensures.behind
