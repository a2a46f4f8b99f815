use Rattle.std.proofs.Common.{sym, arith}
use Rattle.std.proofs.lemmas.Grind.{common_steps}
use Rattle.std.proofs.lemmas.List.{length-take-le}
use Rattle.word_search.proofs.word.front.Goals as goal

pub slice_bounds-result-end : goal.slice_bounds-result-end
slice_bounds-result-end c = sym (length-take-le 32 c.args.run.now (grind (arith, common_steps)))

pub returns-else-run-le-LONGEST_WORD-clause-short : goal.returns-else-run-le-LONGEST_WORD-clause-short
returns-else-run-le-LONGEST_WORD-clause-short c =
    let size = length-take-le 32 c.args.run.now (grind (arith, common_steps)) in
    omega (arith, size)
