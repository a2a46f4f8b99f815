use Rattle.std.proofs.Common.{arith}
use Rattle.ask_forms.proofs.Titles.{front_length}
use Rattle.ask_forms.proofs.title.front_of.Goals as goal

pub slice_bounds-result-end : goal.slice_bounds-result-end
slice_bounds-result-end c = front_length 69 c.args.line.now c.if-line-le-LONGEST_TITLE.false

pub returns-else-line-le-LONGEST_TITLE-clause-fits : goal.returns-else-line-le-LONGEST_TITLE-clause-fits
returns-else-line-le-LONGEST_TITLE-clause-fits c = omega (arith, front_length 69 c.args.line.now c.if-line-le-LONGEST_TITLE.false)
