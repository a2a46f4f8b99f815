use Rattle.std.proofs.Common.{◌∙◌}
use Rattle.page_store.proofs.Zeros.{zeros_moved}
use Rattle.page_store.proofs.reading.are_zero.Goals as goal

pub returns-then-first-eq0 : goal.returns-then-first-eq0
returns-then-first-eq0 c = c.eq.ensures ∙ zeros_moved c.args.bytes.now c.in-len1-up.len_at_least c.if-first-eq0.true
