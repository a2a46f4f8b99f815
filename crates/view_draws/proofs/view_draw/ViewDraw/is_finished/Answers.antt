use Rattle.std.proofs.Common.{sym, ◌∙◌, arith}
use Rattle.std.proofs.lemmas.Bool.Decides.{nat_tests}
use Rattle.view_draws.specs.ViewDraw.{rest_of}
use Rattle.view_draws.proofs.WholeDraws.{head_left}
use Rattle.view_draws.proofs.view_draw.ViewDraw.is_finished.Goals as goal

pub returns-else-self-len : goal.returns-else-self-len
unfolding rest_of
returns-else-self-len c body size =
    let d = c.args.self.now in (
      (λ all. absurd (c.if-self-len.false (grind (arith, nat_tests)))),
      λ none. absurd (c.if-self-len.false (head_left d.head d.progress body d.within_head none ∙ sym c.len.ensures)),
    )
