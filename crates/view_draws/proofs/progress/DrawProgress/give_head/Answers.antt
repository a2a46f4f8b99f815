use Rattle.std.proofs.Common.{take, ap, sym, ◌∙◌, zero-add}
use Rattle.view_draws.specs.Progress.{body_left}
use Rattle.view_draws.proofs.Lefts.{given_of_head}
use Rattle.view_draws.proofs.Parts.{rest_is}
use Rattle.view_draws.proofs.progress.DrawProgress.give_head.Goals as goal

pub returns-clause-given : goal.returns-clause-given
returns-clause-given c body =
    let drawn = c.args.self.now.head_drawn in
    let m = c.pass_bytes-count.result in
    given_of_head drawn m c.args.head.now (body_left c.args.self.now body) (take m c.pass_bytes-count.new.out)
    (ap (λ n. take n c.pass_bytes-count.new.out) (sym (zero-add m)) ∙ c.pass_bytes-count.ensures.given ∙ ap (take m) (rest_is drawn c.args.head.now))
