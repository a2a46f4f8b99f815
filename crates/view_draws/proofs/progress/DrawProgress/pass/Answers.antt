use Rattle.std.proofs.Common.{◌+◌, take, drop, ap, sym, ◌++◌, ◌∙◌}
use Rattle.view_draws.specs.Progress.{given_by}
use Rattle.view_draws.proofs.Lefts.{given_as_bytes, given_as_text}
use Rattle.view_draws.proofs.progress.DrawProgress.pass.Goals as goal

pub returns-in-Some-clause-given : goal.returns-in-Some-clause-given
returns-in-Some-clause-given c body more next =
    let moved = c.pass_text-moved in
    given_as_text c.args.self.now.taken moved.result.taken body c.args.chunk.now more (take c.args.at c.args.out.now) (take (c.args.at + moved.result.given) moved.new.out) c.in-Some.pipe moved.new.pipe next moved.ensures.taken (moved.ensures.given more)
    ∙ ap (λ o. take c.args.at c.args.out.now ++ given_by o (drop c.args.self.now.taken body)) (sym c.in-Some.is)

pub returns-in-None-clause-given : goal.returns-in-None-clause-given
returns-in-None-clause-given c body more next =
    let count = c.pass_bytes-count in
    let given = take (c.args.at + count.result) count.new.out in
    ap (λ o. given ++ given_by o (drop (c.args.self.now.taken + count.result) body)) c.in-None.is
    ∙ given_as_bytes c.args.self.now.taken count.result body c.args.chunk.now more (take c.args.at c.args.out.now) given next count.ensures.taken count.ensures.given
    ∙ ap (λ o. take c.args.at c.args.out.now ++ given_by o (drop c.args.self.now.taken body)) (sym c.in-None.is)
