use Rattle.std.proofs.Common.{◌≡◌, subst, sym, OnOk, rules}
use Rattle.std.specs.List.{All}
use Rattle.change_writer.specs.Said.{IsSaidView, IsSaidBody}
use Rattle.change_writer.proofs.bodies.with_body.Goals as goal

pub returns-in-Views-clause-said : goal.returns-in-Views-clause-said
returns-in-Views-clause-said c = rw c.in-Views.is (subst (λ vs. OnOk c.with_views.result (All IsSaidView vs)) c.as_slice.ensures c.with_views.ensures.said)

pub returns-in-Views-clause-unsaid : goal.returns-in-Views-clause-unsaid
returns-in-Views-clause-unsaid c err said =
    let is : All IsSaidView c.in-Views.views = subst IsSaidBody c.in-Views.is said in
    c.with_views.ensures.unsaid err (subst (λ vs. All IsSaidView vs) (sym c.as_slice.ensures) is)
