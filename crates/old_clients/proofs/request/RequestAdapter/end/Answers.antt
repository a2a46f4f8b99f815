use Rattle.std.proofs.Common.{◌≡◌, ◌++◌, [], drop, subst, refl}
use Rattle.old_clients.proofs.Hearings.{end_passes, end_says, lacks_drop, state}
use Rattle.old_clients.specs.Streams.{will_pass, will_rewrite}
use Rattle.old_clients.proofs.request.RequestAdapter.end.Goals as goal

pub returns-clause-passes : goal.returns-clause-passes
returns-clause-passes c =
    let inside = c.self.inside in
    let waits = c.self.invariant.1 in
    subst (λ a. drop inside.given inside.held.items ++ [] ≡ will_pass a []) c.self.view_is
    (end_passes (state inside.hears inside.given inside.held.items inside.rewritten) inside.hears refl (λ hears. lacks_drop inside.given inside.held.items (waits hears).0 (waits hears).1))

pub returns-clause-rewrites : goal.returns-clause-rewrites
returns-clause-rewrites c =
    let inside = c.self.inside in
    let waits = c.self.invariant.1 in
    subst (λ a. inside.rewritten ≡ will_rewrite a []) c.self.view_is
    (end_says (state inside.hears inside.given inside.held.items inside.rewritten) inside.hears refl (λ hears. (lacks_drop inside.given inside.held.items (waits hears).0 (waits hears).1, (waits hears).2)))
