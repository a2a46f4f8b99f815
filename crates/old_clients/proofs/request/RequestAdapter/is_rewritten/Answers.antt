use Rattle.std.proofs.Common.{◌≡◌, false, [], ap, sym, subst, ◌∙◌, refl}
use Rattle.std.specs.Prelude.{not}
use Rattle.old_clients.proofs.Hearings.{end_says, lacks_drop, state}
use Rattle.old_clients.specs.Streams.{will_rewrite}
use Rattle.old_clients.proofs.request.RequestAdapter.is_rewritten.Goals as goal

pub returns-else-not-self : goal.returns-else-not-self
returns-else-not-self c =
    let inside = c.self.inside in
    let waits = c.self.invariant.1 in
    ap not c.if-not-self.false ∙ subst (λ a. false ≡ will_rewrite a []) c.self.view_is
    (sym (waits c.if-not-self.false).2 ∙ end_says (state inside.hears inside.given inside.held.items inside.rewritten) inside.hears refl (λ hears. (lacks_drop inside.given inside.held.items (waits hears).0 (waits hears).1, (waits hears).2)))
