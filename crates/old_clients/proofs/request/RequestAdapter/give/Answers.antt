use Rattle.std.proofs.Common.{◌≡◌, ◌+◌, ap, sym, ◌∙◌, take, drop, arith}
use Rattle.std.proofs.lemmas.Grind.{common_steps}
use Rattle.std.proofs.lemmas.List.{drop-drop}
use Rattle.old_clients.proofs.Hearings.{line_given, state}
use Rattle.old_clients.proofs.request.RequestAdapter.give.Goals as goal

pub returns-clause-given : goal.returns-clause-given
returns-clause-given c =
    let inside = c.self.inside in
    let count = c.min-count.result in
    let given : take count c.copy_to.new.out ≡ take count (drop inside.given inside.held.items) = grind (arith, common_steps) in
    let held : drop inside.given inside.held.items ≡ c.args.self.now.held = ap (λ a. a.held) c.self.view_is in
    line_given c.args.self.now (state inside.hears (inside.given + count) inside.held.items inside.rewritten) c.copy_to.new.out count (ap (λ a. a.hears) (sym c.self.view_is) ∙ c.if-self.false) c.if-self.false (given ∙ ap (take count) held)
    (sym (drop-drop count inside.given inside.held.items) ∙ ap (drop count) held)
