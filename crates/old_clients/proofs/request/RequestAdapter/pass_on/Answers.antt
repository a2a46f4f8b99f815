use Rattle.std.proofs.Common.{◌≡◌, ◌+◌, ◌++◌, [], ap, sym, ◌∙◌, inl, inr, take, drop, length, length-drop, drop_of_length-le, arith}
use Rattle.std.proofs.lemmas.Grind.{common_steps}
use Rattle.old_clients.proofs.Hearings.{rest_given}
use Rattle.old_clients.proofs.request.RequestAdapter.pass_on.Goals as goal
use Rattle.old_clients.proofs.request.RequestAdapter.pass_on.Goals.{then-self-via-then-self, then-self-via-else-self+then-self-len}

pub returns-then-self-clause-progress : goal.returns-then-self-clause-progress
returns-then-self-clause-progress c =
    let inside = c.self.inside in
    elim c.then-self.branch [
      | then-self-via-then-self w ↦ inl (ap (λ a. a.hears) (sym c.self.view_is) ∙ w.if-self.true)
      | then-self-via-else-self+then-self-len w ↦ inr (inr (inr (λ none. (
          let left : length (drop inside.given inside.held.items) ≡ 0 = ap length (ap (λ a. a.held) c.self.view_is ∙ none) in
          absurd (omega (arith, left, length-drop inside.given inside.held.items, w.if-self-len.true, w.len.ensures.value))))))
    ]

pub returns-clause-given : goal.returns-clause-given
returns-clause-given c =
    let inside = c.self.inside in
    let count = c.min-count.result in
    let none : drop inside.given inside.held.items ≡ [] = drop_of_length-le inside.held.items (omega (arith, c.if-self-len.false, c.len.ensures.value)) in
    let given : take (c.args.at + count) c.copy_to.new.out ≡ take c.args.at c.args.out.now ++ take count c.args.rest.now = grind (arith, common_steps) in
    rest_given c.args.self.now c.args.rest.now c.args.out.now c.copy_to.new.out c.args.at count (ap (λ a. a.hears) (sym c.self.view_is) ∙ c.if-self.false) (ap (λ a. a.held) (sym c.self.view_is) ∙ none) given
