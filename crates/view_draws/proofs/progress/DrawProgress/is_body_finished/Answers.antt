use Rattle.std.proofs.Common.{◌≡◌, ◌≤◌, [], ap, sym, ◌∙◌, drop, length, length-drop, arith}
use Rattle.std.proofs.lemmas.Bool.Decides.{nat_tests}
use Rattle.std.proofs.lemmas.List.{drop_all}
use Rattle.view_draws.specs.Progress.{given_by}
use Rattle.view_draws.proofs.Lefts.{none_for_any}
use Rattle.view_draws.proofs.progress.DrawProgress.is_body_finished.Goals as goal

pub returns-in-Some : goal.returns-in-Some
returns-in-Some c body size =
    let pipe = c.in-Some.pipe in
    let rest = drop c.args.self.now.taken body in (
      (λ finished. ap (λ o. given_by o rest) c.in-Some.is ∙ none_for_any pipe [] rest (c.is_finished.ensures.0 finished)),
      λ none. c.is_finished.ensures.1 (none_for_any pipe rest [] (sym (ap (λ o. given_by o rest) c.in-Some.is) ∙ none)),
    )

pub returns-in-None : goal.returns-in-None
returns-in-None c body size =
    let rest = drop c.args.self.now.taken body in (
      (λ all. ap (λ o. given_by o rest) c.in-None.is ∙ drop_all c.args.self.now.taken body (grind (arith, nat_tests))),
      λ none. let e : length rest ≡ 0 = ap length (sym (ap (λ o. given_by o rest) c.in-None.is) ∙ none) in
          let le : c.args.size ≤ c.args.self.now.taken = omega (arith, e, length-drop c.args.self.now.taken body, size) in
          grind (arith, nat_tests),
    )
