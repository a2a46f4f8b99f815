use Rattle.std.proofs.Common.{◌≡◌, ap, sym, ◌∙◌, drop, length, length-set, slice_set}
use Rattle.std.proofs.lemmas.List.{take_at}
use Rattle.old_clients.specs.AdaptedRequest.{adapted_line}
use Rattle.old_clients.proofs.Hearings.{line_held}
use Rattle.old_clients.proofs.request.RequestAdapter.end_line.Goals as goal
use Rattle.old_clients.proofs.request.RequestAdapter.end_line.Goals.{in-Some, in_default}

pub returns-clause-line : goal.returns-clause-line
returns-clause-line c =
    let inside = c.self.inside in
    let none = (c.self.invariant.1 (ap (λ a. a.hears) c.self.view_is ∙ c.requires)).0 in
    let held = ap (λ a. a.held) c.self.view_is in
    elim c.match-sign_of.branch [
      | in-Some w ↦ (
          let sign = w.in-Some.ensures.found in
          let line = slice_set w.as_mut_slice.result.now w.in-Some.at 43 in
          let size : length line ≡ length inside.held.items = length-set w.as_mut_slice.result.now w.in-Some.at 43 ∙ ap length w.as_mut_slice.ensures.value in
          ap (λ s. drop s.given s.held.items) w.self-inside-is
          ∙ ap (drop inside.given) (take_at line _ _ size)
          ∙ line_held inside.given inside.held.items c.args.self.now.held line none held
          (ap (λ l. slice_set l w.in-Some.at 43) (w.as_mut_slice.ensures.value ∙ sym c.as_slice.ensures.value) ∙ sign.adapted ∙ ap adapted_line c.as_slice.ensures.value))
      | in_default w ↦ (
          let other = w.in_default.ensures.none in
          ap (λ s. drop s.given s.held.items) w.self-inside-is
          ∙ line_held inside.given inside.held.items c.args.self.now.held inside.held.items none held
          (sym c.as_slice.ensures.value ∙ sym other.same ∙ ap adapted_line c.as_slice.ensures.value))
    ]
