use Rattle.std.proofs.Common.{◌≡◌, take, sym, subst, ◌∙◌, rules}
use Rattle.std.specs.Prelude.{IsTrue}
use Rattle.view_draws.specs.Source.{viewed_by, IsViewOf}
use Rattle.view_draws.proofs.LaterReads.{still_honest, only_on}
use Rattle.view_draws.proofs.DrawingSteps.{given_on, passed_on, passed_at_end, same_on, viewed_same}
use Rattle.view_draws.proofs.drawing.draw_body.Goals as goal

pub loop-progress-preserved : goal.loop-progress-preserved
loop-progress-preserved g c =
    let site_state = g.S.SiteKeeper.site_state in
    let before = c.loop-progress.invariant in
    let a = site_state c.args.site.now in
    let b = site_state c.loop-progress.site in
    let pin = g.S.SiteKeeper.pinned c.args.pin.now in
    let body = viewed_by a pin c.args.source.now in
    let now = viewed_by b pin c.loop-progress.source in
    let new = c.draw_chunk.new in
    let step = c.in_ok-end.ensures in
    let same_body : now ≡ body = viewed_same a b pin c.args.source.now c.loop-progress.source before.only.kept before.same in
    let of_now = λ (honest : IsTrue a.honest) (of : IsViewOf body c.args.source.now). subst (λ bytes. IsViewOf bytes c.loop-progress.source) (sym same_body) (before.of honest of) in
    record {
      passed = passed_on c.args.source.now c.loop-progress.source c.args.progress.now c.loop-progress.progress new.progress c.args.out.now c.loop-progress.out new.out c.args.at c.loop-progress.end c.in_ok-end.end before.same before.passed step.gives.passed;
      same = same_on c.args.source.now c.loop-progress.source new.source before.same step.gives.same;
      only = only_on site_state g.S.SiteKeeper.lacks g.S.SiteKeeper.crash_states c.args.site.now c.loop-progress.site new.site before.only step.reads.only;
      none = step.reads.counts ∙ before.none;
      of = λ honest of. subst (λ bytes. IsViewOf bytes new.source) same_body (step.gives.still_of (still_honest a b before.only.kept honest) (of_now honest of));
      given = λ honest of.
          given_on now body (take c.args.at c.args.out.now) (take c.loop-progress.end c.loop-progress.out) (take c.in_ok-end.end new.out) c.args.progress.now c.loop-progress.progress new.progress same_body
          (step.gives.given (still_honest a b before.only.kept honest) (of_now honest of)) (before.given honest of);
    }

pub returns-clause-gives : goal.returns-clause-gives
returns-clause-gives g c =
    let end = c.finish.ensures in
    record {
      same = search rules;
      passed = passed_at_end c.args.source.now c.args.progress.now c.loop-progress.progress c.finish.new.self c.args.out.now c.loop-progress.out c.finish.new.out c.args.at c.loop-progress.end c.finish.result c.loop-progress.invariant.passed end.filled.onward end.filled.within end.filled.behind end.same.0 end.same.1;
      still_of = search rules;
      given = search rules;
    }
