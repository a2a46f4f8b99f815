use Rattle.std.proofs.Common.{◌≡◌, ◌+◌, ◌-◌, ◌++◌, length, take}
use Rattle.std.specs.Prelude.{IsTrue}
use Rattle.host_types.specs.SiteCalls.{ReadsOnly}
use Rattle.view_draws.specs.Source.{viewed_by, IsViewOf, IsSameView}
use Rattle.view_draws.specs.Progress.{body_left}
use Rattle.view_draws.specs.Drawing.{HasPassedOn}
use Rattle.view_draws.proofs.drawing.draw_body.Given as goal

-- what was given so far and what is left are what was to be given, and no read has failed
abbrev pub invariant-loop-progress : goal.invariant-loop-progress
invariant-loop-progress g l =
    let site_state = g.S.SiteKeeper.site_state in
    let body = viewed_by (site_state l.fn.site) (g.S.SiteKeeper.pinned l.fn.pin) l.fn.source in
    record {
      passed : HasPassedOn l.fn.source l.fn.progress l.progress l.fn.out l.out l.fn.at l.end;
      same : IsSameView l.fn.source l.source;
      only : ReadsOnly site_state g.S.SiteKeeper.lacks g.S.SiteKeeper.crash_states l.fn.site l.site;
      none : (site_state l.site).failed_reads ≡ (site_state l.fn.site).failed_reads;
      of : IsTrue (site_state l.fn.site).honest → IsViewOf body l.fn.source → IsViewOf body l.source;
      given : IsTrue (site_state l.fn.site).honest → IsViewOf body l.fn.source → take l.end l.out ++ body_left l.progress body ≡ take l.fn.at l.fn.out ++ body_left l.fn.progress body;
    }

abbrev pub decreases-loop-progress : goal.decreases-loop-progress
decreases-loop-progress g l = (l.source.size - l.progress.taken) + (length l.out - l.end)
