use Rattle.std.proofs.Common.{sym, ap, subst}
use Rattle.std.specs.Prelude.{true}
use Rattle.group_hub.specs.Calls.{HubRun}
use Rattle.group_hub.specs.Hub.{world_of}
use Rattle.host_on_disk.proofs.Runs.{handed_over}
use Rattle.image_runs.specs.ImageRuns.{OverSite}
use Rattle.host_types.specs.SiteState.{SiteState}
use Rattle.daily_server.specs.Rounds.{HasServed}
use Rattle.image_server.proofs.OtherRuns.{run_too}
use Rattle.image_server.proofs.daily_serving.serve_clients_over.Goals as goal

pub returns-clause-served : goal.returns-clause-served
returns-clause-served g c =
    let s = g.S.SiteKeeper in
    let held = c.in-Ok.hub.site in
    let left = c.serve_in_hub-ended.new.hub.site in
    run_too (HubRun s.site_state s.lacks s.crash_states s.represents) (OverSite true s) c.in-Ok.hub c.serve_in_hub-ended.new.hub c.args.site c.close.result
    (λ events outcomes run. handed_over s.site_state s.lacks s.crash_states s.represents c.args.site held left c.close.result (world_of s.site_state c.in-Ok.hub) (world_of s.site_state c.serve_in_hub-ended.new.hub) true 1 events outcomes
    c.in-Ok.ensures.keeper c.in-Ok.ensures.world c.close.ensures.closed c.requires.usable run.calls run.at_crash)
    _ _ _ _
    -- to end the hub leaves whether its site is usable
    (λ events outcomes served. subst (λ usable. HasServed g.L.Write.contents g.O.Office.lets_wait g.O.Office.works c.args.terms c.serve_in_hub-ended.result usable (c.args.service.now, c.args.log.now, c.args.watch.now.read.readings, c.args.office.now) events outcomes (c.serve_in_hub-ended.new.service, c.serve_in_hub-ended.new.log, c.serve_in_hub-ended.new.watch.read.readings, c.serve_in_hub-ended.new.office)) (sym (ap (λ (h : SiteState). h.usable) c.close.ensures.closed.keeper.same)) served)
    c.serve_in_hub-ended.ensures
