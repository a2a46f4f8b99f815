use Rattle.std.specs.Prelude.{true}
use Rattle.group_hub.specs.Calls.{HubRun}
use Rattle.group_hub.specs.Hub.{world_of}
use Rattle.host_on_disk.proofs.Runs.{handed_over}
use Rattle.image_runs.specs.ImageRuns.{OverSite}
use Rattle.image_server.proofs.OtherRuns.{run_too}
use Rattle.image_server.proofs.serving.serve_over.Goals as goal

pub returns-clause-served : goal.returns-clause-served
returns-clause-served g c =
    let s = g.S.SiteKeeper in
    let held = c.in-Ok.hub.site in
    let left = c.serve_on-served.new.hub.site in
    record {
      run = run_too (HubRun s.site_state s.lacks s.crash_states s.represents) (OverSite true s) c.in-Ok.hub c.serve_on-served.new.hub c.args.site c.close.result
          (λ events outcomes run. handed_over s.site_state s.lacks s.crash_states s.represents c.args.site held left c.close.result (world_of s.site_state c.in-Ok.hub) (world_of s.site_state c.serve_on-served.new.hub) true 1 events outcomes
          c.in-Ok.ensures.keeper c.in-Ok.ensures.world c.close.ensures.closed c.requires.usable run.calls run.at_crash)
          _ _ _ _
          (λ events outcomes serves. record {
            first = c.in-Ok.hub;
            last = c.serve_on-served.new.hub;
            keeper = c.in-Ok.ensures.keeper;
            world = c.in-Ok.ensures.world;
            serves = serves;
            closes = c.close.ensures.closed;
          })
          c.serve_on-served.ensures;
    }
