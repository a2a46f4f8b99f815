use Rattle.group_hub.specs.Calls.{HubRun}
use Rattle.group_hub.specs.Hub.{world_of}
use Rattle.host_on_disk.proofs.Runs.{handed_over}
use Rattle.image_runs.specs.ImageRuns.{OverSite}
use Rattle.image_runs.proofs.OtherRuns.{replays_too}
use Rattle.image_runs.proofs.replaying.replay_over.Goals as goal

pub returns-clause-replayed : goal.returns-clause-replayed
returns-clause-replayed g c =
    let s = g.S.SiteKeeper in
    let held = c.in-Ok.hub.site in
    let left = c.replay-ended.new.hub.site in
    replays_too (HubRun s.site_state s.lacks s.crash_states s.represents) (OverSite c.args.grouped s) c.in-Ok.hub c.replay-ended.new.hub c.args.site c.close.result
    (λ events outcomes run. handed_over s.site_state s.lacks s.crash_states s.represents c.args.site held left c.close.result (world_of s.site_state c.in-Ok.hub) (world_of s.site_state c.replay-ended.new.hub) c.args.grouped 1 events outcomes
    c.in-Ok.ensures.keeper c.in-Ok.ensures.world c.close.ensures.closed c.requires.usable run.calls run.at_crash)
    _ _ _ _ _ (record { whole = c.replay-ended.ensures.run; halted = c.replay-ended.ensures.halted; led = c.replay-ended.ensures.ran })
