use Rattle.group_hub.specs.Hub.{world_of}
use Rattle.host_on_disk.proofs.Runs.{handed_over}
use Rattle.host_on_disk.proofs.on_disk.run_over.Goals as goal

pub returns-in-Ok-run-clause-ran : goal.returns-in-Ok-run-clause-ran
returns-in-Ok-run-clause-ran g c =
    let s = g.S.SiteKeeper in
    handed_over s.site_state s.lacks s.crash_states s.represents c.args.site c.in-Ok.hub.site c.run.new.self.site c.close.result (world_of s.site_state c.in-Ok.hub) (world_of s.site_state c.run.new.self) c.args.grouped c.args.first c.args.events.now c.in-Ok-run.outcomes
    c.in-Ok.ensures.keeper c.in-Ok.ensures.world c.close.ensures.closed c.requires.usable c.in-Ok-run.ensures.run.calls c.in-Ok-run.ensures.run.at_crash
