use Rattle.std.proofs.Common.{refl, sym, ap, ◌∙◌}
use Rattle.cow_tree.specs.TreeSeen.{device_of}
use Rattle.page_store.specs.Steps.{crash_states_of}
use Rattle.site_store.specs.Seen.{keeper_of, seen_site}
use Rattle.host_on_disk.proofs.Images.{valid_site}
use Rattle.host_on_disk.proofs.Openings.{no_memory}
use Rattle.host_on_disk.proofs.Runs.{ran_on}
use Rattle.image_runs.proofs.OtherRuns.{replays_too}
use Rattle.image_runs.proofs.replaying.replay_on.Goals as goal

pub returns-in-Ok-replay_over-clause-replayed : goal.returns-in-Ok-replay_over-clause-replayed
returns-in-Ok-replay_over-clause-replayed g c =
    let opened = c.in-Ok.ensures.opened in
    let back = c.into_device.ensures ∙ ap (λ k. device_of k) c.into_keeper.ensures.keeper in
    replays_too _ _ _ _ c.args.device c.into_device.result
    (λ events outcomes over. ran_on g.D.Device.state (λ d. device_of (keeper_of d)) _ _ (crash_states_of g.D.Device.moment g.D.Device.possible_since) (λ d. refl) c.args.device c.into_device.result c.in-Ok.site c.in-Ok-replay_over.site c.args.grouped 1 events outcomes
    (record { shows = c.in-Ok.ensures.site; alone = c.in-Ok.ensures.alone; counted = opened.counts; usable = opened.usable; no_new_crash_state = opened.at_crash; honest = opened.honest }) over back)
    _ _ _ _ _ c.in-Ok-replay_over.ensures.replayed

pub returns-in-Err-replay_over-clause-refused : goal.returns-in-Err-replay_over-clause-refused
returns-in-Err-replay_over-clause-refused g c =
    let state = g.D.Device.state in
    let opened = c.in-Ok.ensures.opened in
    let same = c.in-Err-replay_over.ensures.err in
    let back = c.into_device-in-Err-replay_over.ensures ∙ ap (λ k. device_of k) (c.into_keeper-in-Err-replay_over.ensures.keeper ∙ ap (λ d. keeper_of d) same.1) in
    record {
      caused = rw (same.0, back) (no_memory (state c.args.device) (state c.in-Ok.site.keeper.device) (seen_site c.in-Ok.site) opened.large opened.counts c.in-Ok.ensures.site);
      honest = rw back opened.honest;
      no_new_crash_state = rw back opened.at_crash;
    }

pub replay_over-requires-clause-valid : goal.replay_over-requires-clause-valid
replay_over-requires-clause-valid g c = λ is honest. valid_site _ _ (c.in-Ok.ensures.site (sym c.in-Ok.ensures.opened.honest ∙ honest))
