use Rattle.std.proofs.Common.{◌∙◌, sym, subst, ap, IsTrue}
use Rattle.page_store.specs.Work.{SyncsOnce, SyncsOnceAtMost, once_then, at_most_once}
use Rattle.cow_tree.specs.TreeSeen.{device_of, held}
use Rattle.cow_tree.specs.KeeperLaws.{crash_states_have_the_tree}
use Rattle.cow_tree.proofs.FreePages.{free_is, unreached_alone}
use Rattle.site_store.specs.Represented.{site_kept}
use Rattle.site_store.specs.Seen.{seen_site}
use Rattle.host_on_disk.proofs.Images.{kept_stands}
use Rattle.image_commands.specs.Lines.{checked_line}
use Rattle.image_commands.proofs.SyncedOnce.{synced_once}
use Rattle.image_commands.proofs.checking.check_image.Goals as goal

pub returns-in-Ok-checked-clause-checked : goal.returns-in-Ok-checked-clause-checked
returns-in-Ok-checked-clause-checked g c = λ honest.
    let opened = c.in-Ok.ensures.opened in
    let site = c.in-Ok.site in
    let keeper = site.keeper in
    let disk = (g.D.Device.state keeper.device).disk in
    let still = subst IsTrue (sym opened.honest) honest in
    let there = keeper.there still in
    let durable = keeper.durable still opened.usable in
    let has = crash_states_have_the_tree disk keeper.slot keeper.ledger keeper.top keeper.fitted.version there durable disk.view (g.met.D.Device.view_is_image keeper.device still) in
    record {
      site = seen_site site;
      stands = c.in-Ok.ensures.site honest;
      opened = keeper.device;
      no_new_crash_state = opened.at_crash honest;
      shows = kept_stands disk.view (held g.D.Device.state keeper).pairs keeper.slot.root.banner (seen_site site) has.0 keeper.fitted.version (site_kept (held g.D.Device.state keeper) site.kept still);
      slot = keeper.slot;
      current_is = durable.current_is;
      line_is = c.in-Ok-checked.ensures.line.gives still ∙ ap (λ n. checked_line (seen_site site) n keeper.slot.seal) (free_is disk.view keeper.slot keeper.ledger keeper.pinned keeper.fitted.rest keeper.pins.seals (keeper.pins_there still) there ∙ unreached_alone disk.view keeper.slot keeper.pinned opened.unpinned);
    }

pub into_keeper-requires : goal.into_keeper-requires
into_keeper-requires g c = record { unpinned = c.check_site-checked.ensures.line.only.kept.pins ∙ c.in-Ok.ensures.opened.none_pinned }

pub returns-in-Ok-checked-clause-work : goal.returns-in-Ok-checked-clause-work
returns-in-Ok-checked-clause-work g c =
    let state = g.D.Device.state in
    let back = c.into_device-device.ensures ∙ ap (λ k. device_of k) c.into_keeper.ensures.keeper in
    subst (λ d. SyncsOnce (state c.args.device).made (state d).made) (sym back) (once_then (synced_once _ (state c.args.device) (state c.in-Ok.site.keeper.device) c.in-Ok.ensures.opened.work) c.in-Ok-checked.ensures.work)

pub returns-in-Err-checked-clause-work_on_fault : goal.returns-in-Err-checked-clause-work_on_fault
returns-in-Err-checked-clause-work_on_fault g c =
    let state = g.D.Device.state in
    let back = c.into_device-device.ensures ∙ ap (λ k. device_of k) c.into_keeper.ensures.keeper in
    subst (λ d. SyncsOnceAtMost (state c.args.device).made (state d).made) (sym back) (at_most_once (once_then (synced_once _ (state c.args.device) (state c.in-Ok.site.keeper.device) c.in-Ok.ensures.opened.work) c.in-Err-checked.ensures.work))
