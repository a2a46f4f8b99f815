use Rattle.std.proofs.Common.{arith, ◌∙◌, refl, subst, sym, rules, IsTrue}
use Rattle.cow_tree.specs.TreeSeen.{held}
use Rattle.host_on_disk.proofs.Images.{one_site, kept_stands}
use Rattle.page_store.specs.Pins.{none_out}
use Rattle.site_store.proofs.PinsKept.{no_site_pins}
use Rattle.host_on_disk.proofs.Openings.{keeper_refused, small_refused, site_refused}
use Rattle.host_on_disk.proofs.OpeningRead.{opened_once, refused_once}
use Rattle.host_on_disk.proofs.opening.open_site.Goals as goal

pub returns-in-Err-clause-refused : goal.returns-in-Err-clause-refused
returns-in-Err-clause-refused g c =
    let d = g.met.D.Device in
    let device = c.args.device in
    record {
      caused = rw c.of_keeper.ensures
          (keeper_refused (g.D.Device.state device) (g.D.Device.state c.in-Err.device) (λ honest. (d.view_is_image device honest).size ∙ d.base_has_size device honest) c.in-Err.fault c.in-Err.ensures.refused.cause c.in-Err.ensures.refused.counts);
      honest = c.in-Err.ensures.refused.handed_back.1;
      no_new_crash_state = c.in-Err.ensures.refused.at_crash;
    }

pub returns-in-Err-clause-small : goal.returns-in-Err-clause-small
returns-in-Err-clause-small g c = λ small.
    let is = small_refused g.D.Device.state c.args.device c.in-Err.device c.in-Err.fault c.in-Err.ensures.refused.cause c.in-Err.ensures.refused.small small in
    (c.of_keeper.ensures ∙ is.0, is.1)

pub returns-in-Err-open-clause-refused : goal.returns-in-Err-open-clause-refused
returns-in-Err-open-clause-refused g c =
    let state = g.D.Device.state in
    let k = c.in-Ok.keeper in
    let back = c.in-Err-open.keeper in
    let opened = c.in-Ok.ensures.opened in
    let refused = site_refused (state c.args.device) (state back.device) (held state k) (held state back) (record {
      large = opened.large;
      honest = λ honest. opened.honest ∙ honest;
      usable = opened.usable;
      reads = opened.counts.reads;
      writes = opened.counts.writes;
      content = opened.content;
      version = k.fitted.version;
    }) refl c.in-Err-open.ensures.handed_back.read.writes c.in-Err-open.fault c.in-Err-open.ensures.fault in
    record {
      caused = rw (c.of_site.ensures, c.into_device.ensures) refused;
      honest = search (rules, c.into_device.ensures, c.in-Err-open.ensures.handed_back, opened.honest);
      no_new_crash_state = λ honest. search (rules, c.into_device.ensures, c.in-Err-open.ensures.handed_back, opened.at_crash honest);
    }

pub returns-in-Ok-open-clause-site : goal.returns-in-Ok-open-clause-site
returns-in-Ok-open-clause-site g c =
    let k = c.in-Ok.keeper in
    λ honest. kept_stands (g.D.Device.state c.args.device).disk.view (held g.D.Device.state k).pairs k.slot.root.banner _ (c.in-Ok.ensures.opened.content honest) k.fitted.version (c.in-Ok-open.ensures.site (subst IsTrue (sym c.in-Ok.ensures.opened.honest) honest))

pub returns-in-Ok-open-clause-alone : goal.returns-in-Ok-open-clause-alone
returns-in-Ok-open-clause-alone g c =
    let k = c.in-Ok.keeper in
    let view = (g.D.Device.state c.args.device).disk.view in
    λ honest s stands. one_site view s _ stands (kept_stands view (held g.D.Device.state k).pairs k.slot.root.banner _ (c.in-Ok.ensures.opened.content honest) k.fitted.version (c.in-Ok-open.ensures.site (subst IsTrue (sym c.in-Ok.ensures.opened.honest) honest)))

pub into_device-requires : goal.into_device-requires
into_device-requires g c = record { unpinned = none_out (held g.D.Device.state c.in-Ok.keeper) (held g.D.Device.state c.in-Err-open.keeper) c.in-Err-open.ensures.handed_back.read.same.out c.in-Ok.ensures.opened.unpinned }

pub returns-in-Err-clause-work_on_fault : goal.returns-in-Err-clause-work_on_fault
returns-in-Err-clause-work_on_fault g c =
    let made = c.in-Err.ensures.refused.work in
    record { reads = made.reads.0; writes = omega (arith, made.writes.0, made.writes.1); syncs = made.syncs }

pub returns-in-Err-open-clause-work_on_fault : goal.returns-in-Err-open-clause-work_on_fault
returns-in-Err-open-clause-work_on_fault g c =
    let state = g.D.Device.state in
    rw c.into_device.ensures (refused_once _ (state c.args.device) (state c.in-Ok.keeper.device) (state c.in-Err-open.keeper.device) c.in-Ok.ensures.opened.work c.in-Err-open.ensures.handed_back.read.same.calls)

pub returns-in-Ok-open-clause-opened : goal.returns-in-Ok-open-clause-opened
returns-in-Ok-open-clause-opened g c =
    let state = g.D.Device.state in
    let k = c.in-Ok.keeper in
    let site = c.in-Ok-open.site in
    let tree = c.in-Ok.ensures.opened in
    let opened = c.in-Ok-open.ensures.opened in
    let same = opened.only.read.same in
    let none = none_out (held state k) (held state site.keeper) same.out tree.unpinned in
    record {
      top = λ honest. same.top ∙ tree.top honest;
      usable = opened.usable;
      unpinned = none;
      none_pinned = no_site_pins (held state site.keeper) site.kept none;
      large = tree.large;
      work = opened_once (state c.args.device) (state k.device) (state site.keeper.device) k.slot.root.pages (held state k) (held state site.keeper) k.fitted.least tree.fits tree.work opened.work same.keys same.height;
      counts = search (rules, tree.counts, opened.reads, opened.only.read);
      at_crash = λ honest. search (rules, tree.at_crash honest, opened.only, tree.honest);
      honest = search (rules, tree.honest, opened.only.read);
    }
