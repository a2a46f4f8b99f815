use Rattle.std.proofs.Common.{◌⊎◌, inl, inr, ⊎_elim, sym, ap, subst, ◌∙◌, refl, arith}
use Rattle.std.specs.Prelude.{Ok}
use Rattle.common_types.specs.CrashStates.{AddsNone, adds_none_again}
use Rattle.page_store.specs.Pins.{none_out}
use Rattle.page_store.specs.Steps.{crash_states_of}
use Rattle.cow_tree.specs.KeeperLaws.{crash_states_have_the_tree}
use Rattle.cow_tree.specs.Needs.{MayNeed}
use Rattle.cow_tree.specs.TreeSeen.{device_of, held}
use Rattle.host_on_disk.specs.OpenFaults.{of_site}
use Rattle.host_on_disk.specs.Upgrades.{UpgradesDevice, IsNewAlready, KeepsEither}
use Rattle.host_on_disk.proofs.Images.{kept_stands}
use Rattle.host_on_disk.proofs.Openings.{keeper_refused, small_refused}
use Rattle.host_on_disk.proofs.Upgraded.{first_or_second, keeps, refused, usable_or_failed, same_done}
use Rattle.host_on_disk.proofs.upgrading.upgrade_on.Goals as goal

pub returns-in-Err-clause-refused : goal.returns-in-Err-clause-refused
returns-in-Err-clause-refused g c =
    let d = g.met.D.Device in
    let device = c.args.device in
    inl (
      rw c.of_keeper.ensures
          (keeper_refused (g.D.Device.state device) (g.D.Device.state c.in-Err.device) (λ honest. (d.view_is_image device honest).size ∙ d.base_has_size device honest) c.in-Err.fault c.in-Err.ensures.refused.cause c.in-Err.ensures.refused.counts),
      (c.in-Err.fault, c.of_keeper.ensures, c.in-Err.ensures.refused.cause),
    )

pub returns-in-Err-clause-small : goal.returns-in-Err-clause-small
returns-in-Err-clause-small g c = λ small.
    let is = small_refused g.D.Device.state c.args.device c.in-Err.device c.in-Err.fault c.in-Err.ensures.refused.cause c.in-Err.ensures.refused.small small in
    (c.of_keeper.ensures ∙ is.0, is.1)

pub returns-in-Ok-upgrade-clause-upgraded : goal.returns-in-Ok-upgrade-clause-upgraded
returns-in-Ok-upgrade-clause-upgraded g c = λ honest.
    let state = g.D.Device.state in
    let states = crash_states_of g.D.Device.moment g.D.Device.possible_since in
    let device = c.args.device in
    let opened = c.in-Ok.ensures.opened in
    let given = c.in-Ok-upgrade.ensures in
    let k = c.in-Ok.keeper in
    let now = c.in-Ok-upgrade.keeper in
    let count = c.in-Ok-upgrade.count in
    let still = opened.honest ∙ honest in
    let content = opened.content honest in
    subst (λ d. UpgradesDevice state states device d count ⊎ IsNewAlready state states device d count) (sym c.into_device.ensures)
    (⊎_elim
    (λ one.
    let done = given.done (λ two. omega (arith, one, two)) in
    let u = done.site still in
    let honest_now = done.honest ∙ still in
    let disk = (state now.device).disk in
    let durable = now.durable honest_now done.usable in
    inl (record {
      kept = keeps state states device k.device now.device (held state k).pairs k.slot.root.banner u.0 content k.fitted.version u.1 (opened.at_crash honest) (given.at_crash.at_crash still opened.usable u.0 u.1);
      now = kept_stands disk.view (held state now).pairs now.slot.root.banner u.0 (crash_states_have_the_tree disk now.slot now.ledger now.top now.fitted.version (now.there honest_now) durable disk.view (g.met.D.Device.view_is_image now.device honest_now)).0 now.fitted.version u.2;
      sure = λ image left. kept_stands image (held state now).pairs now.slot.root.banner u.0
          (crash_states_have_the_tree disk now.slot now.ledger now.top now.fitted.version (now.there honest_now) durable image (g.met.D.Device.crash_states_are_images now.device image honest_now left)).0 now.fitted.version u.2;
      count_is = u.3;
    }))
    (λ two.
    let same = same_done c.upgrade.result now k count 0 c.in-Ok-upgrade.is (c.upgrade.ensures.already opened.usable two) in
    inr (record {
      pairs = (held state k).pairs;
      banner = k.slot.root.banner;
      has = (content, k.fitted.version);
      version = two;
      no_new_crash_state = subst (λ x. AddsNone (states device) (states (device_of x))) (sym same.0) (opened.at_crash honest);
      none = same.1;
    }))
    (first_or_second k.slot.root.banner.version k.fitted.version))

pub returns-in-Err-upgrade-clause-kept : goal.returns-in-Err-upgrade-clause-kept
returns-in-Err-upgrade-clause-kept g c = λ honest.
    let state = g.D.Device.state in
    let states = crash_states_of g.D.Device.moment g.D.Device.possible_since in
    let device = c.args.device in
    let opened = c.in-Ok.ensures.opened in
    let given = c.in-Err-upgrade.ensures in
    let k = c.in-Ok.keeper in
    let now = c.in-Err-upgrade.keeper in
    let still = opened.honest ∙ honest in
    subst (λ d. AddsNone (states device) (states d) ⊎ KeepsEither state states device d) (sym c.into_device-in-Err-upgrade.ensures)
    (⊎_elim
    (λ up. inl (adds_none_again (states device) (states k.device) (states now.device) (opened.at_crash honest) (given.at_crash.no_new_crash_state still up)))
    (λ failed. let u = failed.1 still in inr (keeps state states device k.device now.device (held state k).pairs k.slot.root.banner u.0 (opened.content honest) k.fitted.version u.1 (opened.at_crash honest) (given.at_crash.at_crash still opened.usable u.0 u.1)))
    (usable_or_failed (held state k) (held state now) (λ batch need. MayNeed k.slot (state k.device) batch need) c.in-Err-upgrade.fault given.fault.cause opened.usable))

pub returns-in-Err-upgrade-clause-no_new_crash_state : goal.returns-in-Err-upgrade-clause-no_new_crash_state
returns-in-Err-upgrade-clause-no_new_crash_state g c = λ honest.
    let state = g.D.Device.state in
    let states = crash_states_of g.D.Device.moment g.D.Device.possible_since in
    let device = c.args.device in
    let opened = c.in-Ok.ensures.opened in
    let given = c.in-Err-upgrade.ensures in
    let k = c.in-Ok.keeper in
    let now = c.in-Err-upgrade.keeper in
    let still = opened.honest ∙ honest in
    ⊎_elim
    (λ up. inr (subst (λ d. AddsNone (states device) (states d)) (sym c.into_device-in-Err-upgrade.ensures) (adds_none_again (states device) (states k.device) (states now.device) (opened.at_crash honest) (given.at_crash.no_new_crash_state still up))))
    (λ failed. inl (c.of_site.ensures ∙ ap of_site failed.0))
    (usable_or_failed (held state k) (held state now) (λ batch need. MayNeed k.slot (state k.device) batch need) c.in-Err-upgrade.fault given.fault.cause opened.usable)

pub returns-in-Err-upgrade-clause-refused : goal.returns-in-Err-upgrade-clause-refused
returns-in-Err-upgrade-clause-refused g c =
    let state = g.D.Device.state in
    let device = c.args.device in
    let opened = c.in-Ok.ensures.opened in
    let k = c.in-Ok.keeper in
    let now = c.in-Err-upgrade.keeper in
    rw (c.of_site.ensures, c.into_device-in-Err-upgrade.ensures)
    (refused (state device) (state now.device) (held state k) (held state now) (λ batch need. MayNeed k.slot (state k.device) batch need)
    (record {
      large = opened.large;
      honest = λ honest. opened.honest ∙ honest;
      usable = opened.usable;
      reads = opened.counts.reads;
      writes = opened.counts.writes;
      content = opened.content;
      version = k.fitted.version;
    })
    (record {
      top = λ honest. sym (opened.top honest);
      height = λ honest. let there = opened.holds honest in (k.slot, there.found, there.content_is, refl);
    })
    (λ two. absurd (cc (c.upgrade.ensures.already opened.usable two, c.in-Err-upgrade.is)))
    refl refl c.in-Err-upgrade.fault c.in-Err-upgrade.ensures.fault)

pub into_device-requires : goal.into_device-requires
into_device-requires g c = record { unpinned = none_out (held g.D.Device.state c.in-Ok.keeper) (held g.D.Device.state c.in-Ok-upgrade.keeper) c.in-Ok-upgrade.ensures.out c.in-Ok.ensures.opened.unpinned }

pub into_device-requires-in-Err-upgrade : goal.into_device-requires-in-Err-upgrade
into_device-requires-in-Err-upgrade g c = record { unpinned = none_out (held g.D.Device.state c.in-Ok.keeper) (held g.D.Device.state c.in-Err-upgrade.keeper) c.in-Err-upgrade.ensures.out c.in-Ok.ensures.opened.unpinned }
