use Rattle.std.proofs.Common.{◌≡◌, ◌⊎◌, ℕ, Bool, inr, true, refl, sym, ap, subst, ◌∙◌, IsTrue}
use Rattle.std.specs.String.{string_bytes}
use Rattle.common_types.specs.CrashStates.{AddsOnly, AddsNone, adds_none_again}
use Rattle.page_store.specs.Steps.{crash_states_of}
use Rattle.cow_tree.specs.TreeSeen.{held, device_of, slot_of, is_open}
use Rattle.cow_tree.specs.Compacting.{IsFilledTree, MayNeedFilled}
use Rattle.page_store.specs.Counting.{writes_after}
use Rattle.page_store.specs.StoreState.{HasStayed}
use Rattle.cow_tree.specs.KeeperLaws.{crash_states_have_the_tree}
use Rattle.cow_tree.proofs.FreePages.{free_is, unreached_alone}
use Rattle.site_store.specs.Represented.{RepresentedBy, site_kept}
use Rattle.site_store.specs.Seen.{seen_site}
use Rattle.host_on_disk.specs.ImageSites.{ImageRepresents}
use Rattle.host_on_disk.proofs.Images.{kept_stands}
use Rattle.page_store.specs.Pins.{none_out}
use Rattle.image_commands.specs.Compacted.{free_line, IsWrittenAnew, LacksRoom, IsNotWrittenAnew, MayHaveWritten}
use Rattle.image_commands.specs.Faults.{of_site}
use Rattle.image_commands.proofs.NotWritten.{not_written, may_have_written}
use Rattle.image_commands.proofs.compacting.compact_image.Goals as goal

pub returns-in-Ok-free_line-clause-kept : goal.returns-in-Ok-free_line-clause-kept
returns-in-Ok-free_line-clause-kept g c = λ honest.
    let states = crash_states_of g.D.Device.moment g.D.Device.possible_since in
    let opened = c.in-Ok.ensures.opened in
    let site = c.in-Ok.site in
    let still = subst IsTrue (sym opened.honest) honest in
    let back = c.into_device-device.ensures ∙ ap (λ k. device_of k) c.into_keeper-keeper.ensures.keeper in
    record {
      site = seen_site site;
      stands = c.in-Ok.ensures.site honest;
      alone = c.in-Ok.ensures.alone honest;
      opened = site.keeper.device;
      no_new_crash_state = opened.at_crash honest;
      at_crash = subst (λ d. AddsOnly (states site.keeper.device) (states d) (λ i. ImageRepresents i (seen_site site))) (sym back) (c.compact-compacted.ensures.at_crash.at_crash still opened.usable);
    }

pub returns-in-Ok-free_line-clause-shows : goal.returns-in-Ok-free_line-clause-shows
returns-in-Ok-free_line-clause-shows g c = λ honest.
    let state = g.D.Device.state in
    let opened = c.in-Ok.ensures.opened in
    let site = c.in-Ok.site in
    let written = c.compact-compacted.new.self in
    let still = subst IsTrue (sym opened.honest) honest in
    let same = c.into_keeper-keeper.ensures.keeper in
    let k = c.into_keeper-keeper.result in
    let before = subst IsTrue (sym c.compact-compacted.ensures.counts.tried.honest) still in
    let now = subst (λ x. IsTrue (state (device_of x)).honest) (sym same) before in
    let usable : k.usable ≡ true = ap (λ x. is_open x) same ∙ c.in-Ok-compacted.ensures.done.anew.done.usable in
    let disk = (state k.device).disk in
    let durable = k.durable now usable in
    let shown = subst (λ s. RepresentedBy (held state written.keeper) s) (c.compact-compacted.ensures.kept.site still) (site_kept (held state written.keeper) written.kept before) in
    let has = crash_states_have_the_tree disk k.slot k.ledger k.top k.fitted.version (k.there now) durable disk.view (g.met.D.Device.view_is_image k.device now) in
    let stands = kept_stands disk.view (held state k).pairs k.slot.root.banner (seen_site site) has.0 k.fitted.version (subst (λ x. RepresentedBy (held state x) (seen_site site)) (sym same) shown) in
    record { site = seen_site site; before = c.in-Ok.ensures.site honest; now = subst (λ d. ImageRepresents (state d).disk.view (seen_site site)) (sym c.into_device-device.ensures) stands }

pub returns-in-Ok-free_line-clause-anew : goal.returns-in-Ok-free_line-clause-anew
returns-in-Ok-free_line-clause-anew g c = λ honest.
    let state = g.D.Device.state in
    let opened = c.in-Ok.ensures.opened in
    let site = c.in-Ok.site in
    let written = c.compact-compacted.new.self in
    let still = subst IsTrue (sym opened.honest) honest in
    let same = c.into_keeper-keeper.ensures.keeper in
    let k = c.into_keeper-keeper.result in
    let before = subst IsTrue (sym c.compact-compacted.ensures.counts.tried.honest) still in
    let now = subst (λ x. IsTrue (state (device_of x)).honest) (sym same) before in
    let usable : k.usable ≡ true = ap (λ x. is_open x) same ∙ c.in-Ok-compacted.ensures.done.anew.done.usable in
    let disk = (state k.device).disk in
    let durable = k.durable now usable in
    let none = ap (λ x. (held state x).pins) same ∙ none_out (held state site.keeper) (held state written.keeper) c.in-Ok-compacted.ensures.done.anew.done.out opened.unpinned in
    subst (λ d. IsWrittenAnew (state d).disk.view (string_bytes c.in-Ok-free_line.line)) (sym c.into_device-device.ensures)
    (record {
      slot = k.slot;
      current_is = durable.current_is;
      filled = subst (λ x. IsFilledTree (slot_of x) (state (device_of x)).disk.view) (sym same) (c.in-Ok-compacted.ensures.done.anew.filled still);
      line_is = c.in-Ok-free_line.ensures ∙ ap free_line (c.figures-free.ensures.free ∙ free_is disk.view k.slot k.ledger k.pinned k.fitted.rest k.pins.seals (k.pins_there now) (k.there now) ∙ unreached_alone disk.view k.slot k.pinned none);
    })

pub returns-in-Err-free_line-clause-kept_on_fault : goal.returns-in-Err-free_line-clause-kept_on_fault
returns-in-Err-free_line-clause-kept_on_fault g c = λ honest.
    let states = crash_states_of g.D.Device.moment g.D.Device.possible_since in
    let opened = c.in-Ok.ensures.opened in
    let site = c.in-Ok.site in
    let still = subst IsTrue (sym opened.honest) honest in
    let back = c.into_device-device.ensures ∙ ap (λ k. device_of k) c.into_keeper-keeper.ensures.keeper in
    inr (record {
      site = seen_site site;
      stands = c.in-Ok.ensures.site honest;
      alone = c.in-Ok.ensures.alone honest;
      opened = site.keeper.device;
      no_new_crash_state = opened.at_crash honest;
      at_crash = subst (λ d. AddsOnly (states site.keeper.device) (states d) (λ i. ImageRepresents i (seen_site site))) (sym back) (c.compact-compacted.ensures.at_crash.at_crash still opened.usable);
    })

pub returns-in-Err-compacted-clause-kept_on_fault : goal.returns-in-Err-compacted-clause-kept_on_fault
returns-in-Err-compacted-clause-kept_on_fault g c = λ honest.
    let states = crash_states_of g.D.Device.moment g.D.Device.possible_since in
    let opened = c.in-Ok.ensures.opened in
    let site = c.in-Ok.site in
    let still = subst IsTrue (sym opened.honest) honest in
    let back = c.into_device-device.ensures ∙ ap (λ k. device_of k) c.into_keeper-keeper.ensures.keeper in
    inr (record {
      site = seen_site site;
      stands = c.in-Ok.ensures.site honest;
      alone = c.in-Ok.ensures.alone honest;
      opened = site.keeper.device;
      no_new_crash_state = opened.at_crash honest;
      at_crash = subst (λ d. AddsOnly (states site.keeper.device) (states d) (λ i. ImageRepresents i (seen_site site))) (sym back) (c.compact-compacted.ensures.at_crash.at_crash still opened.usable);
    })

pub returns-in-Err-compacted-clause-refused : goal.returns-in-Err-compacted-clause-refused
returns-in-Err-compacted-clause-refused g c =
    let state = g.D.Device.state in
    let opened = c.in-Ok.ensures.opened in
    let site = c.in-Ok.site in
    let written = c.compact-compacted.new.self in
    let fault = c.in-Err-compacted.ensures.fault.cause in
    let h0 = held state site.keeper in
    let h1 = held state written.keeper in
    let same = c.into_keeper-keeper.ensures.keeper in
    let k = c.into_keeper-keeper.result in
    let needs = MayNeedFilled (slot_of site.keeper) (state (device_of site.keeper)) in
    let room : (need free : ℕ) → HasStayed h0 h1 → free ≡ h0.free → (IsTrue h0.honest → needs need) → IsTrue (state c.args.device).honest → LacksRoom (state written.keeper.device).disk.view need free =
    λ need free stayed is may honest.
    let still = subst IsTrue (sym opened.honest) honest in
    let now : IsTrue (state k.device).honest = subst (λ x. IsTrue (state (device_of x)).honest) (sym same) (subst IsTrue (sym c.compact-compacted.ensures.counts.tried.honest) still) in
    let up : k.usable ≡ true = ap (λ x. is_open x) same ∙ stayed.usable ∙ opened.usable in
    let none = ap (λ x. (held state x).pins) same ∙ none_out h0 h1 stayed.out opened.unpinned in
    subst (λ x. LacksRoom (state (device_of x)).disk.view need free) same
    (record {
      slot = k.slot;
      current_is = (k.durable now up).current_is;
      needs = subst (λ x. MayNeedFilled (slot_of x) (state (device_of x)) need) (sym same) ((c.in-Err-compacted.ensures.fault.need stayed.usable).after need (may still)) now;
      free_is = is ∙ sym stayed.free ∙ sym (ap (λ x. (held state x).free) same) ∙ free_is (state k.device).disk.view k.slot k.ledger k.pinned k.fitted.rest k.pins.seals (k.pins_there now) (k.there now) ∙ unreached_alone (state k.device).disk.view k.slot k.pinned none;
    }) in
    let back = c.into_device-device.ensures ∙ ap (λ x. device_of x) same in
    let cause = not_written (state c.args.device) (state written.keeper.device) h0 h1 needs opened.honest opened.counts.reads opened.counts.writes refl refl (λ top honest. sym (opened.top honest) ∙ top) room fault.given fault.comes fault.reads
    (fault.writes ∙ ap (λ (u : Bool). writes_after u fault.given h0.failed_writes) opened.usable) in
    inr (opened.large, subst (λ d. IsNotWrittenAnew (state c.args.device) (state d) c.from-in-Err-compacted.result) (sym back) (subst (IsNotWrittenAnew (state c.args.device) (state written.keeper.device)) (sym (c.from-in-Err-compacted.ensures ∙ ap of_site fault.is)) cause))

pub into_keeper-keeper-requires : goal.into_keeper-keeper-requires
into_keeper-keeper-requires g c = record { unpinned = c.compact-compacted.ensures.kept.pins ∙ c.in-Ok.ensures.opened.none_pinned }

pub returns-in-Err-compacted-clause-no_new_crash_state : goal.returns-in-Err-compacted-clause-no_new_crash_state
returns-in-Err-compacted-clause-no_new_crash_state g c = λ honest.
    let state = g.D.Device.state in
    let states = crash_states_of g.D.Device.moment g.D.Device.possible_since in
    let opened = c.in-Ok.ensures.opened in
    let site = c.in-Ok.site in
    let written = c.compact-compacted.new.self in
    let still = subst IsTrue (sym opened.honest) honest in
    let fault = c.in-Err-compacted.ensures.fault.cause in
    let back = c.into_device-device.ensures ∙ ap (λ x. device_of x) c.into_keeper-keeper.ensures.keeper in
    let none = λ (up : (held state written.keeper).usable ≡ true).
    let same : AddsNone (states c.args.device) (states c.into_device-device.result) =
    subst (λ d. AddsNone (states c.args.device) (states d)) (sym back) (adds_none_again (states c.args.device) (states site.keeper.device) (states written.keeper.device) (opened.at_crash honest) (c.in-Err-compacted.ensures.at_crash.no_new_crash_state still up)) in
    same in
    subst (λ f. MayHaveWritten f ⊎ AddsNone (states c.args.device) (states c.into_device-device.result)) (sym (c.from-in-Err-compacted.ensures ∙ ap of_site fault.is))
    (may_have_written (held state site.keeper) (held state written.keeper) (MayNeedFilled (slot_of site.keeper) (state (device_of site.keeper))) fault.given opened.usable fault.comes none)
