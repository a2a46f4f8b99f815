use Rattle.std.proofs.Common.{◌≡◌, IsTrue, OnOk, length, ℕ, sym, subst, ◌∙◌, arith, Result, Ok, Err}
use Rattle.sector_device.proofs.Works.{at_most, most_of, most_then, if_err, ok_then, no_more_than, exactly_then}
use Rattle.page_store.specs.Sectors.{Image}
use Rattle.page_store.specs.declared.slot.Slot.{Slot}
use Rattle.page_store.specs.Switch.{IsSlotPage, IsSwitching, IsSwitched}
use Rattle.page_store.specs.Steps.{crash_states_of, AllAre}
use Rattle.page_store.proofs.Switches.{page_switches, then_none_added, switched}
use Rattle.page_store.proofs.pages.switch_root.Goals as goal

both : {T E : Type 0} (r : Result T E) (slot : Slot) (a b c : Image) (A : Image → Type 0) → IsSwitched slot a b → OnOk r (c ≡ b) → OnOk r (A c) → OnOk r (IsSwitched slot a c × A c)
both (Ok _) slot a b c A h is all = (subst (λ (x : Image). IsSwitched slot a x) (sym is) h, all)
both (Err _) slot a b c A h is all = is

pub returns-in_err-write_page-clause-at_crash : goal.returns-in_err-write_page-clause-at_crash
returns-in_err-write_page-clause-at_crash g c =
    let d = g.met.D.Device in
    let device = c.args.device.now in
    let slot = c.args.slot.now in
    let now = crash_states_of g.D.Device.moment g.D.Device.possible_since in
    λ keeps.
    let a : Image = (g.D.Device.state device).disk.view in
    let size : length a ≡ (g.D.Device.state device).size = (d.view_is_image device keeps).size ∙ d.base_has_size device keeps in
    page_switches slot c.args.bytes.now a (now device) (now c.write_page.new.device)
    (subst (λ (n : ℕ). IsSlotPage n slot c.args.bytes.now) (sym size) (c.requires.page keeps)) (c.requires.above keeps) (c.requires.sure keeps) (c.write_page.ensures.sectors.leaves keeps)

pub returns-clause-at_crash : goal.returns-clause-at_crash
returns-clause-at_crash g c =
    let d = g.met.D.Device in
    let device = c.args.device.now in
    let slot = c.args.slot.now in
    let now = crash_states_of g.D.Device.moment g.D.Device.possible_since in
    λ keeps.
    let a : Image = (g.D.Device.state device).disk.view in
    let size : length a ≡ (g.D.Device.state device).size = (d.view_is_image device keeps).size ∙ d.base_has_size device keeps in
    let keeps1 : IsTrue (g.D.Device.state c.write_page.new.device).honest = subst IsTrue (sym c.write_page.ensures.sectors.outcome.same.honest) keeps in
    then_none_added (now device) (now c.write_page.new.device) (now c.sync_all.new.device) (IsSwitching slot a)
    (page_switches slot c.args.bytes.now a (now device) (now c.write_page.new.device)
    (subst (λ (n : ℕ). IsSlotPage n slot c.args.bytes.now) (sym size) (c.requires.page keeps)) (c.requires.above keeps) (c.requires.sure keeps) (c.write_page.ensures.sectors.leaves keeps))
    (c.sync_all.ensures.at_crash keeps1)

pub returns-clause-done : goal.returns-clause-done
returns-clause-done g c =
    let d = g.met.D.Device in
    let device = c.args.device.now in
    let slot = c.args.slot.now in
    let now = crash_states_of g.D.Device.moment g.D.Device.possible_since in
    λ keeps.
    let a : Image = (g.D.Device.state device).disk.view in
    let b : Image = (g.D.Device.state c.write_page.new.device).disk.view in
    let size : length a ≡ (g.D.Device.state device).size = (d.view_is_image device keeps).size ∙ d.base_has_size device keeps in
    let keeps1 : IsTrue (g.D.Device.state c.write_page.new.device).honest = subst IsTrue (sym c.write_page.ensures.sectors.outcome.same.honest) keeps in
    let h : IsSwitched slot a b = switched slot c.args.bytes.now a b (subst (λ (n : ℕ). IsSlotPage n slot c.args.bytes.now) (sym size) (c.requires.page keeps)) (c.in_ok-write_page.ensures.sectors.shows keeps) in
    both c.sync_all.result slot a b (g.D.Device.state c.sync_all.new.device).disk.view (AllAre (now c.sync_all.new.device)) h (c.sync_all.ensures.shows keeps1) (c.sync_all.ensures.sure keeps1)

pub returns-in_err-write_page-clause-work : goal.returns-in_err-write_page-clause-work
returns-in_err-write_page-clause-work g c =
    if_err c.from_residual.result c.from_residual.ensures.0 (no_more_than (most_of c.write_page.result c.write_page.ensures.work) (omega arith) (omega arith) (omega arith))
