use Rattle.std.proofs.Common.{IsTrue, sym, subst, ap, ◌∙◌, inr, arith}
use Rattle.sector_device.specs.Device.{OneCounted}
use Rattle.sector_device.specs.Disk.{Disk}
use Rattle.page_store.specs.Sectors.{Image}
use Rattle.page_store.specs.Roots.{current, greatest_seal}
use Rattle.page_store.proofs.Outcomes.{on_ok, counts_err}
use Rattle.cow_tree.proofs.opening.open_slot.Goals as goal

pub returns-clause-opened : goal.returns-clause-opened
returns-clause-opened g c =
    let keeps1 = λ (keeps : IsTrue (g.D.Device.state c.args.device.now).honest). let h : IsTrue (g.D.Device.state c.sync_all.new.device).honest = subst IsTrue (sym c.sync_all.ensures.outcome.same.honest) keeps in h in
    let synced = λ (keeps : IsTrue (g.D.Device.state c.args.device.now).honest). on_ok c.sync_all.result c.is_err.result _ c.is_err.ensures.value c.if-is_err.false (c.sync_all.ensures.shows keeps) in
    let sure = λ (keeps : IsTrue (g.D.Device.state c.args.device.now).honest). on_ok c.sync_all.result c.is_err.result _ c.is_err.ensures.value c.if-is_err.false (c.sync_all.ensures.sure keeps) in
    record {
      all = λ keeps i left. sure keeps i ((c.tree_slot.ensures.device.no_new_crash_state (keeps1 keeps)).now i left) ∙ sym (ap (λ (d : Disk). d.view) (c.tree_slot.ensures.device.only.disk (keeps1 keeps)));
      view = λ keeps. ap (λ (d : Disk). d.view) (c.tree_slot.ensures.device.only.disk (keeps1 keeps)) ∙ synced keeps;
      slot_is = λ keeps. ap current (sym (synced keeps)) ∙ c.in_ok-found.ensures.found.slot_is (keeps1 keeps);
      top_is = λ keeps. ap (λ (i : Image). greatest_seal i 16) (sym (synced keeps)) ∙ c.in_ok-found.ensures.found.top_is (keeps1 keeps);
    }

pub returns-then-is_err-clause-opens : goal.returns-then-is_err-clause-opens
returns-then-is_err-clause-opens g c =
    let outcome = c.sync_all.ensures.outcome in
    let one : OneCounted (g.D.Device.state c.args.device.now) (g.D.Device.state c.sync_all.new.device) = inr (outcome.reads, counts_err c.sync_all.result c.is_err.result _ _ c.is_err.ensures.value c.if-is_err.true outcome.writes) in
    record {
      device = record { same = outcome.same; no_new_crash_state = c.sync_all.ensures.at_crash };
      counts = tt;
      counts_fault = one;
      small = λ e. absurd (cc e);
      fault = (omega (arith, c.sectors.ensures, c.if-sectors-lt128.false), one);
    }
