use Rattle.std.proofs.Common.{IsTrue, sym, subst, ap, ◌∙◌, arith}
use Rattle.sector_device.specs.Disk.{Disk}
use Rattle.sector_device.proofs.Works.{no_more_than}
use Rattle.page_store.specs.Sectors.{Image, page_of}
use Rattle.page_store.specs.Content.{tree_found}
use Rattle.page_store.specs.Counting.{CountsRefusal}
use Rattle.page_store.specs.declared.fault.KeeperFault.{KeeperFault}
use Rattle.page_store.proofs.DeviceSequences.{still_honest, keeps_then_reads}
use Rattle.cow_tree.specs.Opening.{IsReached, LivePagesAreWhole, IsTreeOpenFault}
use Rattle.cow_tree.proofs.Openings.{holds_now, walk_counts, walk_not_small, walk_fault}
use Rattle.cow_tree.proofs.WorkDone.{opened_once}
use Rattle.cow_tree.proofs.opening.open_parts.Goals as goal

pub returns-in-Ok-clause-opened : goal.returns-in-Ok-clause-opened
returns-in-Ok-clause-opened g c =
    let d = g.D.Device in
    let opened = c.in_ok-slot.ensures.opened in
    let keeps1 = λ (keeps : IsTrue (d.state c.args.device.now).honest). let h : IsTrue (d.state c.open_slot.new.device).honest = subst IsTrue (sym c.open_slot.ensures.opens.device.same.honest) keeps in h in
    let only = c.walk_slot.ensures.walks.reads.device in
    let slot = c.in_ok-slot.slot in
    record {
      all = λ keeps i left. opened.all keeps i ((only.no_new_crash_state (keeps1 keeps)).now i left) ∙ sym (ap (λ (x : Disk). x.view) (only.only.disk (keeps1 keeps)));
      view = λ keeps. ap (λ (x : Disk). x.view) (only.only.disk (keeps1 keeps)) ∙ opened.view keeps;
      holds = λ keeps. holds_now (d.state c.args.device.now).disk.view slot c.walk_slot.new.ledger (opened.slot_is keeps) c.in_ok-slot.ensures.slot.version
          (subst (λ (i : Image). IsReached (tree_found slot (page_of i)) slot c.walk_slot.new.ledger) (opened.view keeps) (c.in-Ok.ensures.found.found (keeps1 keeps)))
          (subst (λ (i : Image). LivePagesAreWhole i c.walk_slot.new.ledger) (opened.view keeps) (c.in-Ok.ensures.found.whole (keeps1 keeps)));
      top_is = λ keeps. opened.top_is keeps;
    }

pub returns-in-Err-clause-opens : goal.returns-in-Err-clause-opens
returns-in-Err-clause-opens g c =
    let d = g.D.Device in
    let old = d.state c.args.device.now in
    let mid = d.state c.open_slot.new.device in
    let new = d.state c.walk_slot.new.device in
    let opened = c.in_ok-slot.ensures.opened in
    let opens = c.in_ok-slot.ensures.opens in
    let reads = c.walk_slot.ensures.walks.reads.device in
    let walks = c.in-Err.ensures.walks in
    record {
      device = keeps_then_reads opens.device reads;
      counts = tt;
      counts_fault = subst (λ (e : KeeperFault). CountsRefusal e old new) (sym c.from.ensures) (walk_counts (Unit {0}) old mid new c.in-Err.fault opens.counts walks.reads.reads reads.only.writes);
      small = λ is. absurd (walk_not_small c.in-Err.fault (sym c.from.ensures ∙ is));
      fault =
          subst (λ (e : KeeperFault). IsTreeOpenFault old new e) (sym c.from.ensures)
          (walk_fault (Unit {0}) old mid new c.in_ok-slot.slot c.walk_slot.new.ledger c.in-Err.fault c.in_ok-slot.ensures.slot.large (still_honest old mid opens.device.same) opened.view opened.slot_is c.in_ok-slot.ensures.slot.version opens.counts walks.reads.reads reads.only.writes walks.named c.in-Err.ensures.found.found c.in-Err.ensures.found.named);
    }

pub returns-in-Ok-clause-work : goal.returns-in-Ok-clause-work
returns-in-Ok-clause-work g c = opened_once _ _ _ c.in_ok-ledger.ledger c.walk_slot.new.ledger c.in_ok-slot.slot.root.pages c.in_ok-slot.slot.seal c.in_ok-slot.ensures.work c.walk_slot.ensures.work c.in_ok-ledger.ensures.fresh

pub returns-in-Err-clause-work_on_fault : goal.returns-in-Err-clause-work_on_fault
returns-in-Err-clause-work_on_fault g c =
    let fits = c.in_ok-slot.ensures.slot.fits.2 in
    no_more_than (opened_once _ _ _ c.in_ok-ledger.ledger c.walk_slot.new.ledger c.in_ok-slot.slot.root.pages c.in_ok-slot.slot.seal c.in_ok-slot.ensures.work c.walk_slot.ensures.work c.in_ok-ledger.ensures.fresh).most (omega (arith, fits.0, fits.2)) (omega arith) (omega arith)
