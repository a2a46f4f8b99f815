use Rattle.std.proofs.Common.{◌≡◌, IsTrue, Some, sym, refl, subst, ap, ◌∙◌, inl, inr, arith}
use Rattle.sector_device.specs.Disk.{Disk}
use Rattle.page_store.specs.Sectors.{Image, page_of}
use Rattle.page_store.specs.Flat.{flat_walk, half_size}
use Rattle.page_store.proofs.DeviceSequences.{still_honest, keeps_then_reads}
use Rattle.page_store.proofs.OpeningFinds.{no_half, no_map, is_content, half_fault, half_counts, half_not_small}
use Rattle.page_store.specs.Batch.{is_map}
use Rattle.page_store.proofs.flat_opening.open_parts.Goals as goal

pub returns-then-not-is_half-clause-opens : goal.returns-then-not-is_half-clause-opens
returns-then-not-is_half-clause-opens g c =
    let opened = c.in_ok-slot.ensures.opened in
    let opens = c.in_ok-slot.ensures.opens in
    record {
      device = opens.device;
      counts = tt;
      counts_fault = opens.counts;
      small = λ e. absurd (cc e);
      fault = (
        c.in_ok-slot.ensures.large,
        λ keeps.
            (c.in_ok-slot.slot, (opened.slot_is keeps, c.in_ok-slot.ensures.version), no_half (g.D.Device.state c.args.device.now).disk.view c.in_ok-slot.slot (opened.slot_is keeps) c.in_ok-slot.ensures.version (sym c.is_half.ensures ∙ c.if-not-is_half.true), inl refl),
      );
    }

pub returns-in-Err-clause-opens : goal.returns-in-Err-clause-opens
returns-in-Err-clause-opens g c =
    let old = g.D.Device.state c.args.device.now in
    let mid = g.D.Device.state c.open_slot.new.device in
    let new = g.D.Device.state c.read_half.new.device in
    let opened = c.in_ok-slot.ensures.opened in
    let opens = c.in_ok-slot.ensures.opens in
    let device = c.read_half.ensures.device in
    record {
      device = keeps_then_reads opens.device device;
      counts = tt;
      counts_fault = half_counts old mid new c.in-Err.fault opens.counts c.in-Err.ensures.reads device.only.writes;
      small = λ is. absurd (half_not_small c.in_ok-slot.slot mid.honest mid.failed_reads new.failed_reads _ c.in-Err.fault c.in-Err.ensures.fault is);
      fault = half_fault old mid new c.in_ok-slot.slot c.in-Err.fault c.in_ok-slot.ensures.large (still_honest old mid opens.device.same) opened.view opened.slot_is c.in_ok-slot.ensures.version opens.counts device.only.writes c.in-Err.ensures.fault;
    }

pub returns-then-not-is_map-clause-opens : goal.returns-then-not-is_map-clause-opens
returns-then-not-is_map-clause-opens g c =
    let opened = c.in_ok-slot.ensures.opened in
    let opens = c.in_ok-slot.ensures.opens in
    let least = c.in_ok-slot.ensures.fits.2.0 in
    let device = c.read_half.ensures.device in
    record {
      device = keeps_then_reads opens.device device;
      counts = tt;
      counts_fault = record { reads = c.in-Ok.ensures.reads ∙ opens.counts.reads; writes = device.only.writes ∙ opens.counts.writes };
      small = λ e. absurd (cc e);
      fault = (
        c.in_ok-slot.ensures.large,
        λ keeps.
            let keeps1 : IsTrue (g.D.Device.state c.open_slot.new.device).honest = subst IsTrue (sym opens.device.same.honest) keeps in
            let view : Image = (g.D.Device.state c.args.device.now).disk.view in
            let slot = c.in_ok-slot.slot in
            let walk : flat_walk (page_of view) slot.seal (half_size slot.root.pages) slot.root.tree 0 slot.root.keys ≡ Some c.in-Ok.pairs.items =
            subst (λ (i : Image). flat_walk (page_of i) slot.seal (half_size slot.root.pages) slot.root.tree 0 slot.root.keys ≡ Some c.in-Ok.pairs.items) (opened.view keeps) (c.in-Ok.ensures.pairs keeps1) in
            (slot, (opened.slot_is keeps, c.in_ok-slot.ensures.version), no_map view slot c.in-Ok.pairs.items (opened.slot_is keeps) c.in_ok-slot.ensures.version walk (sym c.is_half.ensures ∙ c.if-not-is_half.false) (ap is_map (sym c.deref.ensures.value) ∙ sym c.is_map.ensures ∙ c.if-not-is_map.true), inr (omega arith, omega (arith, least))),
      );
    }

pub returns-clause-opened : goal.returns-clause-opened
returns-clause-opened g c =
    let opened = c.in_ok-slot.ensures.opened in
    let keeps1 = λ (keeps : IsTrue (g.D.Device.state c.args.device.now).honest). let h : IsTrue (g.D.Device.state c.open_slot.new.device).honest = subst IsTrue (sym c.open_slot.ensures.opens.device.same.honest) keeps in h in
    let slot = c.in_ok-slot.slot in
    record {
      all = λ keeps i left. opened.all keeps i ((c.read_half.ensures.device.no_new_crash_state (keeps1 keeps)).now i left) ∙ sym (ap (λ (d : Disk). d.view) (c.read_half.ensures.device.only.disk (keeps1 keeps)));
      view = λ keeps. ap (λ (d : Disk). d.view) (c.read_half.ensures.device.only.disk (keeps1 keeps)) ∙ opened.view keeps;
      content_is = λ keeps.
          let view : Image = (g.D.Device.state c.args.device.now).disk.view in
          let walk : flat_walk (page_of view) slot.seal (half_size slot.root.pages) slot.root.tree 0 slot.root.keys ≡ Some c.in-Ok.pairs.items =
          subst (λ (i : Image). flat_walk (page_of i) slot.seal (half_size slot.root.pages) slot.root.tree 0 slot.root.keys ≡ Some c.in-Ok.pairs.items) (opened.view keeps) (c.in-Ok.ensures.pairs (keeps1 keeps)) in
          is_content view slot c.in-Ok.pairs.items (opened.slot_is keeps) c.in_ok-slot.ensures.version walk (sym c.is_half.ensures ∙ c.if-not-is_half.false) (ap is_map (sym c.deref.ensures.value) ∙ sym c.is_map.ensures ∙ c.if-not-is_map.false);
      top_is = λ keeps. opened.top_is keeps;
    }
