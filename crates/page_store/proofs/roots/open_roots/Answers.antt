use Rattle.std.proofs.Common.{◌≡◌, ℕ, length, sym, ap, ◌∙◌, arith, refl}
use Rattle.page_store.specs.Sectors.{Image}
use Rattle.page_store.specs.Roots.{slot_in}
use Rattle.page_store.proofs.SectorRows.{slot_in-same, greatest_seal-same}
use Rattle.page_store.proofs.roots.open_roots.Goals as goal

pub returns-clause-roots : goal.returns-clause-roots
returns-clause-roots g c =
    let d = g.met.D.Device in
    let device = c.args.device.now in
    let view : Image = (g.D.Device.state device).disk.view in
    let slots = c.in_ok-read_slots.ensures.sectors in
    record {
      gives = λ keeps.
          let size : length view ≡ (g.D.Device.state device).size = (d.view_is_image device keeps).size ∙ d.base_has_size device keeps in
          let reads = slots.gives keeps in
          let total : c.sectors-total.result ≡ length view = c.sectors-total.ensures ∙ slots.outcome.only.same.size ∙ sym size in
          let first : slot_in c.sectors-total.result c.read_slots.new.sectors 0 ≡ slot_in (length view) view 0 = ap (λ (n : ℕ). slot_in n c.read_slots.new.sectors 0) total ∙ slot_in-same (length view) c.read_slots.new.sectors view 0 (λ k low high. sym (reads k (omega arith))) in
          let second : slot_in c.sectors-total.result c.read_slots.new.sectors 1 ≡ slot_in (length view) view 1 = ap (λ (n : ℕ). slot_in n c.read_slots.new.sectors 1) total ∙ slot_in-same (length view) c.read_slots.new.sectors view 1 (λ k low high. sym (reads k (omega arith))) in
          (c.current_of.ensures.current ∙ rw (first, second) refl, c.greatest_seal.ensures ∙ sym (greatest_seal-same _ _ 16 reads));
      outcome = record { only = slots.outcome.only; reads = slots.outcome.reads; fault = tt };
      no_new_crash_state = slots.no_new_crash_state;
    }
