use Rattle.std.proofs.Common.{◌≡◌, ◌≤◌, ◌<◌, ◌+◌, ◌*◌, ℕ, List, IsTrue, length, replicate, get_or, sym, subst, ap, ◌∙◌, arith, refl}
use Rattle.sector_device.proofs.Works.{exactly_then}
use Rattle.page_store.specs.Sectors.{Image}
use Rattle.page_store.specs.Steps.{AreWritten}
use Rattle.page_store.specs.Switch.{IsSlotPage, IsSwitched}
use Rattle.page_store.specs.Encoding.{flat_pages, by_pages, pages_needed}
use Rattle.page_store.specs.Commit.{ArePatched}
use Rattle.page_store.specs.declared.commit.NewPage.{NewPage}
use Rattle.page_store.specs.declared.slot.Slot.{Slot as SlotValue}
use Rattle.page_store.proofs.Outcomes.{on_ok, counts_ok, made_ok}
use Rattle.page_store.proofs.Flats.{page_number}
use Rattle.page_store.proofs.PairsByPage.{flat_pages_length}
use Rattle.page_store.proofs.FreshImages.{fresh_current, fresh_greatest, fresh_content}
use Rattle.page_store.proofs.Switches.{switched}
use Rattle.page_store.proofs.formatting.format_flat.Goals as goal

-- the page of a slot, written and made sure of
first_root : (slot : SlotValue) (bytes : List ℕ) (a b c : Image) (size : ℕ) → length a ≡ size → IsSlotPage size slot bytes → AreWritten (8 * slot.number) 8 bytes a b → c ≡ b → IsSwitched slot a c
first_root slot bytes a b c size long page root same = subst (λ (x : Image). IsSwitched slot a x) (sym same) (switched slot bytes a b (subst (λ n. IsSlotPage n slot bytes) (sym long) page) root)

pub write_pages-requires : goal.write_pages-requires
write_pages-requires g c = λ k n lt.
    let is : c.deref.result.now ≡ flat_pages 1 2 (by_pages c.args.pairs.now) = c.deref.ensures.value ∙ c.in_ok-tree.ensures in
    let at = page_number 1 2 (by_pages c.args.pairs.now) k n (subst (λ (l : List NewPage). k < length l) is lt) in
    let number : (get_or c.deref.result.now k n).number ≡ 2 + k = ap (λ (l : List NewPage). (get_or l k n).number) is ∙ at.0 in
    let one = c.requires.one_page in
    let a = c.if-from-sectors.false in
    let b = c.from.ensures in
    let e = c.sectors.ensures in
    let least = c.if-pages-lt-LEAST_PAGES.false in
    let size = c.write_page.ensures.sectors.outcome.same.size in
    omega (arith, number, at.1, one, a, b, e, least, size)

pub returns-clause-made : goal.returns-clause-made
returns-clause-made g c = record {
  content = λ keeps.
      let d = g.met.D.Device in
      let pages = c.in_ok-tree.tree.items in
      let pairs = c.args.pairs.now in
      let keeps1 : IsTrue (g.D.Device.state c.write_page.new.device).honest = subst IsTrue (sym c.write_page.ensures.sectors.outcome.same.honest) keeps in
      let keeps2 : IsTrue (g.D.Device.state c.write_pages.new.device).honest = subst IsTrue (sym c.write_pages.ensures.pages.outcome.same.honest) keeps1 in
      let slot : SlotValue = record { number = 0; seal = 1; root = record { pages = c.args.pages; tree = 2; height = 0; keys = length pairs; banner = c.args.banner } } in
      let size : (g.D.Device.state c.write_pages.new.device).size ≡ (g.D.Device.state c.args.device.now).size = c.write_pages.ensures.pages.outcome.same.size ∙ c.write_page.ensures.sectors.outcome.same.size in
      let least : 16 ≤ c.args.pages = omega (arith, c.if-pages-lt-LEAST_PAGES.false) in
      let most : c.args.pages ≤ 65536 = omega (arith, c.if-pages-gt-MOST_PAGES.false) in
      let fits : 8 * c.args.pages ≤ (g.D.Device.state c.write_pages.new.device).size = let a = c.if-from-sectors.false in let b = c.from.ensures in let e = c.sectors.ensures in omega (arith, a, b, e, size) in
      let page : IsSlotPage (g.D.Device.state c.write_pages.new.device).size slot c.in_ok-root.root = c.in_ok-root.ensures.valid (g.D.Device.state c.write_pages.new.device).size (omega arith) (least, most, fits) c.requires.port in
      let keeps3 : IsTrue (g.D.Device.state c.write_page-2.new.device).honest = subst IsTrue (sym c.write_page-2.ensures.sectors.outcome.same.honest) keeps2 in
      let long : length (g.D.Device.state c.write_pages.new.device).disk.view ≡ (g.D.Device.state c.write_pages.new.device).size = (d.view_is_image c.write_pages.new.device keeps2).size ∙ d.base_has_size c.write_pages.new.device keeps2 in
      let root = on_ok c.write_page-2.result c.is_err-3.result _ c.is_err-3.ensures.value c.if-is_err-3.false (c.write_page-2.ensures.sectors.shows keeps2) in
      let same = on_ok c.sync_all.result c.is_err-4.result _ c.is_err-4.ensures.value c.if-is_err-4.false (c.sync_all.ensures.shows keeps3) in
      let sure = on_ok c.sync_all.result c.is_err-4.result _ c.is_err-4.ensures.value c.if-is_err-4.false (c.sync_all.ensures.sure keeps3) in
      let done : IsSwitched slot (g.D.Device.state c.write_pages.new.device).disk.view (g.D.Device.state c.sync_all.new.device).disk.view =
      first_root slot c.in_ok-root.root _ _ _ _ long page root same in
      let view : g.row.D.Denot → Image = λ x. (g.D.Device.state x).disk.view in
      let cleared : AreWritten (8 * 1) 8 (replicate 4096 0) (view c.args.device.now) (view c.write_page.new.device) = on_ok c.write_page.result c.is_err.result _ c.is_err.ensures.value c.if-is_err.false (c.write_page.ensures.sectors.shows keeps) in
      let shown = on_ok c.write_pages.result c.is_err-2.result _ c.is_err-2.ensures.value c.if-is_err-2.false (c.write_pages.ensures.pages.shows keeps1) in
      let patch : ArePatched pages (view c.write_page.new.device) (view c.write_pages.new.device) = subst (λ (p : List NewPage). ArePatched p (view c.write_page.new.device) (view c.write_pages.new.device)) c.deref.ensures.value shown in
      let now = fresh_current slot (replicate 4096 0) (view c.args.device.now) (view c.write_page.new.device) (view c.write_pages.new.device) (view c.sync_all.new.device) pages pairs refl refl cleared c.in_ok-tree.ensures patch done in
      fresh_content slot (view c.write_page.new.device) (view c.write_pages.new.device) (view c.sync_all.new.device) pages pairs refl refl refl refl refl c.requires.version least most c.requires.map c.requires.one_page now c.in_ok-tree.ensures patch done;
  first = λ keeps.
      let d = g.met.D.Device in
      let pages = c.in_ok-tree.tree.items in
      let pairs = c.args.pairs.now in
      let keeps1 : IsTrue (g.D.Device.state c.write_page.new.device).honest = subst IsTrue (sym c.write_page.ensures.sectors.outcome.same.honest) keeps in
      let keeps2 : IsTrue (g.D.Device.state c.write_pages.new.device).honest = subst IsTrue (sym c.write_pages.ensures.pages.outcome.same.honest) keeps1 in
      let slot : SlotValue = record { number = 0; seal = 1; root = record { pages = c.args.pages; tree = 2; height = 0; keys = length pairs; banner = c.args.banner } } in
      let size : (g.D.Device.state c.write_pages.new.device).size ≡ (g.D.Device.state c.args.device.now).size = c.write_pages.ensures.pages.outcome.same.size ∙ c.write_page.ensures.sectors.outcome.same.size in
      let least : 16 ≤ c.args.pages = omega (arith, c.if-pages-lt-LEAST_PAGES.false) in
      let most : c.args.pages ≤ 65536 = omega (arith, c.if-pages-gt-MOST_PAGES.false) in
      let fits : 8 * c.args.pages ≤ (g.D.Device.state c.write_pages.new.device).size = let a = c.if-from-sectors.false in let b = c.from.ensures in let e = c.sectors.ensures in omega (arith, a, b, e, size) in
      let page : IsSlotPage (g.D.Device.state c.write_pages.new.device).size slot c.in_ok-root.root = c.in_ok-root.ensures.valid (g.D.Device.state c.write_pages.new.device).size (omega arith) (least, most, fits) c.requires.port in
      let keeps3 : IsTrue (g.D.Device.state c.write_page-2.new.device).honest = subst IsTrue (sym c.write_page-2.ensures.sectors.outcome.same.honest) keeps2 in
      let long : length (g.D.Device.state c.write_pages.new.device).disk.view ≡ (g.D.Device.state c.write_pages.new.device).size = (d.view_is_image c.write_pages.new.device keeps2).size ∙ d.base_has_size c.write_pages.new.device keeps2 in
      let root = on_ok c.write_page-2.result c.is_err-3.result _ c.is_err-3.ensures.value c.if-is_err-3.false (c.write_page-2.ensures.sectors.shows keeps2) in
      let same = on_ok c.sync_all.result c.is_err-4.result _ c.is_err-4.ensures.value c.if-is_err-4.false (c.sync_all.ensures.shows keeps3) in
      let sure = on_ok c.sync_all.result c.is_err-4.result _ c.is_err-4.ensures.value c.if-is_err-4.false (c.sync_all.ensures.sure keeps3) in
      let done : IsSwitched slot (g.D.Device.state c.write_pages.new.device).disk.view (g.D.Device.state c.sync_all.new.device).disk.view =
      first_root slot c.in_ok-root.root _ _ _ _ long page root same in
      let view : g.row.D.Denot → Image = λ x. (g.D.Device.state x).disk.view in
      let cleared : AreWritten (8 * 1) 8 (replicate 4096 0) (view c.args.device.now) (view c.write_page.new.device) = on_ok c.write_page.result c.is_err.result _ c.is_err.ensures.value c.if-is_err.false (c.write_page.ensures.sectors.shows keeps) in
      let shown = on_ok c.write_pages.result c.is_err-2.result _ c.is_err-2.ensures.value c.if-is_err-2.false (c.write_pages.ensures.pages.shows keeps1) in
      let patch : ArePatched pages (view c.write_page.new.device) (view c.write_pages.new.device) = subst (λ (p : List NewPage). ArePatched p (view c.write_page.new.device) (view c.write_pages.new.device)) c.deref.ensures.value shown in
      let now = fresh_current slot (replicate 4096 0) (view c.args.device.now) (view c.write_page.new.device) (view c.write_pages.new.device) (view c.sync_all.new.device) pages pairs refl refl cleared c.in_ok-tree.ensures patch done in
      let greatest = fresh_greatest slot (replicate 4096 0) (view c.args.device.now) (view c.write_page.new.device) (view c.write_pages.new.device) (view c.sync_all.new.device) pages pairs refl refl refl cleared c.in_ok-tree.ensures patch done in
      record { slot = slot; current_is = now; number = refl; seal = refl; greatest = greatest; size = refl };
  sure = λ keeps.
      let keeps1 : IsTrue (g.D.Device.state c.write_page.new.device).honest = subst IsTrue (sym c.write_page.ensures.sectors.outcome.same.honest) keeps in
      let keeps2 : IsTrue (g.D.Device.state c.write_pages.new.device).honest = subst IsTrue (sym c.write_pages.ensures.pages.outcome.same.honest) keeps1 in
      let keeps3 : IsTrue (g.D.Device.state c.write_page-2.new.device).honest = subst IsTrue (sym c.write_page-2.ensures.sectors.outcome.same.honest) keeps2 in
      on_ok c.sync_all.result c.is_err-4.result _ c.is_err-4.ensures.value c.if-is_err-4.false (c.sync_all.ensures.sure keeps3);
  fits = let a = c.if-from-sectors.false in let b = c.from.ensures in let e = c.sectors.ensures in (omega (arith, c.if-pages-lt-LEAST_PAGES.false), omega (arith, c.if-pages-gt-MOST_PAGES.false), omega (arith, a, b, e));
  counts = record {
    reads = c.sync_all.ensures.outcome.reads ∙ c.write_page-2.ensures.sectors.outcome.reads ∙ c.write_pages.ensures.pages.outcome.reads ∙ c.write_page.ensures.sectors.outcome.reads;
    writes = counts_ok c.sync_all.result c.is_err-4.result _ _ c.is_err-4.ensures.value c.if-is_err-4.false c.sync_all.ensures.outcome.writes
        ∙ counts_ok c.write_page-2.result c.is_err-3.result _ _ c.is_err-3.ensures.value c.if-is_err-3.false c.write_page-2.ensures.sectors.outcome.writes
        ∙ counts_ok c.write_pages.result c.is_err-2.result _ _ c.is_err-2.ensures.value c.if-is_err-2.false c.write_pages.ensures.pages.outcome.writes
        ∙ counts_ok c.write_page.result c.is_err.result _ _ c.is_err.ensures.value c.if-is_err.false c.write_page.ensures.sectors.outcome.writes;
  };
}

pub returns-clause-work : goal.returns-clause-work
returns-clause-work g c =
    let count : length c.deref.result.now ≡ pages_needed c.args.pairs.now = ap length (c.deref.ensures.value ∙ c.in_ok-tree.ensures) ∙ flat_pages_length 1 2 (by_pages c.args.pairs.now) in
    let cleared = made_ok c.write_page.result c.is_err.result c.is_err.ensures.value c.if-is_err.false c.write_page.ensures.work in
    let tree = made_ok c.write_pages.result c.is_err-2.result c.is_err-2.ensures.value c.if-is_err-2.false c.write_pages.ensures.work in
    let root = made_ok c.write_page-2.result c.is_err-3.result c.is_err-3.ensures.value c.if-is_err-3.false c.write_page-2.ensures.work in
    let all = exactly_then (exactly_then (exactly_then cleared tree) root) c.sync_all.ensures.work in
    record { reads = all.reads; writes = omega (arith, all.writes, count); syncs = all.syncs }
