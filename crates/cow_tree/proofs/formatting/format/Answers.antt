use Rattle.std.proofs.Common.{◌≡◌, ◌≤◌, ◌<◌, ◌*◌, ◌^◌, ℕ, List, IsTrue, length, sym, subst, ◌∙◌, arith}
use Rattle.page_store.specs.Roots.{FitsDevice}
use Rattle.page_store.specs.Switch.{IsSlotPage}
use Rattle.page_store.specs.declared.commit.NewPage.{NewPage}
use Rattle.page_store.specs.declared.slot.Slot.{Slot}
use Rattle.page_store.proofs.Outcomes.{on_ok, counts_ok}
use Rattle.cow_tree.specs.Formatting.{first_pages, first_slot, IsFirstWritten}
use Rattle.cow_tree.proofs.FirstImages.{is_first, is_first_tree, has_content}
use Rattle.cow_tree.proofs.formatting.format.Goals as goal

-- the page of a slot that was made, on the device whose image has so many sectors
slot_page_is : (slot made : Slot) (root : List ℕ) (size long : ℕ) → made ≡ slot → long ≡ size
    → ((sectors : ℕ) → made.seal < 2 ^ 64 → FitsDevice sectors made.root → 0 < made.root.banner.port → IsSlotPage sectors made root)
    → slot.seal < 2 ^ 64 → FitsDevice size slot.root → 0 < slot.root.banner.port → IsSlotPage long slot root
slot_page_is slot made root size long is same page seal fits port =
    subst (λ (n : ℕ). IsSlotPage n slot root) (sym same)
    (subst (λ (s : Slot). ((sectors : ℕ) → s.seal < 2 ^ 64 → FitsDevice sectors s.root → 0 < s.root.banner.port → IsSlotPage sectors s root)) is page size seal fits port)

least : (g : _) (c : goal.After-drop-tree-2 g) → 16 ≤ c.args.pages
least g c = omega (arith, c.if-pages-lt-LEAST_PAGES.false)

page_is : (g : _) (c : goal.After-drop-tree-2 g) → IsTrue (g.D.Device.state c.args.device.now).honest → IsSlotPage (length (g.D.Device.state c.args.device.now).disk.view) (first_slot c.args.pages c.args.banner c.args.pairs.now) c.in_ok-root.root
page_is g c keeps =
    let d = g.met.D.Device in
    let state = g.D.Device.state c.args.device.now in
    let size : length state.disk.view ≡ state.size = (d.view_is_image c.args.device.now keeps).size ∙ d.base_has_size c.args.device.now keeps in
    let most : c.args.pages ≤ 65536 = omega (arith, c.if-pages-gt-MOST_PAGES.false) in
    let fits : 8 * c.args.pages ≤ state.size = omega (arith, c.if-from-sectors.false, c.from.ensures, c.sectors.ensures) in
    slot_page_is (first_slot c.args.pages c.args.banner c.args.pairs.now) c.first_slot.result c.in_ok-root.root state.size (length state.disk.view) c.first_slot.ensures size c.in_ok-root.ensures.valid (omega arith) (least g c, most, fits) c.requires.banner.port

written_is : (g : _) (c : goal.After-drop-tree-2 g) → IsTrue (g.D.Device.state c.args.device.now).honest → IsFirstWritten (first_pages c.args.pairs.now) c.in_ok-root.root (g.D.Device.state c.args.device.now).disk.view (g.D.Device.state c.write_first.new.device).disk.view
written_is g c keeps =
    let old = (g.D.Device.state c.args.device.now).disk.view in
    let new = (g.D.Device.state c.write_first.new.device).disk.view in
    let written = on_ok c.write_first.result c.is_err.result _ c.is_err.ensures.value c.if-is_err.false (c.write_first.ensures.written keeps) in
    subst (λ (p : List NewPage). IsFirstWritten p c.in_ok-root.root old new) (c.deref.ensures.value ∙ c.in_ok-tree.ensures) written.0

pub returns-clause-made : goal.returns-clause-made
returns-clause-made g c = record {
  content = λ keeps.
      has_content c.args.pages c.args.banner c.args.pairs.now c.in_ok-root.root _ _ (page_is g c keeps) (written_is g c keeps) c.requires.banner.version (least g c) c.requires.map c.requires.one_page;
  first = λ keeps. is_first c.args.pages c.args.banner c.args.pairs.now c.in_ok-root.root _ _ (page_is g c keeps) (written_is g c keeps);
  sure = λ keeps. (on_ok c.write_first.result c.is_err.result _ c.is_err.ensures.value c.if-is_err.false (c.write_first.ensures.written keeps)).1;
  fits = (least g c, omega (arith, c.if-pages-gt-MOST_PAGES.false), omega (arith, c.if-from-sectors.false, c.from.ensures, c.sectors.ensures));
  counts =
      let outcome = c.write_first.ensures.outcome in
      record { reads = outcome.reads; writes = counts_ok c.write_first.result c.is_err.result _ _ c.is_err.ensures.value c.if-is_err.false outcome.writes };
}

pub returns-clause-tree : goal.returns-clause-tree
returns-clause-tree g c = λ keeps. is_first_tree c.args.pages c.args.banner c.args.pairs.now c.in_ok-root.root _ _ (page_is g c keeps) (written_is g c keeps)
