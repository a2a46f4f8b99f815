use Rattle.std.proofs.Common.{arith}
use Rattle.filled_images.proofs.FirstFilled.{pages_counted}
use Rattle.page_store.specs.declared.slot.Slot.{Slot}
use Rattle.std.proofs.Common.{ap}
use Rattle.filled_images.proofs.filled_image.FilledImage.free.Goals as goal

pub returns : goal.returns
returns c = λ count banner pairs made.
    let image = c.args.self.now in
    let many = pages_counted pairs image.pages.items image.slot.root.tree made.tree in
    let pages = ap (λ (s : Slot). s.root.pages) made.slot_is in
    let few = image.few in
    let all = c.from.ensures in
    let used = c.len.ensures in
    omega (arith, many, pages, few, all, used)
