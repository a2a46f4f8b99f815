use Rattle.std.proofs.Common.{◌∙◌, arith}
use Rattle.cow_tree.proofs.FreePages.{free_is, unreached_alone}
use Rattle.cow_tree.proofs.PageCounts.{all_pages}
use Rattle.cow_tree.proofs.laws.each_page_is_free_or_reached.Goals as goal

pub returns : goal.returns
returns g c = λ honest none.
    let k = c.args.keeper.now in
    let view = (g.D.Device.state k.device).disk.view in
    let free = free_is view k.slot k.ledger k.pinned k.fitted.rest k.pins.seals (k.pins_there honest) (k.there honest) ∙ unreached_alone view k.slot k.pinned none in
    let least = k.fitted.least in
    let all = all_pages k.slot view (omega (arith, least)) (k.there honest).found_is in
    omega (arith, free, all)
