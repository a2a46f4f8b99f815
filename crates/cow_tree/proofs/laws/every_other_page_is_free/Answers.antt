use Rattle.std.proofs.Common.{◌∙◌}
use Rattle.cow_tree.proofs.FreePages.{free_is, unreached_alone}
use Rattle.cow_tree.proofs.laws.every_other_page_is_free.Goals as goal

pub returns-clause-free : goal.returns-clause-free
returns-clause-free g c = λ honest.
    let k = c.args.keeper.now in
    free_is (g.D.Device.state k.device).disk.view k.slot k.ledger k.pinned k.fitted.rest k.pins.seals (k.pins_there honest) (k.there honest)

pub returns-clause-unpinned : goal.returns-clause-unpinned
returns-clause-unpinned g c = λ honest none.
    let k = c.args.keeper.now in
    let view = (g.D.Device.state k.device).disk.view in
    free_is view k.slot k.ledger k.pinned k.fitted.rest k.pins.seals (k.pins_there honest) (k.there honest) ∙ unreached_alone view k.slot k.pinned none
