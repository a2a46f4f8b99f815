use Rattle.std.proofs.Common.{sym, ◌∙◌}
use Rattle.cow_tree.proofs.PinnedTrees.{no_pins, no_trees}
use Rattle.cow_tree.proofs.pin_calls.TreeKeeperPinKeeper.is_unpinned.Goals as goal

pub returns : goal.returns
returns g c =
    let k = c.args.self.now in
    let view = (g.D.Device.state k.device).disk.view in
    let told = c.are_none.ensures in
    (λ none. no_pins view 0 k.pinned (sym told ∙ none), λ none. told ∙ no_trees view 0 k.pinned none)
