use Rattle.std.proofs.Common.{◌≡◌, ℕ, None, is_some, get_or, sym, ap, ◌∙◌, arith}
use Rattle.cow_tree.proofs.PinnedTrees.{out_at}
use Rattle.cow_tree.proofs.tree_keeper.TreeKeeper.tree_of.Goals as goal

pub unreachable-requires : goal.unreachable-requires
unreachable-requires g c =
    let k = c.args.self.now in
    let pin = c.args.pin.now in
    let none : get_or k.pinned pin None ≡ None = ap (λ (n : ℕ). get_or k.pinned n None) (sym c.number.ensures.number) ∙ c.in-None.is in
    absurd (cc (sym c.requires ∙ out_at (g.D.Device.state k.device).disk.view 0 pin pin k.pinned (omega arith) ∙ ap is_some none))
