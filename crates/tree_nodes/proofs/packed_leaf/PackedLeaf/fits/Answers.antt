use Rattle.std.proofs.Common.{arith}
use Rattle.std.proofs.lemmas.Bool.{leb-true, le-leb}
use Rattle.tree_nodes.proofs.PackedEntries.{packed_sizes}
use Rattle.tree_nodes.proofs.packed_leaf.PackedLeaf.fits.Goals as goal

pub returns : goal.returns
returns c =
    let sizes = packed_sizes c.self.inside.count c.self.inside.bytes.items c.args.self.now c.self.invariant c.self.view_is in (
      λ t. (sizes.1, omega (arith, leb-true c.len.result 4072 t, sizes.0, c.len.ensures, c.self.inside.bytes.ok)),
      λ w. le-leb c.len.result 4072 (omega (arith, w.1, sizes.0, c.len.ensures, c.self.inside.bytes.ok)),
    )
