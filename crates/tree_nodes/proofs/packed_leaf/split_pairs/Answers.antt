use Rattle.std.proofs.Common.{refl, arith}
use Rattle.tree_nodes.proofs.PackedEntries.{rest_inside, cut_packed}
use Rattle.tree_nodes.proofs.packed_leaf.split_pairs.Goals as goal

pub overflow_sub-bytes : goal.overflow_sub-bytes
overflow_sub-bytes c = rest_inside c.args.count c.args.bytes.now c.in_ok-rest.rest.now c.in_ok-rest.ensures

pub returns : goal.returns
returns c =
    let cut = cut_packed c.args.count c.args.bytes.now c.in_ok-rest.rest.now _ (λ i. omega (arith, c.type_inv.bytes i)) c.in_ok-rest.ensures refl in
    record { parts = c.in_ok-rest.ensures; pairs = rw c.split_at.ensures.front cut.again; packed = rw c.split_at.ensures.front cut.packed }
