use Rattle.tree_nodes.proofs.SupplyKeepsPairs.{supply_tree}
use Rattle.tree_nodes.proofs.laws.a_supply_keeps_the_pairs.Goals as goal

pub returns : goal.returns
returns c = λ tree old o level low high key n v w.
    let s = supply_tree tree old o level low high key n v w in
    record { read = s.0; opened = s.1; valid = s.2; pairs = s.3; owned = s.4 }
