use Rattle.std.proofs.Common.{◌≡◌, ℕ, sym, ap, not, ◌∙◌}
use Rattle.std.specs.Prelude.{◌==◌}
use Rattle.std.specs.BTreeMap.{is_at}
use Rattle.common_types.specs.ByteOrder.{byte_cmp}
use Rattle.tree_nodes.specs.PageViews.{pairs_in}
use Rattle.tree_nodes.specs.PackedEntries.{bytes_of_first}
use Rattle.tree_nodes.proofs.PackedKeys.{none_there}
use Rattle.tree_nodes.proofs.packed_leaf.PackedLeaf.has.Goals as goal

pub returns : goal.returns
returns c =
    let test = is_at (byte_cmp c.args.key.now) in
    let there : c.place_of-size.result.1 ≡ bytes_of_first test c.args.self.now = c.place_of-size.ensures.there ∙ ap (bytes_of_first test) (ap (pairs_in c.self.inside.count) c.deref.ensures.value ∙ c.self.view_is) in
    ap (λ (n : ℕ). not (n == 0)) there ∙ sym (none_there c.args.key.now c.args.self.now)
