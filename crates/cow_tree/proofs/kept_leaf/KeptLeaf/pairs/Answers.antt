use Rattle.std.proofs.Common.{ℕ, List, drop, ap, ◌∙◌, arith, length-drop}
use Rattle.std.proofs.lemmas.List.{take_all}
use Rattle.tree_nodes.specs.PageViews.{pairs_in}
use Rattle.cow_tree.proofs.kept_leaf.KeptLeaf.pairs.Goals as goal

pub returns : goal.returns
returns c =
    let bytes = c.self.inside.bytes in
    let size = c.self.told in
    c.of_entries.ensures ∙ ap (λ (l : List ℕ). pairs_in c.self.inside.count l) (take_all 4072 (drop 24 bytes) (omega (arith, length-drop 24 bytes, size))) ∙ c.self.view_is
