use Rattle.std.proofs.Common.{rules, Option, sym, subst}
use Rattle.std.specs.Prelude.{IfSome}
use Rattle.cow_tree.specs.KeptPlaces.{IsLeafAt}
use Rattle.cow_tree.specs.declared.tree_root.TreeRoot.{TreeRoot}
use Rattle.cow_tree.proofs.kept_places.KeptPlaces.clear.Goals as goal

pub returns : goal.returns
returns c = λ view. record {
  pages = search rules;
  leaf = subst (λ (o : Option TreeRoot). IfSome o (λ root. IsLeafAt view root c.loop-at.self.leaf)) (sym c.loop-at.invariant.tree) tt;
}
