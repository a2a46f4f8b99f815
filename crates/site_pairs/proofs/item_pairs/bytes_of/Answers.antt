use Rattle.std.proofs.Common.{◌≡◌, ◌≤◌, ℕ, List, length, map, sym, subst, ap, ◌∙◌, arith}
use Rattle.std.specs.Prelude.{All}
use Rattle.std.proofs.lemmas.List.{take_all}
use Rattle.host_types.specs.declared.view.View.{View}
use Rattle.site_pairs.proofs.ItemPairs.{short_views}
use Rattle.site_pairs.proofs.item_pairs.bytes_of.Goals as goal

pub returns-clause-short : goal.returns-clause-short
returns-clause-short c =
    let views = c.args.views.now in
    let over = c.loop-view-test.false in
    let end = c.loop-view.auto.view-index-end in
    let e : c.loop-view.parts.items ≡ map (λ (v : View). v.bytes) views = c.loop-view.invariant ∙ ap (map (λ (v : View). v.bytes)) (take_all c.loop-view.view-index views (omega (arith, over, end))) in
    subst (λ (l : List (List ℕ)). All (λ p. length p ≤ 262144) l) (sym e) (short_views views c.requires)
