use Rattle.std.proofs.Common.{◌≡◌, ℕ, List, [], Some, None, ap, sym, subst, ◌∙◌}
use Rattle.std.proofs.Props.{props}
use Rattle.std.specs.Prelude.{take, length}
use mathlib.Core.Logic.{∥∥₁_elim}
use Rattle.page_store.specs.Batch.{value_at}
use Rattle.page_store.specs.Sectors.{page_of}
use Rattle.page_store.specs.Content.{Bounds, walk}
use Rattle.cow_tree.specs.KeptPlaces.{ArePlaces}
use Rattle.cow_tree.specs.PinnedTrees.{bounds_at}
use Rattle.cow_tree.proofs.TreesAreMaps.{tree_map}
use Rattle.cow_tree.proofs.ValuesInLeaves.{value_of_run}
use Rattle.cow_tree.proofs.kept_reads.get_behind.Goals as goal

pub returns-clause-value : goal.returns-clause-value
returns-clause-value g c = λ keeps found is.
    let view = page_of (g.D.Device.state c.args.device.now).disk.view in
    let tree = c.args.tree in
    let page = c.in_ok-page.page in
    let kept = c.requires.kept keeps in
    let lent = c.in_ok-bytes.ensures keeps in
    let places = subst (λ (l : List ℕ). ArePlaces 0 l c.in_ok-kept.kept.now.count c.in_ok-kept.kept.now.at) lent (c.in_ok-kept.ensures view kept) in
    let same : IsProp (Some (take (length c.in_ok-stored.stored.now) c.put_in_front.new.buffer) ≡ value_at found.pairs c.args.key.now) = hlevel props in
    ∥∥₁_elim (c.in_ok-page.ensures view kept found is) same (λ leaf.
    let stands = subst (λ (b : Bounds). walk view b 0 page [] None ≡ Some leaf.leaf) (sym c.bounds.ensures.bounds) leaf.stands in
    let there = c.in_ok-stored.ensures.value view leaf.leaf lent places stands in
    ap (λ (v : List ℕ). Some v) c.put_in_front.ensures.front
    ∙ sym (value_of_run leaf.leaf.pairs found.pairs c.near-number.result (c.args.key.now, c.in_ok-stored.stored.now) (tree_map view (bounds_at tree) tree.height tree.tree found is) leaf.part.run there))
