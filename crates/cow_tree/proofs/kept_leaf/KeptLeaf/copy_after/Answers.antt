use Rattle.std.proofs.Common.{◌≡◌, List, None, drop, sym, ap, ◌∙◌, take, rules}
use Rattle.page_store.specs.Pages.{Pair}
use Rattle.page_store.specs.Batch.{pair_after}
use Rattle.tree_nodes.specs.PageViews.{pairs_in}
use Rattle.cow_tree.specs.KeptLeaves.{pairs_from}
use Rattle.cow_tree.specs.declared.kept_leaf.Place.{Place}
use Rattle.cow_tree.proofs.LeafPlaces.{first_is, place_tells, reached_pair}
use Rattle.cow_tree.proofs.kept_leaf.KeptLeaf.copy_after.Goals as goal

pub invariant_of-self : goal.invariant_of-self
invariant_of-self c =
    let bytes = c.self.inside.bytes in
    let all = pairs_in c.self.inside.count (drop 24 bytes) in
    let first = first_is bytes c.first_place-first.result.at c.first_place-first.result.left c.self.inside.count c.first_place-first.ensures.at c.first_place-first.ensures.left in
    let from = place_tells (λ (p : Place). pairs_from bytes p.at p.left) c.self.inside.last c.first_place-first.result all c.self.invariant first c.args.after.now c.place_by.result c.unwrap_or-from.result c.place_by.ensures.place c.unwrap_or-from.ensures in
    from.1 (take c.in_ok-place.sizes.0 c.copy_from.new.key, take c.in_ok-place.sizes.1 c.copy_from.new.value) (pairs_from bytes c.in_ok-place.place.at c.in_ok-place.place.left) c.in_ok-place.ensures.reached

pub returns-clause-copied : goal.returns-clause-copied
returns-clause-copied c =
    let bytes = c.self.inside.bytes in
    let all = pairs_in c.self.inside.count (drop 24 bytes) in
    let first = first_is bytes c.first_place-first.result.at c.first_place-first.result.left c.self.inside.count c.first_place-first.ensures.at c.first_place-first.ensures.left in
    let from = place_tells (λ (p : Place). pairs_from bytes p.at p.left) c.self.inside.last c.first_place-first.result all c.self.invariant first c.args.after.now c.place_by.result c.unwrap_or-from.result c.place_by.ensures.place c.unwrap_or-from.ensures in
    record {
      within = search rules;
      is =
          sym (reached_pair c.args.after.now (take c.in_ok-place.sizes.0 c.copy_from.new.key, take c.in_ok-place.sizes.1 c.copy_from.new.value) (pairs_from bytes c.in_ok-place.place.at c.in_ok-place.place.left)
          (pairs_from bytes c.unwrap_or-from.result.at c.unwrap_or-from.result.left) c.in_ok-place.ensures.reached)
          ∙ sym from.0 ∙ ap (λ (l : List Pair). pair_after l c.args.after.now) c.self.view_is;
      key = search rules;
      value = search rules;
    }

pub returns-in_err-place-clause-copied : goal.returns-in_err-place-clause-copied
returns-in_err-place-clause-copied c =
    let bytes = c.self.inside.bytes in
    let all = pairs_in c.self.inside.count (drop 24 bytes) in
    let first = first_is bytes c.first_place-first.result.at c.first_place-first.result.left c.self.inside.count c.first_place-first.ensures.at c.first_place-first.ensures.left in
    let from = place_tells (λ (p : Place). pairs_from bytes p.at p.left) c.self.inside.last c.first_place-first.result all c.self.invariant first c.args.after.now c.place_by.result c.unwrap_or-from.result c.place_by.ensures.place c.unwrap_or-from.ensures in
    let none : c.from_residual.result ≡ None = c.from_residual.ensures in
    rw none (record {
      within = tt;
      is = sym c.in_err-place.ensures.reached ∙ sym from.0 ∙ ap (λ (l : List Pair). pair_after l c.args.after.now) c.self.view_is;
      key = c.in_err-place.ensures.key;
      value = c.in_err-place.ensures.value;
    })
