use Rattle.std.proofs.Common.{◌≡◌, List, None, drop, sym, ap, ◌∙◌, take, rules}
use Rattle.page_store.specs.Pages.{Pair}
use Rattle.tree_nodes.specs.PageViews.{pairs_in}
use Rattle.cow_tree.specs.KeptLeaves.{pairs_from, next_in}
use Rattle.cow_tree.specs.declared.kept_leaf.Place.{Place}
use Rattle.cow_tree.proofs.LeafPlaces.{first_is, behind_tells, behind_after, reached_pair, next_begins}
use Rattle.cow_tree.proofs.kept_leaf.KeptLeaf.copy_next.Goals as goal

pub invariant_of-self : goal.invariant_of-self
invariant_of-self c =
    let bytes = c.self.inside.bytes in
    let all = pairs_in c.self.inside.count (drop 24 bytes) in
    let first = first_is bytes c.first_place.result.at c.first_place.result.left c.self.inside.count c.first_place.ensures.at c.first_place.ensures.left in
    behind_tells (λ (p : Place). pairs_from bytes p.at p.left) c.self.inside.last c.first_place.result all c.self.invariant first c.args.after.now (take c.in_ok-place.sizes.0 c.copy_from.new.key, take c.in_ok-place.sizes.1 c.copy_from.new.value)
    (pairs_from bytes c.in_ok-place.place.at c.in_ok-place.place.left) (pairs_from bytes c.in_ok-from.from.at c.in_ok-from.from.left) c.in_ok-from.ensures.place c.in_ok-place.ensures.reached

pub returns-clause-copied : goal.returns-clause-copied
returns-clause-copied c =
    let bytes = c.self.inside.bytes in
    let all = pairs_in c.self.inside.count (drop 24 bytes) in
    let first = first_is bytes c.first_place.result.at c.first_place.result.left c.self.inside.count c.first_place.ensures.at c.first_place.ensures.left in
    let from = behind_after (λ (p : Place). pairs_from bytes p.at p.left) c.self.inside.last c.first_place.result all c.self.invariant first c.args.after.now (pairs_from bytes c.in_ok-from.from.at c.in_ok-from.from.left) c.in_ok-from.ensures.place in
    record {
      within = search rules;
      is =
          sym (reached_pair c.args.after.now (take c.in_ok-place.sizes.0 c.copy_from.new.key, take c.in_ok-place.sizes.1 c.copy_from.new.value) (pairs_from bytes c.in_ok-place.place.at c.in_ok-place.place.left)
          (pairs_from bytes c.in_ok-from.from.at c.in_ok-from.from.left) c.in_ok-place.ensures.reached)
          ∙ sym from.1 ∙ sym (next_begins all c.args.after.now from.0) ∙ ap (λ (l : List Pair). next_in l c.args.after.now) c.self.view_is;
      key = search rules;
      value = search rules;
    }

pub returns-in_err-place-clause-copied : goal.returns-in_err-place-clause-copied
returns-in_err-place-clause-copied c =
    let bytes = c.self.inside.bytes in
    let all = pairs_in c.self.inside.count (drop 24 bytes) in
    let first = first_is bytes c.first_place.result.at c.first_place.result.left c.self.inside.count c.first_place.ensures.at c.first_place.ensures.left in
    let from = behind_after (λ (p : Place). pairs_from bytes p.at p.left) c.self.inside.last c.first_place.result all c.self.invariant first c.args.after.now (pairs_from bytes c.in_ok-from.from.at c.in_ok-from.from.left) c.in_ok-from.ensures.place in
    let none : c.from_residual-in_err-place.result ≡ None = c.from_residual-in_err-place.ensures in
    rw none (record {
      within = tt;
      is = sym c.in_err-place.ensures.reached ∙ sym from.1 ∙ sym (next_begins all c.args.after.now from.0) ∙ ap (λ (l : List Pair). next_in l c.args.after.now) c.self.view_is;
      key = c.in_err-place.ensures.key;
      value = c.in_err-place.ensures.value;
    })
