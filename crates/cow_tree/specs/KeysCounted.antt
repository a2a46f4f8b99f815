-- A slot whose tree is there counts its pairs.
use Rattle.std.specs.Prelude.{◌≡◌, ℕ, List, length, Some, ◌&&◌, ◌==◌}
use Rattle.std.proofs.Common.{sym, ap, ◌∙◌}
use Rattle.std.proofs.lemmas.Bool.{eqb-true}
use Rattle.page_store.specs.Reading.{where_true}
use Rattle.page_store.specs.Content.{Found, tree_of, tree_found, are_distinct}
use Rattle.page_store.specs.declared.slot.Slot.{Slot}
use Rattle.page_store.proofs.Fields.{bind_some, test_passed}
use Rattle.tree_nodes.proofs.KeyOrder.{both_true}
use Rattle.tree_nodes.proofs.WalksWithinBounds.{some_is}
use Rattle.cow_tree.specs.Opening.{bounds_under}

pub keys_told : (slot : Slot) (a : ℕ → List ℕ) (found : Found) → tree_found slot a ≡ Some found → slot.root.keys ≡ length found.pairs
unfolding tree_found
keys_told slot a found e =
    let f = bind_some (tree_of a (bounds_under slot) slot.root.height slot.root.tree) (λ x. where_true (are_distinct x.pages && (length x.pairs == slot.root.keys)) (Some x)) found e in
    let t = test_passed (are_distinct f.0.pages && (length f.0.pairs == slot.root.keys)) (Some f.0) found f.2 in
    let keys = eqb-true (length f.0.pairs) slot.root.keys (both_true (are_distinct f.0.pages) (length f.0.pairs == slot.root.keys) t.0).1 in
    sym keys ∙ ap (λ (x : Found). length x.pairs) (some_is f.0 found t.1)
