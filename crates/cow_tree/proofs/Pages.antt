-- What the form of a page says of its entries.
use Rattle.std.proofs.Common.{◌≡◌, true, List, ℕ, Option, Some, map, drop, subst}
use Rattle.std.specs.Prelude.{◌&&◌}
use Rattle.std.specs.List.{list_all}
use Rattle.page_store.specs.Reading.{where_true}
use Rattle.page_store.specs.Keys.{rises, is_between}
use Rattle.page_store.specs.Pages.{Child, Place, child_key, child_at, entries_of, branch_of, are_branch, starts_empty, is_inside}
use Rattle.page_store.proofs.Fields.{bind_some, test_passed}
use Rattle.tree_nodes.proofs.KeyOrder.{both_true}
use Rattle.tree_nodes.proofs.WalksWithinBounds.{children_is}

-- a branch names pages of the image alone
pub names_inside : (place : Place) (low : List ℕ) (high : Option (List ℕ)) (bytes : List ℕ) (children : List Child) → branch_of place low high bytes ≡ Some children → list_all (is_inside place.pages) children ≡ true
unfolding branch_of
names_inside place low high bytes children e =
    let f = bind_some (entries_of child_at place bytes) (λ cs. where_true (are_branch place.pages low high cs) (Some cs)) children e in
    let t = test_passed (are_branch place.pages low high f.0) (Some f.0) children f.2 in
    let a = both_true (starts_empty (map child_key f.0)) (rises (map child_key f.0) && (list_all (is_between low high) (drop 1 (map child_key f.0)) && list_all (is_inside place.pages) f.0)) t.0 in
    let b = both_true (rises (map child_key f.0)) (list_all (is_between low high) (drop 1 (map child_key f.0)) && list_all (is_inside place.pages) f.0) a.1 in
    let c = both_true (list_all (is_between low high) (drop 1 (map child_key f.0))) (list_all (is_inside place.pages) f.0) b.1 in
    subst (λ (cs : List Child). list_all (is_inside place.pages) cs ≡ true) (children_is f.0 children t.1) c.1
