-- Pages whose keys lie between two keys.
use Rattle.std.proofs.Common.{◌≡◌, ℕ, Bool, true, false, List, [], map, drop, Option, Some, None, refl, ap, ◌∙◌}
use Rattle.std.specs.Prelude.{◌&&◌}
use Rattle.std.specs.List.{list_all}
use Rattle.page_store.specs.Reading.{where_true}
use Rattle.page_store.specs.Keys.{rises, is_between}
use Rattle.page_store.specs.Pages.{Pair, Child, Place, key_of, child_key, pair_at, child_at, entries_of, leaf_of, branch_of, are_leaf, are_branch, starts_empty, is_inside}
use Rattle.page_store.proofs.Fields.{bind_some, bind_again, test_passed}
use Rattle.tree_nodes.proofs.KeyOrder.{both_true}
use Rattle.tree_nodes.proofs.WalksWithinBounds.{pairs_is, children_is, leaf_wider, branch_wider, not_below_nothing}

and_true : (b : Bool) → b && true ≡ b
and_true true = refl
and_true false = refl

-- ---- a leaf

-- a leaf without bounds is one between two keys where its keys lie between them
leaf_tested : (place : Place) (low : List ℕ) (high : Option (List ℕ)) (bytes : List ℕ) (pairs : List Pair) → leaf_of place [] None bytes ≡ Some pairs
    → leaf_of place low high bytes ≡ where_true (list_all (is_between low high) (map key_of pairs)) (Some pairs)
unfolding leaf_of
leaf_tested place low high bytes pairs e =
    let f = bind_some (entries_of pair_at place bytes) (λ ps. where_true (are_leaf [] None ps) (Some ps)) pairs e in
    let t = test_passed (are_leaf [] None f.0) (Some f.0) pairs f.2 in
    let b = both_true (rises (map key_of f.0)) (list_all (is_between [] None) (map key_of f.0)) t.0 in
    bind_again (entries_of pair_at place bytes) (λ ps. where_true (are_leaf low high ps) (Some ps)) f.0 _ f.1
    (rw b.0 (ap (λ (ps : List Pair). where_true (list_all (is_between low high) (map key_of ps)) (Some ps)) (pairs_is f.0 pairs t.1)))

pub leaf_inside : (place : Place) (low : List ℕ) (high : Option (List ℕ)) (bytes : List ℕ) (pairs : List Pair) → leaf_of place [] None bytes ≡ Some pairs → list_all (is_between low high) (map key_of pairs) ≡ true → leaf_of place low high bytes ≡ Some pairs
leaf_inside place low high bytes pairs e b = leaf_tested place low high bytes pairs e ∙ rw b refl

pub leaf_outside : (place : Place) (low : List ℕ) (high : Option (List ℕ)) (bytes : List ℕ) (pairs : List Pair) → leaf_of place [] None bytes ≡ Some pairs → list_all (is_between low high) (map key_of pairs) ≡ false → leaf_of place low high bytes ≡ None
leaf_outside place low high bytes pairs e b = leaf_tested place low high bytes pairs e ∙ rw b refl

pub no_leaf_between : (place : Place) (low : List ℕ) (high : Option (List ℕ)) (bytes : List ℕ) → leaf_of place [] None bytes ≡ None → leaf_of place low high bytes ≡ None
no_leaf_between place low high bytes e = go (leaf_of place low high bytes) refl
  where
    go : (r : Option (List Pair)) → leaf_of place low high bytes ≡ r → r ≡ None
    go None h = refl
    go (Some pairs) h = absurd (let wider = leaf_wider place low [] high None bytes pairs (not_below_nothing low) (λ key k. refl) h in cc (wider, e))

-- ---- a branch

branch_tested : (place : Place) (low : List ℕ) (high : Option (List ℕ)) (bytes : List ℕ) (children : List Child) → branch_of place [] None bytes ≡ Some children
    → branch_of place low high bytes ≡ where_true (list_all (is_between low high) (drop 1 (map child_key children))) (Some children)
unfolding branch_of
branch_tested place low high bytes children e =
    let f = bind_some (entries_of child_at place bytes) (λ cs. where_true (are_branch place.pages [] None cs) (Some cs)) children e in
    let t = test_passed (are_branch place.pages [] None f.0) (Some f.0) children f.2 in
    let a = both_true (starts_empty (map child_key f.0)) (rises (map child_key f.0) && (list_all (is_between [] None) (drop 1 (map child_key f.0)) && list_all (is_inside place.pages) f.0)) t.0 in
    let b = both_true (rises (map child_key f.0)) (list_all (is_between [] None) (drop 1 (map child_key f.0)) && list_all (is_inside place.pages) f.0) a.1 in
    let c = both_true (list_all (is_between [] None) (drop 1 (map child_key f.0))) (list_all (is_inside place.pages) f.0) b.1 in
    bind_again (entries_of child_at place bytes) (λ cs. where_true (are_branch place.pages low high cs) (Some cs)) f.0 _ f.1
    (rw (a.0, b.0, c.1) (ap (λ (b : Bool). where_true b (Some f.0)) (and_true (list_all (is_between low high) (drop 1 (map child_key f.0))))
    ∙ ap (λ (cs : List Child). where_true (list_all (is_between low high) (drop 1 (map child_key cs))) (Some cs)) (children_is f.0 children t.1)))

pub branch_inside : (place : Place) (low : List ℕ) (high : Option (List ℕ)) (bytes : List ℕ) (children : List Child) → branch_of place [] None bytes ≡ Some children → list_all (is_between low high) (drop 1 (map child_key children)) ≡ true
    → branch_of place low high bytes ≡ Some children
branch_inside place low high bytes children e b = branch_tested place low high bytes children e ∙ rw b refl

pub branch_outside : (place : Place) (low : List ℕ) (high : Option (List ℕ)) (bytes : List ℕ) (children : List Child) → branch_of place [] None bytes ≡ Some children → list_all (is_between low high) (drop 1 (map child_key children)) ≡ false
    → branch_of place low high bytes ≡ None
branch_outside place low high bytes children e b = branch_tested place low high bytes children e ∙ rw b refl

pub no_branch_between : (place : Place) (low : List ℕ) (high : Option (List ℕ)) (bytes : List ℕ) → branch_of place [] None bytes ≡ None → branch_of place low high bytes ≡ None
no_branch_between place low high bytes e = go (branch_of place low high bytes) refl
  where
    go : (r : Option (List Child)) → branch_of place low high bytes ≡ r → r ≡ None
    go None h = refl
    go (Some children) h = absurd (let wider = branch_wider place low [] high None bytes children (not_below_nothing low) (λ key k. refl) h in cc (wider, e))
