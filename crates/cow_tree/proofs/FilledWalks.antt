-- A walk that finds something finds a pair.
use Rattle.std.proofs.Common.{◌≡◌, ℕ, zero, suc, ◌≤◌, List, [], ◌∷◌, ◌++◌, length, Option, Some, ap, subst, arith}
use Rattle.page_store.specs.Reading.{◌>>=◌, where_true}
use Rattle.page_store.specs.Pages.{Pair, Child, Place, pair_at, child_at, entries_of, leaf_of, branch_of, are_leaf, are_branch}
use Rattle.page_store.specs.Content.{Found, Bounds, place_in, joined, low_of, high_of, fan, walk}
use Rattle.page_store.proofs.Fields.{bind_some, test_passed}
use Rattle.tree_nodes.specs.Valid.{IsFilledLeaf}
use Rattle.tree_nodes.proofs.SizesRead.{pairs_read, children_read, entries_read}
use Rattle.tree_nodes.proofs.WalksWithinBounds.{some_is, pairs_is, children_is}

filled : (pairs : List Pair) → 1 ≤ length pairs → IsFilledLeaf pairs
filled [] h = absurd (omega (arith, h))
filled (p ∷ ps) h = tt

pub filled_some : (pairs : List Pair) → IsFilledLeaf pairs → 1 ≤ length pairs
filled_some [] h = absurd h
filled_some (p ∷ ps) h = omega arith

filled_joined : (xs ys : List Pair) → IsFilledLeaf xs → IsFilledLeaf (xs ++ ys)
filled_joined [] ys h = absurd h
filled_joined (x ∷ xs) ys h = tt

pub leaf_filled : (place : Place) (low : List ℕ) (high : Option (List ℕ)) (bytes : List ℕ) (pairs : List Pair) → leaf_of place low high bytes ≡ Some pairs → IsFilledLeaf pairs
unfolding leaf_of
leaf_filled place low high bytes pairs e =
    let f = bind_some (entries_of pair_at place bytes) (λ ps. where_true (are_leaf low high ps) (Some ps)) pairs e in
    let t = test_passed (are_leaf low high f.0) (Some f.0) pairs f.2 in
    let r = entries_read pair_at place bytes f.0 f.1 in
    let n = (pairs_read r.0 r.1 (f.0, r.2) r.3).0 in
    subst (λ (l : List Pair). IsFilledLeaf l) (pairs_is f.0 pairs t.1) (filled f.0 (omega (arith, n, r.4)))

branch_filled : (place : Place) (low : List ℕ) (high : Option (List ℕ)) (bytes : List ℕ) (children : List Child) → branch_of place low high bytes ≡ Some children → 1 ≤ length children
unfolding branch_of
branch_filled place low high bytes children e =
    let f = bind_some (entries_of child_at place bytes) (λ cs. where_true (are_branch place.pages low high cs) (Some cs)) children e in
    let t = test_passed (are_branch place.pages low high f.0) (Some f.0) children f.2 in
    let r = entries_read child_at place bytes f.0 f.1 in
    let n = (children_read r.0 r.1 (f.0, r.2) r.3).0 in
    let same = ap (λ (l : List Child). length l) (children_is f.0 children t.1) in
    omega (arith, n, r.4, same)

fan_filled : (u : ℕ → List ℕ → Option (List ℕ) → Option Found) → ((n : ℕ) (low : List ℕ) (high : Option (List ℕ)) (found : Found) → u n low high ≡ Some found → IsFilledLeaf found.pairs) → (children : List Child) (low : List ℕ) (high : Option (List ℕ)) (found : Found)
    → 1 ≤ length children → fan u low high children ≡ Some found → IsFilledLeaf found.pairs
fan_filled u w [] low high found some e = absurd (omega (arith, some))
fan_filled u w (child ∷ children) low high found some e =
    let f = bind_some (u child.page (low_of low child.key) (high_of children high)) (λ here. fan u low high children >>= λ others. Some (joined here others)) found e in
    let g = bind_some (fan u low high children) (λ others. Some (joined f.0 others)) found f.2 in
    subst (λ (x : Found). IsFilledLeaf x.pairs) (some_is (joined f.0 g.0) found g.2) (filled_joined f.0.pairs g.0.pairs (w child.page (low_of low child.key) (high_of children high) f.0 f.1))

pub walk_filled : (a : ℕ → List ℕ) (bounds : Bounds) (level n : ℕ) (low : List ℕ) (high : Option (List ℕ)) (found : Found) → walk a bounds level n low high ≡ Some found → IsFilledLeaf found.pairs
walk_filled a bounds zero n low high found e =
    let f = bind_some (leaf_of (place_in bounds 0 n) low high (a n)) (λ pairs. Some (record { pages = n ∷ []; pairs = pairs })) found e in
    subst (λ (x : Found). IsFilledLeaf x.pairs) (some_is _ found f.2) (leaf_filled (place_in bounds 0 n) low high (a n) f.0 f.1)
walk_filled a bounds (suc level) n low high found e =
    let f = bind_some (branch_of (place_in bounds (suc level) n) low high (a n)) (λ children. fan (walk a bounds level) low high children >>= λ under. Some (record { pages = n ∷ under.pages; pairs = under.pairs })) found e in
    let g = bind_some (fan (walk a bounds level) low high f.0) (λ under. Some (record { pages = n ∷ under.pages; pairs = under.pairs })) found f.2 in
    let some = branch_filled (place_in bounds (suc level) n) low high (a n) f.0 f.1 in
    subst (λ (x : Found). IsFilledLeaf x.pairs) (some_is _ found g.2) (fan_filled (walk a bounds level) (λ p l h x i. walk_filled a bounds level p l h x i) f.0 low high g.0 some g.1)
