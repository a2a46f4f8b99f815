-- Pairs that one flat page takes stand in one leaf.
use Rattle.std.proofs.Common.{◌≡◌, ◌≤◌, ◌-◌, inl, inr, ℕ, zero, suc, true, List, [], ◌∷◌, length, drop, map, refl, arith}
use Rattle.std.specs.Prelude.{◌⊎◌}
use Rattle.std.specs.List.{list_all}
use Rattle.std.proofs.lemmas.Bool.{le-leb}
use Rattle.page_store.specs.Keys.{rises}
use Rattle.page_store.specs.Pages.{Pair, key_of}
use Rattle.page_store.specs.Flat.{entry_size}
use Rattle.page_store.specs.Batch.{is_pair, is_map}
use Rattle.page_store.specs.Encoding.{fitting, page_room, paged, pages_needed}
use Rattle.page_store.proofs.PairsByPage.{fitting_le}
use Rattle.tree_nodes.specs.Tree.{leaf_bytes, entry_room}
use Rattle.tree_nodes.proofs.KeyOrder.{both_true}
use Rattle.tree_nodes.proofs.LeafSplits.{pair_size}
use Rattle.tree_nodes.proofs.FittingEntries.{all_fit}

-- no page is made of nothing, or of no pairs
none_made : (most : ℕ) (pairs : List Pair) → length (paged most pairs) ≤ 0 → (most ≡ 0) ⊎ (pairs ≡ [])
none_made zero pairs none = inl refl
none_made (suc most) [] none = inr refl
none_made (suc most) (p ∷ ps) none = absurd (omega (arith, none))

all_dropped : (n : ℕ) (pairs : List Pair) → drop n pairs ≡ [] → length pairs ≤ n
all_dropped n [] is = omega arith
all_dropped zero (p ∷ ps) is = absurd (cc is)
all_dropped (suc n) (p ∷ ps) is = let more = all_dropped n ps is in omega (arith, more)

first_fits : (p : Pair) (ps : List Pair) → entry_size p ≤ 4072 → 1 ≤ fitting 4072 (p ∷ ps)
first_fits p ps small = rw (le-leb (entry_size p) 4072 small) (omega arith)

all_of_one_page : (p : Pair) (ps : List Pair) → entry_size p ≤ 4072 → (length ps ≡ 0) ⊎ (drop (fitting 4072 (p ∷ ps)) (p ∷ ps) ≡ []) → fitting 4072 (p ∷ ps) ≡ length (p ∷ ps)
all_of_one_page p ps small (inl few) = let least = first_fits p ps small in let most = fitting_le 4072 (p ∷ ps) in omega (arith, few, least, most)
all_of_one_page p ps small (inr none) = let least = all_dropped (fitting 4072 (p ∷ ps)) (p ∷ ps) none in let most = fitting_le 4072 (p ∷ ps) in omega (arith, least, most)

pub one_leaf : (pairs : List Pair) → is_map pairs ≡ true → pages_needed pairs ≤ 1 → leaf_bytes pairs ≤ entry_room
unfolding page_room
one_leaf [] map_is one = omega arith
one_leaf (p ∷ ps) map_is one =
    let pairs = both_true (rises (map key_of (p ∷ ps))) (list_all is_pair (p ∷ ps)) map_is in
    let size = pair_size p (both_true (is_pair p) (list_all is_pair ps) pairs.1).0 in
    all_fit 4072 (p ∷ ps) (all_of_one_page p ps (omega (arith, size)) (none_made (length ps) (drop (fitting 4072 (p ∷ ps)) (p ∷ ps)) (omega (arith, one))))
