-- A page of an image is read as a node of its level, with the pairs that a walk finds.
use Rattle.std.proofs.Common.{◌≡◌, ℕ, zero, suc, ◌≤◌, true, List, [], ◌∷◌, ◌++◌, map, length, Option, Some, None, is_some, refl, sym, ap, subst, ◌∙◌, arith}
use Rattle.std.specs.Prelude.{◌&&◌}
use Rattle.std.specs.List.{list_all}
use Rattle.std.proofs.lemmas.Bool.{le-leb}
use Rattle.page_store.specs.Reading.{◌>>=◌, where_true}
use Rattle.page_store.specs.Keys.{precedes, rises, is_between}
use Rattle.page_store.specs.Batch.{is_key}
use Rattle.page_store.specs.Pages.{Pair, Child, Place, child_key, pair_at, child_at, entries_of, leaf_of, branch_of, are_leaf, are_branch, starts_empty, is_inside}
use Rattle.page_store.specs.Content.{Found, Bounds, place_in, joined, low_of, high_of, fan, walk}
use Rattle.page_store.proofs.Fields.{bind_some, bind_again, test_passed}
use Rattle.tree_nodes.specs.Tree.{Tree, page, leaf, branch, OldPages, pairs_of, row_pairs, row_owned_at, entry_room, other_bytes}
use Rattle.tree_nodes.specs.Valid.{IsValid, IsValidRow, IsValidLeaf, IsFilledLeaf, IsOld, IsOneNode, others_high}
use Rattle.tree_nodes.specs.Supply.{others_named, branch_named, tree_in}
use Rattle.tree_nodes.specs.Image.{old_of}
use Rattle.tree_nodes.proofs.KeyOrder.{both_true, between_parts, upto_below}
use Rattle.tree_nodes.proofs.JoinedPairs.{AllKeys}
use Rattle.tree_nodes.proofs.WalksWithinBounds.{some_is, pairs_is, children_is, leaf_wider, branch_wider, walk_within, old_pairs, not_below_nothing, is_found, walk_keys, walk_widens}
use Rattle.tree_nodes.proofs.SizesRead.{pairs_read, children_read, children_size, AreShort, entries_read}

-- ---- a walk that finds something finds a pair

filled_leaf : (pairs : List Pair) → 1 ≤ length pairs → IsFilledLeaf pairs
filled_leaf [] h = absurd (omega (arith, h))
filled_leaf (p ∷ ps) h = tt

filled_joined : (xs ys : List Pair) → IsFilledLeaf xs → IsFilledLeaf (xs ++ ys)
filled_joined [] ys h = absurd h
filled_joined (x ∷ xs) ys h = tt

leaf_filled : (place : Place) (low : List ℕ) (high : Option (List ℕ)) (bytes : List ℕ) (pairs : List Pair) → leaf_of place low high bytes ≡ Some pairs → IsFilledLeaf pairs
unfolding leaf_of
leaf_filled place low high bytes pairs e =
    let f = bind_some (entries_of pair_at place bytes) (λ ps. where_true (are_leaf low high ps) (Some ps)) pairs e in
    let t = test_passed (are_leaf low high f.0) (Some f.0) pairs f.2 in
    let r = entries_read pair_at place bytes f.0 f.1 in
    let n = (pairs_read r.0 r.1 (f.0, r.2) r.3).0 in
    subst (λ (l : List Pair). IsFilledLeaf l) (pairs_is f.0 pairs t.1) (filled_leaf f.0 (omega (arith, n, r.4)))

abbrev FindsSome : (ℕ → List ℕ → Option (List ℕ) → Option Found) → Type 0
FindsSome u = (n : ℕ) (low : List ℕ) (high : Option (List ℕ)) (found : Found) → u n low high ≡ Some found → IsFilledLeaf found.pairs

fan_filled : (u : ℕ → List ℕ → Option (List ℕ) → Option Found) → FindsSome u → (children : List Child) (low : List ℕ) (high : Option (List ℕ)) (found : Found) → 1 ≤ length children → fan u low high children ≡ Some found → IsFilledLeaf found.pairs
fan_filled u w [] low high found some e = absurd (omega (arith, some))
fan_filled u w (child ∷ children) low high found some e =
    let f = bind_some (u child.page (low_of low child.key) (high_of children high)) (λ here. fan u low high children >>= λ others. Some (joined here others)) found e in
    let g = bind_some (fan u low high children) (λ others. Some (joined f.0 others)) found f.2 in
    subst (λ (x : Found). IsFilledLeaf x.pairs) (some_is (joined f.0 g.0) found g.2) (filled_joined f.0.pairs g.0.pairs (w child.page (low_of low child.key) (high_of children high) f.0 f.1))

branch_filled : (place : Place) (low : List ℕ) (high : Option (List ℕ)) (bytes : List ℕ) (children : List Child) → branch_of place low high bytes ≡ Some children → 1 ≤ length children
unfolding branch_of
branch_filled place low high bytes children e =
    let f = bind_some (entries_of child_at place bytes) (λ cs. where_true (are_branch place.pages low high cs) (Some cs)) children e in
    let t = test_passed (are_branch place.pages low high f.0) (Some f.0) children f.2 in
    let r = entries_read child_at place bytes f.0 f.1 in
    let n = (children_read r.0 r.1 (f.0, r.2) r.3).0 in
    let same = ap (λ (l : List Child). length l) (children_is f.0 children t.1) in
    omega (arith, n, r.4, same)

walk_filled : (a : ℕ → List ℕ) (bounds : Bounds) (level n : ℕ) (low : List ℕ) (high : Option (List ℕ)) (found : Found) → walk a bounds level n low high ≡ Some found → IsFilledLeaf found.pairs
walk_filled a bounds zero n low high found e =
    let f = bind_some (leaf_of (place_in bounds 0 n) low high (a n)) (λ pairs. Some (record { pages = n ∷ []; pairs = pairs })) found e in
    subst (λ (x : Found). IsFilledLeaf x.pairs) (some_is _ found f.2) (leaf_filled (place_in bounds 0 n) low high (a n) f.0 f.1)
walk_filled a bounds (suc level) n low high found e =
    let f = bind_some (branch_of (place_in bounds (suc level) n) low high (a n)) (λ children. fan (walk a bounds level) low high children >>= λ under. Some (record { pages = n ∷ under.pages; pairs = under.pairs })) found e in
    let g = bind_some (fan (walk a bounds level) low high f.0) (λ under. Some (record { pages = n ∷ under.pages; pairs = under.pairs })) found f.2 in
    let some = branch_filled (place_in bounds (suc level) n) low high (a n) f.0 f.1 in
    subst (λ (x : Found). IsFilledLeaf x.pairs) (some_is _ found g.2) (fan_filled (walk a bounds level) (λ p l h x i. walk_filled a bounds level p l h x i) f.0 low high g.0 some g.1)

-- where there is a pair between two bounds, the first is below the second
low_below : (low key : List ℕ) (pairs : List Pair) → IsFilledLeaf pairs → AllKeys (is_between low (Some key)) pairs → precedes low key ≡ true
low_below low key [] f k = absurd f
low_below low key (p ∷ ps) f k =
    let parts = between_parts low (Some key) p.0 k.0 in
    upto_below low p.0 key parts.0 parts.1

-- ---- a leaf

leaf_opens : (bounds : Bounds) (n : ℕ) (low : List ℕ) (high : Option (List ℕ)) (bytes : List ℕ) (pairs : List Pair) → length bytes ≤ 4096 → leaf_of (place_in bounds 0 n) low high bytes ≡ Some pairs → IsValidLeaf pairs low high
unfolding leaf_of
leaf_opens bounds n low high bytes pairs size e =
    let place = place_in bounds 0 n in
    let f = bind_some (entries_of pair_at place bytes) (λ ps. where_true (are_leaf low high ps) (Some ps)) pairs e in
    let t = test_passed (are_leaf low high f.0) (Some f.0) pairs f.2 in
    let r = entries_read pair_at place bytes f.0 f.1 in
    let s = pairs_read r.0 r.1 (f.0, r.2) r.3 in
    let here : IsValidLeaf f.0 low high = (t.0, s.1, filled_leaf f.0 (omega (arith, s.0, r.4)), omega (arith, s.2, r.5, size)) in
    subst (λ (l : List Pair). IsValidLeaf l low high) (pairs_is f.0 pairs t.1) here

-- ---- a branch

named_bytes : (children : List Child) → other_bytes (others_named children) ≡ children_size children
named_bytes [] = refl
named_bytes (child ∷ children) = omega (arith, named_bytes children)

named_owned : (children : List Child) (depth : ℕ) → row_owned_at depth (others_named children) ≡ 0
named_owned [] depth = refl
named_owned (child ∷ children) depth = omega (arith, named_owned children depth)

named_high : (children : List Child) (high : Option (List ℕ)) → others_high (others_named children) high ≡ high_of children high
named_high [] high = refl
named_high (child ∷ children) high = refl

key_is : (from key : List ℕ) → precedes from key ≡ true → length key ≤ 300 → is_key key ≡ true
key_is [] [] h s = absurd (cc h)
key_is (b ∷ bs) [] h s = absurd (cc h)
key_is from (b ∷ bs) h s = rw (le-leb 1 (length (b ∷ bs)) (omega arith), le-leb (length (b ∷ bs)) 300 s) refl

low_is : (low key : List ℕ) → 1 ≤ length key → low_of low key ≡ key
low_is low [] h = absurd (omega (arith, h))
low_is low (b ∷ bs) h = refl

key_some : (key : List ℕ) → is_key key ≡ true → 1 ≤ length key
key_some [] h = absurd (cc h)
key_some (b ∷ bs) h = omega arith

-- the children after the first: each stands where a walk found something
fan_row : (a : ℕ → List ℕ) (bounds : Bounds) (level : ℕ) (children : List Child) (low from : List ℕ) (high : Option (List ℕ)) (found : Found)
    → rises (from ∷ map child_key children) ≡ true → list_all (is_between low high) (map child_key children) ≡ true → AreShort children → fan (walk a bounds level) low high children ≡ Some found
    → IsValidRow (old_of a bounds) level (others_named children) from high × (row_pairs (old_of a bounds) (others_named children) ≡ found.pairs)
fan_row a bounds level [] low from high found rising between short e = (tt, ap (λ (x : Found). x.pairs) (some_is _ found e))
fan_row a bounds level (child ∷ children) low from high found rising between short e =
    let f = bind_some (walk a bounds level child.page (low_of low child.key) (high_of children high)) (λ here. fan (walk a bounds level) low high children >>= λ others. Some (joined here others)) found e in
    let g = bind_some (fan (walk a bounds level) low high children) (λ others. Some (joined f.0 others)) found f.2 in
    let b = both_true (precedes from child.key) (rises (child.key ∷ map child_key children)) rising in
    let w = both_true (is_between low high child.key) (list_all (is_between low high) (map child_key children)) between in
    let k = key_is from child.key b.0 short.0 in
    let lo = low_is low child.key (key_some child.key k) in
    let more = fan_row a bounds level children low child.key high g.0 b.1 w.1 short.1 g.1 in
    let stands : is_some (walk a bounds level child.page child.key (others_high (others_named children) high)) ≡ true =
    ap is_some (ap (λ (h : Option (List ℕ)). walk a bounds level child.page child.key h) (named_high children high) ∙ ap (λ (l : List ℕ). walk a bounds level child.page l (high_of children high)) (sym lo) ∙ f.1) in (
      (b.0, (between_parts low high child.key w.0).1, k, stands, more.0),
      ap (λ (l : List Pair). l ++ row_pairs (old_of a bounds) (others_named children)) (old_pairs a bounds level child.page (low_of low child.key) (high_of children high) f.0 f.1)
          ∙ ap (λ (l : List Pair). f.0.pairs ++ l) more.1 ∙ ap (λ (x : Found). x.pairs) (some_is (joined f.0 g.0) found g.2),
    )

first_empty : (key : List ℕ) (keys : List (List ℕ)) → starts_empty (key ∷ keys) ≡ true → key ≡ []
first_empty [] keys h = refl
first_empty (b ∷ bs) keys h = absurd (cc h)

-- the key of the second child is above the lower bound, since the first has a pair
rises_low : (low key : List ℕ) (high : Option (List ℕ)) (children : List Child) (pairs : List Pair) → rises (key ∷ map child_key children) ≡ true → IsFilledLeaf pairs → AllKeys (is_between low (high_of children high)) pairs → rises (low ∷ map child_key children) ≡ true
rises_low low key high [] pairs r f k = refl
rises_low low key high (child ∷ children) pairs r f k = rw (low_below low child.key pairs f k) (both_true (precedes key child.key) (rises (child.key ∷ map child_key children)) r).1

-- what the bytes of a page are read as
abbrev Opens : OldPages → ℕ → Option Tree → List ℕ → Option (List ℕ) → List Pair → Type 0
Opens old level read low high pairs = (tree : Tree) × (read ≡ Some tree) × IsValid old level tree low high × (pairs_of old tree ≡ pairs) × IsOneNode tree

children_open : (a : ℕ → List ℕ) (bounds : Bounds) (level : ℕ) (children : List Child) (low : List ℕ) (high : Option (List ℕ)) (found : Found) → 1 ≤ length children → are_branch bounds.pages low high children ≡ true → AreShort children
    → children_size children ≤ entry_room → fan (walk a bounds level) low high children ≡ Some found → Opens (old_of a bounds) (suc level) (branch_named children) low high found.pairs
children_open a bounds level [] low high found some are short size e = absurd (omega (arith, some))
children_open a bounds level (child ∷ children) low high found some are short size e =
    let f = bind_some (walk a bounds level child.page (low_of low child.key) (high_of children high)) (λ here. fan (walk a bounds level) low high children >>= λ others. Some (joined here others)) found e in
    let g = bind_some (fan (walk a bounds level) low high children) (λ others. Some (joined f.0 others)) found f.2 in
    let p = both_true (starts_empty (child.key ∷ map child_key children)) (rises (child.key ∷ map child_key children) && (list_all (is_between low high) (map child_key children) && list_all (is_inside bounds.pages) (child ∷ children))) are in
    let q = both_true (rises (child.key ∷ map child_key children)) (list_all (is_between low high) (map child_key children) && list_all (is_inside bounds.pages) (child ∷ children)) p.1 in
    let r = both_true (list_all (is_between low high) (map child_key children)) (list_all (is_inside bounds.pages) (child ∷ children)) q.1 in
    let empty = first_empty child.key (map child_key children) p.0 in
    let lo : low_of low child.key ≡ low = ap (low_of low) empty in
    let here : walk a bounds level child.page low (high_of children high) ≡ Some f.0 = ap (λ (l : List ℕ). walk a bounds level child.page l (high_of children high)) (sym lo) ∙ f.1 in
    let rising = rises_low low child.key high children f.0.pairs q.0 (walk_filled a bounds level child.page low (high_of children high) f.0 here) (walk_within a bounds level child.page low (high_of children high) f.0 here) in
    let row = fan_row a bounds level children low low high g.0 rising r.0 short.1 g.1 in
    let stands : is_some (walk a bounds level child.page low (others_high (others_named children) high)) ≡ true = ap is_some (ap (λ (h : Option (List ℕ)). walk a bounds level child.page low h) (named_high children high) ∙ here) in (
      branch (page child.page) (others_named children),
      refl,
      (stands, row.0, omega (arith, named_bytes children, size)),
      ap (λ (l : List Pair). l ++ row_pairs (old_of a bounds) (others_named children)) (old_pairs a bounds level child.page low (high_of children high) f.0 here)
          ∙ ap (λ (l : List Pair). f.0.pairs ++ l) row.1 ∙ ap (λ (x : Found). x.pairs) (some_is (joined f.0 g.0) found g.2),
      (refl, λ depth. omega (arith, named_owned children depth)),
    )

branch_opens : (a : ℕ → List ℕ) (bounds : Bounds) (level n : ℕ) (low : List ℕ) (high : Option (List ℕ)) (children : List Child) (found : Found) → length (a n) ≤ 4096 → branch_of (place_in bounds (suc level) n) low high (a n) ≡ Some children
    → fan (walk a bounds level) low high children ≡ Some found → Opens (old_of a bounds) (suc level) (branch_named children) low high found.pairs
unfolding branch_of
branch_opens a bounds level n low high children found size e fanned =
    let place = place_in bounds (suc level) n in
    let f = bind_some (entries_of child_at place (a n)) (λ cs. where_true (are_branch bounds.pages low high cs) (Some cs)) children e in
    let t = test_passed (are_branch bounds.pages low high f.0) (Some f.0) children f.2 in
    let r = entries_read child_at place (a n) f.0 f.1 in
    let s = children_read r.0 r.1 (f.0, r.2) r.3 in
    let same = children_is f.0 children t.1 in
    subst (λ (l : List Child). Opens (old_of a bounds) (suc level) (branch_named l) low high found.pairs) same
    (children_open a bounds level f.0 low high found (omega (arith, s.0, r.4)) t.0 s.1 (omega (arith, s.2, r.5, size)) (ap (fan (walk a bounds level) low high) same ∙ fanned))

-- ---- a page

pub walk_opens : (a : ℕ → List ℕ) (bounds : Bounds) (level n : ℕ) (low : List ℕ) (high : Option (List ℕ)) (found : Found) → length (a n) ≤ 4096 → walk a bounds level n low high ≡ Some found
    → Opens (old_of a bounds) level (tree_in bounds level n (a n)) low high found.pairs
walk_opens a bounds zero n low high found size e =
    let f = bind_some (leaf_of (place_in bounds 0 n) low high (a n)) (λ pairs. Some (record { pages = n ∷ []; pairs = pairs })) found e in
    let wide = leaf_wider (place_in bounds 0 n) low [] high None (a n) f.0 (not_below_nothing low) (λ key h. refl) f.1 in (
      leaf f.0,
      bind_again (leaf_of (place_in bounds 0 n) [] None (a n)) (λ pairs. Some (leaf pairs)) f.0 (Some (leaf f.0)) wide refl,
      leaf_opens bounds n low high (a n) f.0 size f.1,
      ap (λ (x : Found). x.pairs) (some_is _ found f.2),
      (refl, λ depth. refl),
    )
walk_opens a bounds (suc level) n low high found size e =
    let f = bind_some (branch_of (place_in bounds (suc level) n) low high (a n)) (λ children. fan (walk a bounds level) low high children >>= λ under. Some (record { pages = n ∷ under.pages; pairs = under.pairs })) found e in
    let g = bind_some (fan (walk a bounds level) low high f.0) (λ under. Some (record { pages = n ∷ under.pages; pairs = under.pairs })) found f.2 in
    let wide = branch_wider (place_in bounds (suc level) n) low [] high None (a n) f.0 (not_below_nothing low) (λ key h. refl) f.1 in
    let o = branch_opens a bounds level n low high f.0 g.0 size f.1 g.1 in
    let pairs : g.0.pairs ≡ found.pairs = ap (λ (x : Found). x.pairs) (some_is _ found g.2) in
    (o.0, bind_again (branch_of (place_in bounds (suc level) n) [] None (a n)) branch_named f.0 (Some o.0) wide o.1, o.2, o.3 ∙ pairs, o.4)

-- the pages of an image are as a tree may name them
pub image_is_old : (a : ℕ → List ℕ) (bounds : Bounds) → ((n : ℕ) → length (a n) ≤ 4096) → IsOld (old_of a bounds)
image_is_old a bounds sizes = record {
  within = λ level n low high h. walk_keys a bounds level n low high h;
  widens = λ level n low lower high higher l k h. walk_widens a bounds level n low lower high higher l k h;
  opens = λ level n low high h.
      let f = is_found (walk a bounds level n low high) h in
      let o = walk_opens a bounds level n low high f.0 (sizes n) f.1 in
      (o.0, o.1, o.2, o.3 ∙ sym (old_pairs a bounds level n low high f.0 f.1), o.4);
}
