-- A walk finds keys between its bounds, and the same between wider ones.
use Rattle.std.proofs.Common.{◌≡◌, ◌∷◌, ℕ, zero, suc, Bool, true, false, List, [], map, drop, Option, Some, None, is_some, refl, ap, subst, ◌∙◌}
use Rattle.std.specs.Prelude.{◌&&◌, ◌==◌, nat_le}
use Rattle.std.specs.List.{list_all}
use Rattle.std.proofs.lemmas.Bool.{eqb-true}
use Rattle.page_store.specs.Reading.{◌>>=◌, where_true}
use Rattle.page_store.specs.Roots.{is_zero}
use Rattle.page_store.specs.Keys.{precedes, rises, is_between}
use Rattle.page_store.specs.Pages.{Pair, Child, Place, key_of, child_key, head_at, page_word, pair_at, child_at, entries_at, entries_of, fits_place, leaf_of, branch_of, are_leaf, are_branch, starts_empty, is_inside}
use Rattle.page_store.specs.Content.{Found, Bounds, place_in, joined, low_of, high_of, fan, walk}
use Rattle.page_store.proofs.Fields.{bind_some, bind_again, test_passed}
use Rattle.tree_nodes.specs.Valid.{IsUpTo}
use Rattle.tree_nodes.specs.Image.{head_level, found_pairs, old_of}
use Rattle.tree_nodes.proofs.KeyOrder.{both_true, wider, itself, upto_itself, upto_key, between_parts}
use Rattle.tree_nodes.proofs.JoinedPairs.{AllKeys, keys_joined, keys_all, all_keys}
use Rattle.tree_nodes.proofs.KeysWithinBounds.{keys_out}

abbrev pub some : Found → Option Found
some x = Some x

pub some_is : (x y : Found) → some x ≡ some y → x ≡ y
some_is x y e = cc

abbrev pub some_pairs : List Pair → Option (List Pair)
some_pairs x = Some x

pub pairs_is : (x y : List Pair) → some_pairs x ≡ some_pairs y → x ≡ y
pairs_is x y e = cc

abbrev pub some_children : List Child → Option (List Child)
some_children x = Some x

pub children_is : (x y : List Child) → some_children x ≡ some_children y → x ≡ y
children_is x y e = cc

list_wider : (p q : List ℕ → Bool) → ((key : List ℕ) → p key ≡ true → q key ≡ true) → (keys : List (List ℕ)) → list_all p keys ≡ true → list_all q keys ≡ true
list_wider p q f [] h = refl
list_wider p q f (key ∷ keys) h = let b = both_true (p key) (list_all p keys) h in rw (f key b.0) (list_wider p q f keys b.1)

-- ---- wider bounds

pub leaf_wider : (place : Place) (low lower : List ℕ) (high higher : Option (List ℕ)) (bytes : List ℕ) (pairs : List Pair) → precedes low lower ≡ false → IsUpTo high higher → leaf_of place low high bytes ≡ Some pairs → leaf_of place lower higher bytes ≡ Some pairs
unfolding leaf_of
leaf_wider place low lower high higher bytes pairs l u e =
    let f = bind_some (entries_of pair_at place bytes) (λ ps. where_true (are_leaf low high ps) (Some ps)) pairs e in
    let t = test_passed (are_leaf low high f.0) (Some f.0) pairs f.2 in
    let b = both_true (rises (map key_of f.0)) (list_all (is_between low high) (map key_of f.0)) t.0 in
    bind_again (entries_of pair_at place bytes) _ f.0 (Some pairs) f.1
    (rw (b.0, list_wider (is_between low high) (is_between lower higher) (λ key k. wider low lower high higher key l u k) (map key_of f.0) b.1) t.1)

pub branch_wider : (place : Place) (low lower : List ℕ) (high higher : Option (List ℕ)) (bytes : List ℕ) (children : List Child) → precedes low lower ≡ false → IsUpTo high higher → branch_of place low high bytes ≡ Some children → branch_of place lower higher bytes ≡ Some children
unfolding branch_of
branch_wider place low lower high higher bytes children l u e =
    let f = bind_some (entries_of child_at place bytes) (λ cs. where_true (are_branch place.pages low high cs) (Some cs)) children e in
    let t = test_passed (are_branch place.pages low high f.0) (Some f.0) children f.2 in
    let keys = map child_key f.0 in
    let a = both_true (starts_empty (map child_key f.0)) (rises (map child_key f.0) && (list_all (is_between low high) (drop 1 (map child_key f.0)) && list_all (is_inside place.pages) f.0)) t.0 in
    let b = both_true (rises (map child_key f.0)) (list_all (is_between low high) (drop 1 (map child_key f.0)) && list_all (is_inside place.pages) f.0) a.1 in
    let c = both_true (list_all (is_between low high) (drop 1 (map child_key f.0))) (list_all (is_inside place.pages) f.0) b.1 in
    bind_again (entries_of child_at place bytes) _ f.0 (Some children) f.1
    (rw (a.0, b.0, list_wider (is_between low high) (is_between lower higher) (λ key k. wider low lower high higher key l u k) (drop 1 (map child_key f.0)) c.0, c.1) t.1)

abbrev SameWider : (ℕ → List ℕ → Option (List ℕ) → Option Found) → Type 0
SameWider u = (page : ℕ) (low lower : List ℕ) (high higher : Option (List ℕ)) (found : Found) → precedes low lower ≡ false → IsUpTo high higher → u page low high ≡ Some found → u page lower higher ≡ Some found

low_upto : (low lower key : List ℕ) → precedes low lower ≡ false → precedes (low_of low key) (low_of lower key) ≡ false
low_upto low lower [] l = l
low_upto low lower (b ∷ bs) l = itself (b ∷ bs)

high_upto : (children : List Child) (high higher : Option (List ℕ)) → IsUpTo high higher → IsUpTo (high_of children high) (high_of children higher)
high_upto [] high higher u = u
high_upto (child ∷ children) high higher u = upto_itself (Some child.key)

fan_wider : (u : ℕ → List ℕ → Option (List ℕ) → Option Found) → SameWider u → (children : List Child) (low lower : List ℕ) (high higher : Option (List ℕ)) (found : Found) → precedes low lower ≡ false → IsUpTo high higher
    → fan u low high children ≡ Some found → fan u lower higher children ≡ Some found
fan_wider u same [] low lower high higher found l k e = e
fan_wider u same (child ∷ children) low lower high higher found l k e =
    let f = bind_some (u child.page (low_of low child.key) (high_of children high)) (λ here. fan u low high children >>= λ others. Some (joined here others)) found e in
    let g = bind_some (fan u low high children) (λ others. Some (joined f.0 others)) found f.2 in
    bind_again (u child.page (low_of lower child.key) (high_of children higher)) _ f.0 (Some found)
    (same child.page (low_of low child.key) (low_of lower child.key) (high_of children high) (high_of children higher) f.0 (low_upto low lower child.key l) (high_upto children high higher k) f.1)
    (bind_again (fan u lower higher children) _ g.0 (Some found) (fan_wider u same children low lower high higher g.0 l k g.1) g.2)

pub walk_wider : (a : ℕ → List ℕ) (bounds : Bounds) (level page : ℕ) (low lower : List ℕ) (high higher : Option (List ℕ)) (found : Found) → precedes low lower ≡ false → IsUpTo high higher
    → walk a bounds level page low high ≡ Some found → walk a bounds level page lower higher ≡ Some found
walk_wider a bounds zero page low lower high higher found l k e =
    let f = bind_some (leaf_of (place_in bounds 0 page) low high (a page)) (λ pairs. Some (record { pages = page ∷ []; pairs = pairs })) found e in
    bind_again (leaf_of (place_in bounds 0 page) lower higher (a page)) _ f.0 (Some found) (leaf_wider (place_in bounds 0 page) low lower high higher (a page) f.0 l k f.1) f.2
walk_wider a bounds (suc level) page low lower high higher found l k e =
    let f = bind_some (branch_of (place_in bounds (suc level) page) low high (a page)) (λ children. fan (walk a bounds level) low high children >>= λ under. Some (record { pages = page ∷ under.pages; pairs = under.pairs })) found e in
    let g = bind_some (fan (walk a bounds level) low high f.0) (λ under. Some (record { pages = page ∷ under.pages; pairs = under.pairs })) found f.2 in
    bind_again (branch_of (place_in bounds (suc level) page) lower higher (a page)) _ f.0 (Some found) (branch_wider (place_in bounds (suc level) page) low lower high higher (a page) f.0 l k f.1)
    (bind_again (fan (walk a bounds level) lower higher f.0) _ g.0 (Some found)
    (fan_wider (walk a bounds level) (λ p lo lo2 hi hi2 x l2 k2 i. walk_wider a bounds level p lo lo2 hi hi2 x l2 k2 i) f.0 low lower high higher g.0 l k g.1) g.2)

-- ---- keys between the bounds

leaf_within : (place : Place) (low : List ℕ) (high : Option (List ℕ)) (bytes : List ℕ) (pairs : List Pair) → leaf_of place low high bytes ≡ Some pairs → AllKeys (is_between low high) pairs
unfolding leaf_of
leaf_within place low high bytes pairs e =
    let f = bind_some (entries_of pair_at place bytes) (λ ps. where_true (are_leaf low high ps) (Some ps)) pairs e in
    let t = test_passed (are_leaf low high f.0) (Some f.0) pairs f.2 in
    let b = both_true (rises (map key_of f.0)) (list_all (is_between low high) (map key_of f.0)) t.0 in
    subst (λ (l : List Pair). AllKeys (is_between low high) l) (pairs_is f.0 pairs t.1) (all_keys (is_between low high) f.0 b.1)

-- the bounds of each child are inside
abbrev pub AreInside : List ℕ → Option (List ℕ) → List Child → Type 0
AreInside low high [] = Unit {0}
AreInside low high (child ∷ children) = (precedes (low_of low child.key) low ≡ false) × IsUpTo (high_of children high) high × AreInside low high children

low_inside : (low : List ℕ) (high : Option (List ℕ)) (key : List ℕ) → is_between low high key ≡ true → precedes (low_of low key) low ≡ false
low_inside low high [] h = itself low
low_inside low high (b ∷ bs) h = (between_parts low high (b ∷ bs) h).0

high_inside : (low : List ℕ) (high : Option (List ℕ)) (children : List Child) → list_all (is_between low high) (map child_key children) ≡ true → IsUpTo (high_of children high) high
high_inside low high [] h = upto_itself high
high_inside low high (child ∷ children) h =
    let b = both_true (is_between low high child.key) (list_all (is_between low high) (map child_key children)) h in
    upto_key child.key high (between_parts low high child.key b.0).1

others_inside : (low : List ℕ) (high : Option (List ℕ)) (children : List Child) → list_all (is_between low high) (map child_key children) ≡ true → AreInside low high children
others_inside low high [] h = tt
others_inside low high (child ∷ children) h =
    let b = both_true (is_between low high child.key) (list_all (is_between low high) (map child_key children)) h in
    (low_inside low high child.key b.0, high_inside low high children b.1, others_inside low high children b.1)

first_inside : (low key : List ℕ) (keys : List (List ℕ)) → starts_empty (key ∷ keys) ≡ true → precedes (low_of low key) low ≡ false
first_inside low [] keys h = itself low
first_inside low (b ∷ bs) keys h = absurd (cc h)

pub children_inside : (low : List ℕ) (high : Option (List ℕ)) (children : List Child) → starts_empty (map child_key children) ≡ true → list_all (is_between low high) (drop 1 (map child_key children)) ≡ true → AreInside low high children
children_inside low high [] s h = tt
children_inside low high (child ∷ children) s h = (first_inside low child.key (map child_key children) s, high_inside low high children h, others_inside low high children h)

branch_inside : (place : Place) (low : List ℕ) (high : Option (List ℕ)) (bytes : List ℕ) (children : List Child) → branch_of place low high bytes ≡ Some children → AreInside low high children
unfolding branch_of
branch_inside place low high bytes children e =
    let f = bind_some (entries_of child_at place bytes) (λ cs. where_true (are_branch place.pages low high cs) (Some cs)) children e in
    let t = test_passed (are_branch place.pages low high f.0) (Some f.0) children f.2 in
    let a = both_true (starts_empty (map child_key f.0)) (rises (map child_key f.0) && (list_all (is_between low high) (drop 1 (map child_key f.0)) && list_all (is_inside place.pages) f.0)) t.0 in
    let b = both_true (rises (map child_key f.0)) (list_all (is_between low high) (drop 1 (map child_key f.0)) && list_all (is_inside place.pages) f.0) a.1 in
    let c = both_true (list_all (is_between low high) (drop 1 (map child_key f.0))) (list_all (is_inside place.pages) f.0) b.1 in
    subst (λ (l : List Child). AreInside low high l) (children_is f.0 children t.1) (children_inside low high f.0 a.0 c.0)

abbrev FindsWithin : (ℕ → List ℕ → Option (List ℕ) → Option Found) → Type 0
FindsWithin u = (page : ℕ) (low : List ℕ) (high : Option (List ℕ)) (found : Found) → u page low high ≡ Some found → AllKeys (is_between low high) found.pairs

fan_within : (u : ℕ → List ℕ → Option (List ℕ) → Option Found) → FindsWithin u → (children : List Child) (low : List ℕ) (high : Option (List ℕ)) (found : Found) → AreInside low high children
    → fan u low high children ≡ Some found → AllKeys (is_between low high) found.pairs
fan_within u w [] low high found i e = subst (λ (x : Found). AllKeys (is_between low high) x.pairs) (some_is _ found e) tt
fan_within u w (child ∷ children) low high found i e =
    let f = bind_some (u child.page (low_of low child.key) (high_of children high)) (λ here. fan u low high children >>= λ others. Some (joined here others)) found e in
    let g = bind_some (fan u low high children) (λ others. Some (joined f.0 others)) found f.2 in
    subst (λ (x : Found). AllKeys (is_between low high) x.pairs) (some_is (joined f.0 g.0) found g.2)
    (keys_joined (is_between low high) f.0.pairs g.0.pairs
    (keys_out (low_of low child.key) low (high_of children high) high f.0.pairs i.0 i.1 (w child.page (low_of low child.key) (high_of children high) f.0 f.1))
    (fan_within u w children low high g.0 i.2 g.1))

pub walk_within : (a : ℕ → List ℕ) (bounds : Bounds) (level page : ℕ) (low : List ℕ) (high : Option (List ℕ)) (found : Found) → walk a bounds level page low high ≡ Some found → AllKeys (is_between low high) found.pairs
walk_within a bounds zero page low high found e =
    let f = bind_some (leaf_of (place_in bounds 0 page) low high (a page)) (λ pairs. Some (record { pages = page ∷ []; pairs = pairs })) found e in
    subst (λ (x : Found). AllKeys (is_between low high) x.pairs) (some_is _ found f.2) (leaf_within (place_in bounds 0 page) low high (a page) f.0 f.1)
walk_within a bounds (suc level) page low high found e =
    let f = bind_some (branch_of (place_in bounds (suc level) page) low high (a page)) (λ children. fan (walk a bounds level) low high children >>= λ under. Some (record { pages = page ∷ under.pages; pairs = under.pairs })) found e in
    let g = bind_some (fan (walk a bounds level) low high f.0) (λ under. Some (record { pages = page ∷ under.pages; pairs = under.pairs })) found f.2 in
    subst (λ (x : Found). AllKeys (is_between low high) x.pairs) (some_is _ found g.2)
    (fan_within (walk a bounds level) (λ p l h x i. walk_within a bounds level p l h x i) f.0 low high g.0 (branch_inside (place_in bounds (suc level) page) low high (a page) f.0 f.1) g.1)

-- ---- a page says its level

entries_level : {E : Type 0} (entry_at : List ℕ → Option (E × List ℕ)) (place : Place) (bytes : List ℕ) (entries : List E) → entries_of entry_at place bytes ≡ Some entries → head_level (head_at page_word bytes) ≡ place.level
unfolding entries_of
entries_level entry_at place bytes entries e =
    let f = bind_some (head_at page_word bytes) (λ head. entries_at entry_at head.0.count head.1 >>= λ es. where_true (fits_place place head.0 && list_all is_zero es.1) (Some es.0)) entries e in
    let g = bind_some (entries_at entry_at f.0.0.count f.0.1) (λ es. where_true (fits_place place f.0.0 && list_all is_zero es.1) (Some es.0)) entries f.2 in
    let t = test_passed (fits_place place f.0.0 && list_all is_zero g.0.1) (Some g.0.0) entries g.2 in
    let b = both_true (fits_place place f.0.0) (list_all is_zero g.0.1) t.0 in
    let c = both_true (f.0.0.number == place.page) (f.0.0.level == place.level && (nat_le 1 f.0.0.generation && (nat_le f.0.0.generation place.seal && nat_le 1 f.0.0.count))) b.0 in
    let d = both_true (f.0.0.level == place.level) (nat_le 1 f.0.0.generation && (nat_le f.0.0.generation place.seal && nat_le 1 f.0.0.count)) c.1 in
    ap head_level f.1 ∙ eqb-true f.0.0.level place.level d.0

leaf_level : (place : Place) (low : List ℕ) (high : Option (List ℕ)) (bytes : List ℕ) (pairs : List Pair) → leaf_of place low high bytes ≡ Some pairs → head_level (head_at page_word bytes) ≡ place.level
unfolding leaf_of
leaf_level place low high bytes pairs e =
    let f = bind_some (entries_of pair_at place bytes) (λ ps. where_true (are_leaf low high ps) (Some ps)) pairs e in
    entries_level pair_at place bytes f.0 f.1

branch_level : (place : Place) (low : List ℕ) (high : Option (List ℕ)) (bytes : List ℕ) (children : List Child) → branch_of place low high bytes ≡ Some children → head_level (head_at page_word bytes) ≡ place.level
unfolding branch_of
branch_level place low high bytes children e =
    let f = bind_some (entries_of child_at place bytes) (λ cs. where_true (are_branch place.pages low high cs) (Some cs)) children e in
    entries_level child_at place bytes f.0 f.1

pub walk_level : (a : ℕ → List ℕ) (bounds : Bounds) (level page : ℕ) (low : List ℕ) (high : Option (List ℕ)) (found : Found) → walk a bounds level page low high ≡ Some found → head_level (head_at page_word (a page)) ≡ level
walk_level a bounds zero page low high found e =
    let f = bind_some (leaf_of (place_in bounds 0 page) low high (a page)) (λ pairs. Some (record { pages = page ∷ []; pairs = pairs })) found e in
    leaf_level (place_in bounds 0 page) low high (a page) f.0 f.1
walk_level a bounds (suc level) page low high found e =
    let f = bind_some (branch_of (place_in bounds (suc level) page) low high (a page)) (λ children. fan (walk a bounds level) low high children >>= λ under. Some (record { pages = page ∷ under.pages; pairs = under.pairs })) found e in
    branch_level (place_in bounds (suc level) page) low high (a page) f.0 f.1

-- ---- the pages of an image are as a tree may name them

pub not_below_nothing : (key : List ℕ) → precedes key [] ≡ false
not_below_nothing [] = refl
not_below_nothing (b ∷ bs) = refl

pub old_pairs : (a : ℕ → List ℕ) (bounds : Bounds) (level page : ℕ) (low : List ℕ) (high : Option (List ℕ)) (found : Found) → walk a bounds level page low high ≡ Some found → (old_of a bounds).pairs page ≡ found.pairs
old_pairs a bounds level page low high found e =
    ap (λ (l : ℕ). found_pairs (walk a bounds l page [] None)) (walk_level a bounds level page low high found e)
    ∙ ap found_pairs (walk_wider a bounds level page low [] high None found (not_below_nothing low) (λ key h. refl) e)

pub is_found : (r : Option Found) → is_some r ≡ true → (found : Found) × (r ≡ Some found)
is_found None h = absurd (cc h)
is_found (Some found) h = (found, refl)

pub walk_keys : (a : ℕ → List ℕ) (bounds : Bounds) (level n : ℕ) (low : List ℕ) (high : Option (List ℕ)) → (old_of a bounds).stands level n low high ≡ true → list_all (is_between low high) (map key_of ((old_of a bounds).pairs n)) ≡ true
walk_keys a bounds level n low high h =
    let f = is_found (walk a bounds level n low high) h in
    ap (λ (l : List Pair). list_all (is_between low high) (map key_of l)) (old_pairs a bounds level n low high f.0 f.1) ∙ keys_all (is_between low high) f.0.pairs (walk_within a bounds level n low high f.0 f.1)

pub walk_widens : (a : ℕ → List ℕ) (bounds : Bounds) (level n : ℕ) (low lower : List ℕ) (high higher : Option (List ℕ)) → precedes low lower ≡ false → IsUpTo high higher → (old_of a bounds).stands level n low high ≡ true
    → (old_of a bounds).stands level n lower higher ≡ true
walk_widens a bounds level n low lower high higher l k h =
    let f = is_found (walk a bounds level n low high) h in
    ap is_some (walk_wider a bounds level n low lower high higher f.0 l k f.1)
