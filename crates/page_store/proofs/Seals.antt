-- A walk under a greater seal finds the same.
use Rattle.std.proofs.Common.{◌≡◌, ◌∷◌, ℕ, zero, suc, ◌≤◌, true, List, [], Option, Some, refl, arith}
use Rattle.std.specs.Prelude.{◌&&◌, ◌==◌, nat_le}
use Rattle.std.specs.List.{list_all}
use Rattle.std.proofs.lemmas.Bool.{leb-true, le-leb}
use Rattle.page_store.specs.Reading.{◌>>=◌, where_true}
use Rattle.page_store.specs.Roots.{is_zero}
use Rattle.page_store.specs.Pages.{Pair, Child, Head, Place, head_at, page_word, pair_at, child_at, entries_at, entries_of, fits_place, leaf_of, branch_of, are_leaf, are_branch}
use Rattle.page_store.specs.Content.{Found, Bounds, place_in, joined, low_of, high_of, fan, walk}
use Rattle.page_store.proofs.Fields.{bind_some, bind_again, test_passed}
use Rattle.page_store.proofs.CommitImages.{both_true}

abbrev later : Place → ℕ → Place
later place seal = record { page = place.page; level = place.level; pages = place.pages; seal = seal }

fits_later : (place : Place) (head : Head) (seal : ℕ) → place.seal ≤ seal → fits_place place head ≡ true → fits_place (later place seal) head ≡ true
fits_later place head seal le e =
    let a = both_true (head.number == place.page) (head.level == place.level && (nat_le 1 head.generation && (nat_le head.generation place.seal && nat_le 1 head.count))) e in
    let b = both_true (head.level == place.level) (nat_le 1 head.generation && (nat_le head.generation place.seal && nat_le 1 head.count)) a.1 in
    let c = both_true (nat_le 1 head.generation) (nat_le head.generation place.seal && nat_le 1 head.count) b.1 in
    let d = both_true (nat_le head.generation place.seal) (nat_le 1 head.count) c.1 in
    let old = leb-true head.generation place.seal d.0 in
    let new : nat_le head.generation seal ≡ true = le-leb head.generation seal (omega arith) in
    rw (a.0, b.0, c.0, new, d.1) refl

entries_later : {E : Type 0} (entry_at : List ℕ → Option (E × List ℕ)) (place : Place) (bytes : List ℕ) (seal : ℕ) (entries : List E) → place.seal ≤ seal → entries_of entry_at place bytes ≡ Some entries → entries_of entry_at (later place seal) bytes ≡ Some entries
unfolding entries_of
entries_later entry_at place bytes seal entries le e =
    let f = bind_some (head_at page_word bytes) (λ head. entries_at entry_at head.0.count head.1 >>= λ es. where_true (fits_place place head.0 && list_all is_zero es.1) (Some es.0)) entries e in
    let g = bind_some (entries_at entry_at f.0.0.count f.0.1) (λ es. where_true (fits_place place f.0.0 && list_all is_zero es.1) (Some es.0)) entries f.2 in
    let t = test_passed (fits_place place f.0.0 && list_all is_zero g.0.1) (Some g.0.0) entries g.2 in
    let b = both_true (fits_place place f.0.0) (list_all is_zero g.0.1) t.0 in
    let fits = fits_later place f.0.0 seal le b.0 in
    bind_again (head_at page_word bytes) _ f.0 (Some entries) f.1 (bind_again (entries_at entry_at f.0.0.count f.0.1) _ g.0 (Some entries) g.1 (rw (fits, b.1) t.1))

leaf_later : (place : Place) (low : List ℕ) (high : Option (List ℕ)) (bytes : List ℕ) (seal : ℕ) (pairs : List Pair) → place.seal ≤ seal → leaf_of place low high bytes ≡ Some pairs → leaf_of (later place seal) low high bytes ≡ Some pairs
unfolding leaf_of
leaf_later place low high bytes seal pairs le e =
    let f = bind_some (entries_of pair_at place bytes) (λ ps. where_true (are_leaf low high ps) (Some ps)) pairs e in
    bind_again (entries_of pair_at (later place seal) bytes) _ f.0 (Some pairs) (entries_later pair_at place bytes seal f.0 le f.1) f.2

branch_later : (place : Place) (low : List ℕ) (high : Option (List ℕ)) (bytes : List ℕ) (seal : ℕ) (children : List Child) → place.seal ≤ seal → branch_of place low high bytes ≡ Some children → branch_of (later place seal) low high bytes ≡ Some children
unfolding branch_of
branch_later place low high bytes seal children le e =
    let f = bind_some (entries_of child_at place bytes) (λ cs. where_true (are_branch place.pages low high cs) (Some cs)) children e in
    bind_again (entries_of child_at (later place seal) bytes) _ f.0 (Some children) (entries_later child_at place bytes seal f.0 le f.1) f.2

abbrev SameUnder : (u v : ℕ → List ℕ → Option (List ℕ) → Option Found) → Type 0
SameUnder u v = (page : ℕ) (low : List ℕ) (high : Option (List ℕ)) (found : Found) → u page low high ≡ Some found → v page low high ≡ Some found

fan_later : (u v : ℕ → List ℕ → Option (List ℕ) → Option Found) → SameUnder u v → (children : List Child) (low : List ℕ) (high : Option (List ℕ)) (found : Found) → fan u low high children ≡ Some found → fan v low high children ≡ Some found
fan_later u v same [] low high found e = e
fan_later u v same (child ∷ children) low high found e =
    let f = bind_some (u child.page (low_of low child.key) (high_of children high)) (λ here. fan u low high children >>= λ others. Some (joined here others)) found e in
    let g = bind_some (fan u low high children) (λ others. Some (joined f.0 others)) found f.2 in
    bind_again (v child.page (low_of low child.key) (high_of children high)) _ f.0 (Some found) (same child.page (low_of low child.key) (high_of children high) f.0 f.1)
    (bind_again (fan v low high children) _ g.0 (Some found) (fan_later u v same children low high g.0 g.1) g.2)

abbrev with_seal : Bounds → ℕ → Bounds
with_seal bounds seal = record { pages = bounds.pages; seal = seal }

pub walk_later : (a : ℕ → List ℕ) (bounds : Bounds) (seal level page : ℕ) (low : List ℕ) (high : Option (List ℕ)) (found : Found) → bounds.seal ≤ seal
    → walk a bounds level page low high ≡ Some found → walk a (with_seal bounds seal) level page low high ≡ Some found
walk_later a bounds seal zero page low high found le e =
    let f = bind_some (leaf_of (place_in bounds 0 page) low high (a page)) (λ pairs. Some (record { pages = page ∷ []; pairs = pairs })) found e in
    bind_again (leaf_of (place_in (with_seal bounds seal) 0 page) low high (a page)) _ f.0 (Some found) (leaf_later (place_in bounds 0 page) low high (a page) seal f.0 le f.1) f.2
walk_later a bounds seal (suc level) page low high found le e =
    let f = bind_some (branch_of (place_in bounds (suc level) page) low high (a page)) (λ children. fan (walk a bounds level) low high children >>= λ under. Some (record { pages = page ∷ under.pages; pairs = under.pairs })) found e in
    let g = bind_some (fan (walk a bounds level) low high f.0) (λ under. Some (record { pages = page ∷ under.pages; pairs = under.pairs })) found f.2 in
    bind_again (branch_of (place_in (with_seal bounds seal) (suc level) page) low high (a page)) _ f.0 (Some found) (branch_later (place_in bounds (suc level) page) low high (a page) seal f.0 le f.1)
    (bind_again (fan (walk a (with_seal bounds seal) level) low high f.0) _ g.0 (Some found)
    (fan_later (walk a bounds level) (walk a (with_seal bounds seal) level) (λ p l h x i. walk_later a bounds seal level p l h x le i) f.0 low high g.0 g.1) g.2)
