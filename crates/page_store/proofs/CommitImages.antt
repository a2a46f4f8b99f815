-- What the images of a commit hold.
use Rattle.std.proofs.Common.{◌≡◌, ◌⊎◌, inl, inr, ⊎_elim, ℕ, zero, suc, ◌≤◌, ◌<◌, ◌+◌, Bool, true, false, List, [], ◌∷◌, ◌++◌, length, map, drop, Option, Some, None, refl, sym, ap, subst, IsTrue, arith}
use Rattle.std.specs.Prelude.{◌||◌, ◌&&◌, ◌==◌, nat_le, nat_lt}
use Rattle.std.specs.List.{list_all}
use Rattle.std.proofs.lemmas.Bool.{leb-true, eqb-true}
use Rattle.page_store.specs.Reading.{◌>>=◌, where_true}
use Rattle.page_store.specs.declared.slot.Slot.{Slot}
use Rattle.page_store.specs.Pages.{Pair, Child, Place, leaf_of, branch_of, entries_of, child_at, is_inside, are_branch, starts_empty, child_key}
use Rattle.page_store.specs.Keys.{rises, is_between}
use Rattle.page_store.specs.Content.{Found, Bounds, place_in, nothing_found, joined, low_of, high_of, fan, walk, tree_of, tree_found, flat_found, found_as, content_under, is_among, are_distinct}
use Rattle.page_store.specs.Batch.{is_map}
use Rattle.page_store.specs.Flat.{flat_walk, half_size, is_half, numbers_from}
use Rattle.page_store.specs.declared.slot.Root.{Root}
use Rattle.page_store.proofs.Fields.{bind_some, test_passed}

-- ---- each page that is reached is no root slot

among_cases : (n : ℕ) (xs ys : List ℕ) → IsTrue (is_among n (xs ++ ys)) → IsTrue (is_among n xs) ⊎ IsTrue (is_among n ys)
among_cases n [] ys h = inr h
among_cases n (x ∷ xs) ys h = cases (n == x) (is_among n xs) (is_among n (xs ++ ys)) (among_cases n xs ys) h
  where
    cases : (a b c : Bool) → (IsTrue c → IsTrue b ⊎ IsTrue (is_among n ys)) → IsTrue (a || c) → IsTrue (a || b) ⊎ IsTrue (is_among n ys)
    cases true b c f h = inl refl
    cases false b c f h = f h

abbrev AreInside : List ℕ → Type 0
AreInside ns = (n : ℕ) → IsTrue (is_among n ns) → 2 ≤ n

pub both_true : (a b : Bool) → a && b ≡ true → (a ≡ true) × (b ≡ true)
both_true true b h = (refl, h)
both_true false b h = absurd cc

abbrev Reaches : (ℕ → List ℕ → Option (List ℕ) → Option Found) → Type 0
Reaches under = (page : ℕ) (low : List ℕ) (high : Option (List ℕ)) (found : Found) → 2 ≤ page → under page low high ≡ Some found → AreInside found.pages

abbrev some : Found → Option Found
some x = Some x

pub some_is : (x y : Found) → some x ≡ some y → x ≡ y
some_is x y e = cc

fan-inside : (under : ℕ → List ℕ → Option (List ℕ) → Option Found) → Reaches under → (pages : ℕ) (children : List Child) (low : List ℕ) (high : Option (List ℕ)) (found : Found)
    → list_all (is_inside pages) children ≡ true → fan under low high children ≡ Some found → AreInside found.pages
fan-inside under reaches pages [] low high found all e = λ n m. absurd (cc (m, ap (λ (x : Found). is_among n x.pages) (some_is nothing_found found e)))
fan-inside under reaches pages (child ∷ children) low high found all e =
    let f = bind_some (under child.page (low_of low child.key) (high_of children high)) (λ here. fan under low high children >>= λ others. Some (joined here others)) found e in
    let g = bind_some (fan under low high children) (λ others. Some (joined f.0 others)) found f.2 in
    let ns : f.0.pages ++ g.0.pages ≡ found.pages = ap (λ (x : Found). x.pages) (some_is (joined f.0 g.0) found g.2) in
    let b = both_true (is_inside pages child) (list_all (is_inside pages) children) all in
    let c = both_true (nat_le 2 child.page) (nat_lt child.page pages) b.0 in
    let here = reaches child.page (low_of low child.key) (high_of children high) f.0 (leb-true 2 child.page c.0) f.1 in
    let rest = fan-inside under reaches pages children low high g.0 b.1 g.1 in
    λ n m. ⊎_elim (here n) (rest n) (among_cases n f.0.pages g.0.pages (subst (λ (l : List ℕ). IsTrue (is_among n l)) (sym ns) m))

abbrev some_children : List Child → Option (List Child)
some_children x = Some x

children_are : (x y : List Child) → some_children x ≡ some_children y → x ≡ y
children_are x y e = cc

branch_tests : (pages : ℕ) (low : List ℕ) (high : Option (List ℕ)) (children : List Child) → are_branch pages low high children ≡ true → list_all (is_inside pages) children ≡ true
branch_tests pages low high children e =
    let a = both_true (starts_empty (map child_key children)) (rises (map child_key children) && (list_all (is_between low high) (drop 1 (map child_key children)) && list_all (is_inside pages) children)) e in
    let b = both_true (rises (map child_key children)) (list_all (is_between low high) (drop 1 (map child_key children)) && list_all (is_inside pages) children) a.1 in
    (both_true (list_all (is_between low high) (drop 1 (map child_key children))) (list_all (is_inside pages) children) b.1).1

branch-inside : (place : Place) (low : List ℕ) (high : Option (List ℕ)) (bytes : List ℕ) (children : List Child) → branch_of place low high bytes ≡ Some children → list_all (is_inside place.pages) children ≡ true
unfolding branch_of
branch-inside place low high bytes children e =
    let f = bind_some (entries_of child_at place bytes) (λ cs. where_true (are_branch place.pages low high cs) (Some cs)) children e in
    let t = test_passed (are_branch place.pages low high f.0) (Some f.0) children f.2 in
    subst (λ (l : List Child). list_all (is_inside place.pages) l ≡ true) (children_are f.0 children t.1) (branch_tests place.pages low high f.0 t.0)

or_false : (b : Bool) → IsTrue (b || false) → b ≡ true
or_false true h = refl
or_false false h = absurd cc

first_or : (n page : ℕ) (ns : List ℕ) → 2 ≤ page → AreInside ns → IsTrue (is_among n (page ∷ ns)) → 2 ≤ n
first_or n page ns le h m = ⊎_elim (λ (x : IsTrue (is_among n (page ∷ []))). let is : n ≡ page = eqb-true n page (or_false (n == page) x) in omega arith) (h n) (among_cases n (page ∷ []) ns m)

abbrev some_pairs : List Pair → Option (List Pair)
some_pairs x = Some x

walk-inside : (a : ℕ → List ℕ) (bounds : Bounds) (level page : ℕ) (low : List ℕ) (high : Option (List ℕ)) (found : Found) → 2 ≤ page → walk a bounds level page low high ≡ Some found → AreInside found.pages
walk-inside a bounds zero page low high found le e =
    let f = bind_some (leaf_of (place_in bounds 0 page) low high (a page)) (λ pairs. Some (record { pages = page ∷ []; pairs = pairs })) found e in
    let ns : page ∷ [] ≡ found.pages = ap (λ (x : Found). x.pages) (some_is _ found f.2) in
    λ n m. first_or n page [] le (λ k x. absurd (cc x)) (subst (λ (l : List ℕ). IsTrue (is_among n l)) (sym ns) m)
walk-inside a bounds (suc level) page low high found le e =
    let f = bind_some (branch_of (place_in bounds (suc level) page) low high (a page)) (λ children. fan (walk a bounds level) low high children >>= λ under. Some (record { pages = page ∷ under.pages; pairs = under.pairs })) found e in
    let g = bind_some (fan (walk a bounds level) low high f.0) (λ under. Some (record { pages = page ∷ under.pages; pairs = under.pairs })) found f.2 in
    let ns : page ∷ g.0.pages ≡ found.pages = ap (λ (x : Found). x.pages) (some_is _ found g.2) in
    let under = fan-inside (walk a bounds level) (walk-inside a bounds level) bounds.pages f.0 low high g.0 (branch-inside (place_in bounds (suc level) page) low high (a page) f.0 f.1) g.1 in
    λ n m. first_or n page g.0.pages le under (subst (λ (l : List ℕ). IsTrue (is_among n l)) (sym ns) m)

tree-inside : (a : ℕ → List ℕ) (bounds : Bounds) (height page : ℕ) (found : Found) → tree_of a bounds height page ≡ Some found → AreInside found.pages
tree-inside a bounds zero page found e =
    let t = test_passed (page == 0) (Some nothing_found) found e in
    λ n m. absurd (cc (m, ap (λ (x : Found). is_among n x.pages) (some_is nothing_found found t.1)))
tree-inside a bounds (suc level) page found e =
    let t = test_passed (nat_le level 15 && (nat_le 2 page && nat_lt page bounds.pages)) (walk a bounds level page [] None) found e in
    let b = both_true (nat_le level 15) (nat_le 2 page && nat_lt page bounds.pages) t.0 in
    let c = both_true (nat_le 2 page) (nat_lt page bounds.pages) b.1 in
    walk-inside a bounds level page [] None found (leb-true 2 page c.0) t.1

tree_found-inside : (slot : Slot) (a : ℕ → List ℕ) (found : Found) → tree_found slot a ≡ Some found → AreInside found.pages
unfolding tree_found
tree_found-inside slot a found e =
    let f = bind_some (tree_of a (record { pages = slot.root.pages; seal = slot.seal }) slot.root.height slot.root.tree) (λ x. where_true (are_distinct x.pages && (length x.pairs == slot.root.keys)) (Some x)) found e in
    let t = test_passed (are_distinct f.0.pages && (length f.0.pairs == slot.root.keys)) (Some f.0) found f.2 in
    subst (λ (x : Found). AreInside x.pages) (some_is f.0 found t.1) (tree-inside a (record { pages = slot.root.pages; seal = slot.seal }) slot.root.height slot.root.tree f.0 f.1)

pub from_first : (first count n : ℕ) → IsTrue (is_among n (numbers_from first count)) → (first ≤ n) × (n < first + count)
from_first first zero n h = absurd (cc h)
from_first first (suc count) n h =
    ⊎_elim (λ (x : IsTrue (is_among n (first ∷ []))). let is : n ≡ first = eqb-true n first (or_false (n == first) x) in (omega arith, omega arith))
    (λ rest. let more = from_first (suc first) count n rest in (omega (arith, more.0), omega (arith, more.1))) (among_cases n (first ∷ []) (numbers_from (suc first) count) h)

either_true : (a b : Bool) → (a || b) ≡ true → (a ≡ true) ⊎ (b ≡ true)
either_true true b h = inl refl
either_true false b h = inr h

half-first : (root : Root) → is_half root ≡ true → 2 ≤ root.tree
half-first root h =
    let a = both_true (root.height == 0) (root.tree == 2 || root.tree == 2 + half_size root.pages) h in
    ⊎_elim (λ first. let is : root.tree ≡ 2 = eqb-true root.tree 2 first in omega arith)
    (λ second. let is : root.tree ≡ 2 + half_size root.pages = eqb-true root.tree (2 + half_size root.pages) second in omega arith)
    (either_true (root.tree == 2) (root.tree == 2 + half_size root.pages) a.1)

flat_found-inside : (slot : Slot) (a : ℕ → List ℕ) (found : Found) → flat_found slot a ≡ Some found → AreInside found.pages
unfolding flat_found
flat_found-inside slot a found e =
    let half = half_size slot.root.pages in
    let f = bind_some (flat_walk a slot.seal half slot.root.tree 0 slot.root.keys) (λ pairs. where_true (is_half slot.root && is_map pairs) (Some (record { pages = numbers_from slot.root.tree half; pairs = pairs }))) found e in
    let t = test_passed (is_half slot.root && is_map f.0) (Some (record { pages = numbers_from slot.root.tree half; pairs = f.0 })) found f.2 in
    let both = both_true (is_half slot.root) (is_map f.0) t.0 in
    let low = half-first slot.root both.0 in
    subst (λ (x : Found). AreInside x.pages) (some_is (record { pages = numbers_from slot.root.tree half; pairs = f.0 }) found t.1)
    (λ n m. let at = from_first slot.root.tree half n m in omega (arith, at.0, low))

found_as-inside : (version : ℕ) (slot : Slot) (a : ℕ → List ℕ) (found : Found) → found_as version slot a ≡ Some found → AreInside found.pages
found_as-inside zero slot a found e = flat_found-inside slot a found e
found_as-inside (suc zero) slot a found e = tree_found-inside slot a found e
found_as-inside (suc (suc zero)) slot a found e = tree_found-inside slot a found e
found_as-inside (suc (suc (suc version))) slot a found e = absurd (cc e)

pub content_under-inside : (slot : Slot) (a : ℕ → List ℕ) (found : Found) → content_under slot a ≡ Some found → AreInside found.pages
unfolding content_under
content_under-inside slot a found e = found_as-inside slot.root.banner.version slot a found e
