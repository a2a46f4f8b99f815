-- What an image holds depends on the current slot and the pages that were reached.
use Rattle.std.proofs.Common.{◌≡◌, ℕ, zero, suc, Bool, true, false, List, [], ◌∷◌, ◌++◌, Option, Some, None, refl, sym, ap, subst, ◌∙◌, IsTrue, eq-eqb}
use Rattle.std.specs.Prelude.{◌||◌, ◌==◌}
use Rattle.page_store.specs.Reading.{◌>>=◌}
use Rattle.page_store.specs.declared.slot.Slot.{Slot}
use Rattle.page_store.specs.Pages.{Child, leaf_of, branch_of}
use Rattle.page_store.specs.Content.{Found, Bounds, place_in, joined, low_of, high_of, fan, walk, tree_of, tree_found, flat_found, found_as, content_under, is_among}
use Rattle.page_store.specs.Flat.{flat_walk, half_size, numbers_from}
use Rattle.page_store.specs.Same.{Agree}
use Rattle.page_store.proofs.Fields.{bind_some, bind_again, test_passed}

abbrev some : Found → Option Found
some x = Some x

some_is : (x y : Found) → some x ≡ some y → x ≡ y
some_is x y e = cc

among_left : (n : ℕ) (xs ys : List ℕ) → IsTrue (is_among n xs) → IsTrue (is_among n (xs ++ ys))
among_left n [] ys h = absurd (cc h)
among_left n (x ∷ xs) ys h = or_more (n == x) (is_among n xs) (is_among n (xs ++ ys)) (among_left n xs ys) h
  where
    or_more : (a b c : Bool) → (IsTrue b → IsTrue c) → IsTrue (a || b) → IsTrue (a || c)
    or_more true b c f h = refl
    or_more false b c f h = f h

pub among_right : (n : ℕ) (xs ys : List ℕ) → IsTrue (is_among n ys) → IsTrue (is_among n (xs ++ ys))
among_right n [] ys h = h
among_right n (x ∷ xs) ys h = or_right (n == x) (is_among n (xs ++ ys)) (among_right n xs ys h)
  where
    or_right : (a b : Bool) → IsTrue b → IsTrue (a || b)
    or_right true b h = refl
    or_right false b h = h

among_first : (n : ℕ) (ns : List ℕ) → IsTrue (is_among n (n ∷ ns))
among_first n ns = rw (eq-eqb n n refl) refl

abbrev Keeps : (a b : ℕ → List ℕ) → (u v : ℕ → List ℕ → Option (List ℕ) → Option Found) → Type 0
Keeps a b u v = (page : ℕ) (low : List ℕ) (high : Option (List ℕ)) (found : Found) → u page low high ≡ Some found → Agree found.pages a b → v page low high ≡ Some found

fan-local : (a b : ℕ → List ℕ) (u v : ℕ → List ℕ → Option (List ℕ) → Option Found) → Keeps a b u v → (children : List Child) (low : List ℕ) (high : Option (List ℕ)) (found : Found)
    → fan u low high children ≡ Some found → Agree found.pages a b → fan v low high children ≡ Some found
fan-local a b u v keeps [] low high found e same = e
fan-local a b u v keeps (child ∷ children) low high found e same =
    let f = bind_some (u child.page (low_of low child.key) (high_of children high)) (λ here. fan u low high children >>= λ others. Some (joined here others)) found e in
    let g = bind_some (fan u low high children) (λ others. Some (joined f.0 others)) found f.2 in
    let is : joined f.0 g.0 ≡ found = cc g.2 in
    let pages : f.0.pages ++ g.0.pages ≡ found.pages = ap (λ (x : Found). x.pages) is in
    let h1 = keeps child.page (low_of low child.key) (high_of children high) f.0 f.1 (λ n m. same n (subst (λ (l : List ℕ). IsTrue (is_among n l)) pages (among_left n f.0.pages g.0.pages m))) in
    let h2 = fan-local a b u v keeps children low high g.0 g.1 (λ n m. same n (subst (λ (l : List ℕ). IsTrue (is_among n l)) pages (among_right n f.0.pages g.0.pages m))) in
    bind_again (v child.page (low_of low child.key) (high_of children high)) _ f.0 (Some found) h1 (bind_again (fan v low high children) _ g.0 (Some found) h2 g.2)

pub walk-local : (a b : ℕ → List ℕ) (bounds : Bounds) (level page : ℕ) (low : List ℕ) (high : Option (List ℕ)) (found : Found)
    → walk a bounds level page low high ≡ Some found → Agree found.pages a b → walk b bounds level page low high ≡ Some found
walk-local a b bounds zero page low high found e same =
    let f = bind_some (leaf_of (place_in bounds 0 page) low high (a page)) (λ pairs. Some (record { pages = page ∷ []; pairs = pairs })) found e in
    let pages : page ∷ [] ≡ found.pages = ap (λ (x : Found). x.pages) (some_is _ found f.2) in
    let here : a page ≡ b page = same page (subst (λ (l : List ℕ). IsTrue (is_among page l)) pages (among_first page [])) in
    bind_again (leaf_of (place_in bounds 0 page) low high (b page)) _ f.0 (Some found) (ap (leaf_of (place_in bounds 0 page) low high) (sym here) ∙ f.1) f.2
walk-local a b bounds (suc level) page low high found e same =
    let f = bind_some (branch_of (place_in bounds (suc level) page) low high (a page)) (λ children. fan (walk a bounds level) low high children >>= λ under. Some (record { pages = page ∷ under.pages; pairs = under.pairs })) found e in
    let g = bind_some (fan (walk a bounds level) low high f.0) (λ under. Some (record { pages = page ∷ under.pages; pairs = under.pairs })) found f.2 in
    let pages : page ∷ g.0.pages ≡ found.pages = ap (λ (x : Found). x.pages) (some_is _ found g.2) in
    let here : a page ≡ b page = same page (subst (λ (l : List ℕ). IsTrue (is_among page l)) pages (among_first page g.0.pages)) in
    let under = fan-local a b (walk a bounds level) (walk b bounds level) (walk-local a b bounds level) f.0 low high g.0 g.1
    (λ n m. same n (subst (λ (l : List ℕ). IsTrue (is_among n l)) pages (among_right n (page ∷ []) g.0.pages m))) in
    bind_again (branch_of (place_in bounds (suc level) page) low high (b page)) _ f.0 (Some found) (ap (branch_of (place_in bounds (suc level) page) low high) (sym here) ∙ f.1)
    (bind_again (fan (walk b bounds level) low high f.0) _ g.0 (Some found) under g.2)

tree-local : (a b : ℕ → List ℕ) (bounds : Bounds) (height page : ℕ) (found : Found)
    → tree_of a bounds height page ≡ Some found → Agree found.pages a b → tree_of b bounds height page ≡ Some found
tree-local a b bounds zero page found e same = e
tree-local a b bounds (suc level) page found e same =
    let t = test_passed _ (walk a bounds level page [] None) found e in
    rw t.0 (walk-local a b bounds level page [] None found t.1 same)

tree_found-local : (slot : Slot) (a b : ℕ → List ℕ) (found : Found) → tree_found slot a ≡ Some found → Agree found.pages a b → tree_found slot b ≡ Some found
unfolding tree_found
tree_found-local slot a b found e same =
    let f = bind_some (tree_of a (record { pages = slot.root.pages; seal = slot.seal }) slot.root.height slot.root.tree) _ found e in
    let t = test_passed _ (Some f.0) found f.2 in
    let is : f.0 ≡ found = cc t.1 in
    let h = tree-local a b (record { pages = slot.root.pages; seal = slot.seal }) slot.root.height slot.root.tree f.0 f.1 (subst (λ (x : Found). Agree x.pages a b) (sym is) same) in
    bind_again _ _ f.0 (Some found) h f.2

walks_same : (a b : ℕ → List ℕ) (seal left page room keys : ℕ) → Agree (numbers_from page left) a b → flat_walk a seal left page room keys ≡ flat_walk b seal left page room keys
walks_same a b seal zero page room keys same = refl
walks_same a b seal (suc left) page room keys same =
    let here : a page ≡ b page = same page (among_first page (numbers_from (suc page) left)) in
    let more = λ (r : ℕ) (k : ℕ). walks_same a b seal left (suc page) r k (λ n m. same n (among_right n (page ∷ []) (numbers_from (suc page) left) m)) in
    rw here (simp more)

flat_found-local : (slot : Slot) (a b : ℕ → List ℕ) (found : Found) → flat_found slot a ≡ Some found → Agree found.pages a b → flat_found slot b ≡ Some found
unfolding flat_found
flat_found-local slot a b found e same =
    let half = half_size slot.root.pages in
    let f = bind_some (flat_walk a slot.seal half slot.root.tree 0 slot.root.keys) _ found e in
    let t = test_passed _ (Some (record { pages = numbers_from slot.root.tree half; pairs = f.0 })) found f.2 in
    let is : record { pages = numbers_from slot.root.tree half; pairs = f.0 } ≡ found = some_is _ found t.1 in
    let h = walks_same a b slot.seal half slot.root.tree 0 slot.root.keys (subst (λ (x : Found). Agree x.pages a b) (sym is) same) in
    rw (← h) e

found_as-local : (version : ℕ) (slot : Slot) (a b : ℕ → List ℕ) (found : Found) → found_as version slot a ≡ Some found → Agree found.pages a b → found_as version slot b ≡ Some found
found_as-local zero slot a b found e same = flat_found-local slot a b found e same
found_as-local (suc zero) slot a b found e same = tree_found-local slot a b found e same
found_as-local (suc (suc zero)) slot a b found e same = tree_found-local slot a b found e same
found_as-local (suc (suc (suc version))) slot a b found e same = absurd (cc e)

pub content_under-local : (slot : Slot) (a b : ℕ → List ℕ) (found : Found) → content_under slot a ≡ Some found → Agree found.pages a b → content_under slot b ≡ Some found
unfolding content_under
content_under-local slot a b found e same = found_as-local slot.root.banner.version slot a b found e same
