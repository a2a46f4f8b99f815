-- Pairs of a tree that are read in order.
use Rattle.std.proofs.Common.{◌≡◌, ◌≤◌, ℕ, suc, Bool, true, false, cond, List, [], ◌∷◌, ◌++◌, length, take, map, Option, Some, refl, sym, ap, ◌∙◌, arith, le-leb}
use Rattle.std.specs.Prelude.{◌-◌, ◌&&◌, nat_le, slice_get}
use Rattle.std.specs.List.{list_all}
use Rattle.std.proofs.lemmas.List.{length-take, length-append}
use Rattle.page_store.specs.Keys.{precedes, rises}
use Rattle.page_store.specs.Pages.{Pair, key_of}
use Rattle.page_store.specs.Batch.{is_map, is_pair, is_key, is_value, pair_after}
use Rattle.page_store.specs.PairsInOrder.{key_or_none, last_key, AreFirst}
use Rattle.page_store.proofs.PairsInOrder.{first_more}
use Rattle.tree_nodes.proofs.KeyOrder.{both_true}

both : (a b : Bool) → a ≡ true → b ≡ true → (a && b) ≡ true
both a b h k = rw (h, k) refl

-- ---- the pair behind a key

abbrev some_pair : Pair → Option Pair
some_pair p = Some p

pair_same : (a b : Pair) → some_pair a ≡ some_pair b → a ≡ b
pair_same a b e = cc

after_precedes : (pairs : List Pair) (key : List ℕ) (found : Pair) → Some found ≡ pair_after pairs key → precedes key found.0 ≡ true
after_precedes [] key found e = absurd (cc e)
after_precedes (p ∷ ps) key found e = here (precedes key p.0) refl e (λ later. after_precedes ps key found later)
  where
    here : (t : Bool) → precedes key p.0 ≡ t → Some found ≡ cond t (Some p) (pair_after ps key) → (Some found ≡ pair_after ps key → precedes key found.0 ≡ true) → precedes key found.0 ≡ true
    here true t e later = ap (λ (q : Pair). precedes key q.0) (pair_same found p e) ∙ t
    here false t e later = later e

not_below_all : (key : List ℕ) → precedes key [] ≡ true → ⊥
not_below_all [] h = absurd (cc h)
not_below_all (b ∷ bs) h = absurd (cc h)

key_fits : (key after : List ℕ) → precedes after key ≡ true → length key ≤ 300 → is_key key ≡ true
key_fits [] after h size = absurd (not_below_all after h)
key_fits (b ∷ bs) after h size = both (nat_le 1 (length (b ∷ bs))) (nat_le (length (b ∷ bs)) 300) (le-leb 1 (length (b ∷ bs)) (omega arith)) (le-leb (length (b ∷ bs)) 300 size)

value_fits : (value : List ℕ) → length value ≤ 1024 → is_value value ≡ true
unfolding is_value
value_fits value size = le-leb (length value) 1024 size

-- it comes after the key, and has its sizes
pub behind_fits : (pairs : List Pair) (after key value : List ℕ) (size length_is : ℕ) (found : Pair) → found ≡ (take size key, take length_is value) → Some (take size key, take length_is value) ≡ pair_after pairs after → size ≤ 300 → length_is ≤ 1024
    → (precedes after found.0 ≡ true) × (is_pair found ≡ true)
behind_fits pairs after key value size length_is found same is short few =
    let next : Some found ≡ pair_after pairs after = ap some_pair same ∙ is in
    let before = after_precedes pairs after found next in
    let front = ap (λ (p : Pair). length p.0) same in
    let back = ap (λ (p : Pair). length p.1) same in
    let key_size = length-take size key in
    let value_size = length-take length_is value in
    (before, both (is_key found.0) (is_value found.1) (key_fits found.0 after before (omega (arith, front, key_size, short))) (value_fits found.1 (omega (arith, back, value_size, few))))

-- ---- one pair more

last_of_more : (e e2 : Pair) (es : List Pair) → last_key (e ∷ e2 ∷ es) ≡ last_key (e2 ∷ es)
last_of_more e e2 es =
    let long : length (e ∷ e2 ∷ es) - 1 ≡ suc (length es) = omega arith in
    let short : length (e2 ∷ es) - 1 ≡ length es = omega arith in
    ap (λ n. key_or_none (slice_get (e ∷ e2 ∷ es) n)) long ∙ sym (ap (λ n. key_or_none (slice_get (e2 ∷ es) n)) short)

rises_more : (es : List Pair) (p : Pair) → rises (map key_of es) ≡ true → precedes (last_key es) p.0 ≡ true → rises (map key_of (es ++ p ∷ [])) ≡ true
rises_more [] p r h = refl
rises_more (e ∷ []) p r h = both (precedes e.0 p.0) true h refl
rises_more (e ∷ e2 ∷ es) p r h =
    let parts = both_true (precedes e.0 e2.0) (rises (e2.0 ∷ map key_of es)) r in
    both (precedes e.0 e2.0) (rises (map key_of ((e2 ∷ es) ++ p ∷ []))) parts.0 (rises_more (e2 ∷ es) p parts.1 (sym (ap (λ (k : List ℕ). precedes k p.0) (last_of_more e e2 es)) ∙ h))

pairs_more : (es : List Pair) (p : Pair) → list_all is_pair es ≡ true → is_pair p ≡ true → list_all is_pair (es ++ p ∷ []) ≡ true
pairs_more [] p r h = both (is_pair p) true h refl
pairs_more (e ∷ es) p r h =
    let parts = both_true (is_pair e) (list_all is_pair es) r in
    both (is_pair e) (list_all is_pair (es ++ p ∷ [])) parts.0 (pairs_more es p parts.1 h)

pub map_more : (es : List Pair) (p : Pair) → is_map es ≡ true → precedes (last_key es) p.0 ≡ true → is_pair p ≡ true → is_map (es ++ p ∷ []) ≡ true
map_more es p m h k =
    let parts = both_true (rises (map key_of es)) (list_all is_pair es) m in
    both (rises (map key_of (es ++ p ∷ []))) (list_all is_pair (es ++ p ∷ [])) (rises_more es p parts.0 h) (pairs_more es p parts.1 k)

pub first_few : (some all : List Pair) → AreFirst some all → length some ≤ length all
first_few some all first = let e = ap (λ (l : List Pair). length l) first in let t = length-take (length some) all in omega (arith, e, t)

-- where so many pairs were read, and there is one more, there are more than so many
pub one_too_many : (some all : List Pair) (p : Pair) (most : ℕ) → is_map all ≡ true → AreFirst some all → Some p ≡ pair_after all (last_key some) → most ≤ length some → length all ≤ most → ⊥
one_too_many some all p most map first found full few =
    let more = first_few (some ++ p ∷ []) all (first_more some all p map first found) in
    let size = length-append some (p ∷ []) in
    omega (arith, more, size, full, few)
