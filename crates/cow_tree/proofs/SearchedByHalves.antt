-- What is found by halves among keys that rise.
use Rattle.std.proofs.Common.{◌≡◌, ℕ, zero, suc, ◌+◌, ◌-◌, ◌≤◌, ◌<◌, Bool, true, false, List, [], ◌∷◌, length, map, Option, Some, None, refl, sym, ap, subst, ◌∙◌, cond, arith}
use Rattle.std.specs.Prelude.{slice_get, slice_index_or, option_map}
use Rattle.std.specs.Ordering.{is_eq}
use Rattle.std.specs.BTreeMap.{is_at}
use Rattle.common_types.specs.ByteOrder.{byte_cmp}
use Rattle.page_store.specs.Keys.{precedes, rises}
use Rattle.page_store.specs.Pages.{Pair, Child, key_of, child_key, starts_empty}
use Rattle.page_store.specs.Batch.{value_at}
use Rattle.tree_nodes.proofs.KeyOrder.{both_true, by_bool, less_is, greater_is, not_back, below_below, below_upto}
use Rattle.tree_nodes.proofs.WalksWithinBounds.{not_below_nothing}
use Rattle.cow_tree.specs.KeptPlaces.{AreFoundAt, count_upto}
use Rattle.cow_tree.specs.Ways.{pages_around}

abbrev some_key : List ℕ → Option (List ℕ)
some_key k = Some k

key_is : (a b : List ℕ) → some_key a ≡ some_key b → a ≡ b
key_is a b e = cc

no_key : (k : List ℕ) → None ≡ some_key k → ⊥
no_key k e = cc e

-- ---- keys

-- no more come before a key that is above
pub upto_high : (key : List ℕ) (keys : List (List ℕ)) (m : ℕ) (k : List ℕ) → slice_get keys m ≡ some_key k → precedes key k ≡ true → count_upto key keys ≤ m
upto_high key [] m k e above = absurd (no_key k e)
upto_high key (x ∷ xs) zero k e above =
    let up : precedes key x ≡ true = subst (λ (z : List ℕ). precedes key z ≡ true) (sym (key_is x k e)) above in
    rw up (omega arith)
upto_high key (x ∷ xs) (suc m) k e above =
    by_bool (precedes key x) (λ up. rw up (omega arith)) (λ no. let h = upto_high key xs m k e above in rw no (omega (arith, h)))

rises_rest : (x : List ℕ) (xs : List (List ℕ)) → rises (x ∷ xs) ≡ true → rises xs ≡ true
rises_rest x [] r = refl
rises_rest x (y ∷ ys) r = (both_true (precedes x y) (rises (y ∷ ys)) r).1

rise_before : (x : List ℕ) (xs : List (List ℕ)) (m : ℕ) (k : List ℕ) → rises (x ∷ xs) ≡ true → slice_get xs m ≡ some_key k → precedes x k ≡ true
rise_before x [] m k r e = absurd (no_key k e)
rise_before x (y ∷ ys) zero k r e = subst (λ (z : List ℕ). precedes x z ≡ true) (key_is y k e) (both_true (precedes x y) (rises (y ∷ ys)) r).0
rise_before x (y ∷ ys) (suc m) k r e =
    let b = both_true (precedes x y) (rises (y ∷ ys)) r in
    below_below x y k b.0 (rise_before y ys m k b.1 e)

-- a key that isn't above comes before, and all in front of it
pub upto_low : (key : List ℕ) (keys : List (List ℕ)) (m : ℕ) (k : List ℕ) → rises keys ≡ true → slice_get keys m ≡ some_key k → precedes key k ≡ false → m + 1 ≤ count_upto key keys
upto_low key [] m k r e upto = absurd (no_key k e)
upto_low key (x ∷ xs) zero k r e upto =
    let no : precedes key x ≡ false = subst (λ (z : List ℕ). precedes key z ≡ false) (sym (key_is x k e)) upto in
    rw no (omega arith)
upto_low key (x ∷ xs) (suc m) k r e upto =
    let no = not_back x key (below_upto x k key (rise_before x xs m k r e) upto) in
    let h = upto_low key xs m k (rises_rest x xs r) e upto in
    rw no (omega (arith, h))

pub upto_most : (key : List ℕ) (keys : List (List ℕ)) → count_upto key keys ≤ length keys
upto_most key [] = omega arith
upto_most key (x ∷ xs) = by_bool (precedes key x) (λ up. rw up (omega arith)) (λ no. let h = upto_most key xs in rw no (omega (arith, h)))

-- one of those that come before isn't above
upto_false : (key : List ℕ) (keys : List (List ℕ)) (m : ℕ) (k : List ℕ) → slice_get keys m ≡ some_key k → m < count_upto key keys → precedes key k ≡ false
upto_false key keys m k e few = by_bool (precedes key k) (λ up. let h = upto_high key keys m k e up in absurd (omega (arith, h, few))) (λ no. no)

key_at : (pairs : List Pair) (n : ℕ) (p : Pair) → slice_get pairs n ≡ Some p → slice_get (map key_of pairs) n ≡ some_key p.0
key_at [] n p e = absurd (cc e)
key_at (q ∷ qs) zero p e = ap (λ (o : Option Pair). option_map key_of o) e
key_at (q ∷ qs) (suc n) p e = key_at qs n p e

-- ---- pairs

none_above : (low key : List ℕ) (pairs : List Pair) → precedes key low ≡ true → rises (low ∷ map key_of pairs) ≡ true → value_at pairs key ≡ None
none_above low key [] up r = refl
none_above low key (p ∷ ps) up r =
    let b = both_true (precedes low p.0) (rises (p.0 ∷ map key_of ps)) r in
    let h = below_below key low p.0 up b.0 in
    ap (λ (t : Bool). cond t (Some p.1) (value_at ps key)) (ap is_eq (less_is key p.0 h)) ∙ none_above p.0 key ps h b.1

zero_not_suc : (n : ℕ) → 0 ≡ suc n → ⊥
zero_not_suc n e = omega (arith, e)

pub value_nowhere : (key : List ℕ) (pairs : List Pair) → rises (map key_of pairs) ≡ true → count_upto key (map key_of pairs) ≡ 0 → value_at pairs key ≡ None
value_nowhere key [] r none = refl
value_nowhere key (p ∷ ps) r none =
    by_bool (precedes key p.0)
    (λ up. ap (λ (t : Bool). cond t (Some p.1) (value_at ps key)) (ap is_eq (less_is key p.0 up)) ∙ none_above p.0 key ps up r)
    (λ no. let w : suc (count_upto key (map key_of ps)) ≡ 0 = rw no at none in absurd (omega (arith, w)))

pub value_there : (key : List ℕ) (pairs : List Pair) (n : ℕ) (p : Pair) → rises (map key_of pairs) ≡ true → count_upto key (map key_of pairs) ≡ suc n → slice_get pairs n ≡ Some p
    → value_at pairs key ≡ cond (is_at (byte_cmp key) p.0) (Some p.1) None
value_there key [] n p r count e = absurd (cc e)
value_there key (q ∷ qs) zero p r count e =
    by_bool (precedes key q.0)
    (λ up. let w : 0 ≡ 1 = rw up at count in absurd (omega (arith, w)))
    (λ no.
    let w : suc (count_upto key (map key_of qs)) ≡ 1 = rw no at count in
    let none = value_nowhere key qs (rises_rest q.0 (map key_of qs) r) (omega (arith, w)) in
    let same = pair_same q p e in
    ap (λ (o : Option (List ℕ)). cond (is_at (byte_cmp key) q.0) (Some q.1) o) none ∙ ap (λ (x : Pair). cond (is_at (byte_cmp key) x.0) (Some x.1) None) same)
  where
    pair_same : (a b : Pair) → Some a ≡ Some b → a ≡ b
    pair_same a b e = cc
value_there key (q ∷ qs) (suc n) p r count e =
    by_bool (precedes key q.0)
    (λ up. let w : 0 ≡ suc (suc n) = rw up at count in absurd (omega (arith, w)))
    (λ no.
    let w : suc (count_upto key (map key_of qs)) ≡ suc (suc n) = rw no at count in
    let less : count_upto key (map key_of qs) ≡ suc n = omega (arith, w) in
    let here = key_at qs n p e in
    let upto = upto_false key (map key_of qs) n p.0 here (omega (arith, less)) in
    let front = below_upto q.0 p.0 key (rise_before q.0 (map key_of qs) n p.0 r here) upto in
    ap (λ (t : Bool). cond t (Some q.1) (value_at qs key)) (ap is_eq (greater_is q.0 key front)) ∙ value_there key qs n p (rises_rest q.0 (map key_of qs) r) less e)

-- ---- children

page_after : List Child → ℕ → Option ℕ
page_after children n = option_map (λ c. c.page) (slice_get children n)

child_same : (a b : Child) → Some a ≡ Some b → a ≡ b
child_same a b e = cc

pub around_there : (key : List ℕ) (children : List Child) (n : ℕ) (c : Child) → count_upto key (map child_key children) ≡ suc n → slice_get children n ≡ Some c → pages_around key children ≡ Some (c.page, option_map (λ x. x.page) (slice_get children (suc n)))
around_there key [] n c count e = absurd (cc e)
around_there key (x ∷ []) zero c count e = ap (λ (y : Child). Some (y.page, None)) (child_same x c e)
around_there key (x ∷ []) (suc n) c count e = absurd (cc e)
around_there key (x ∷ y ∷ zs) zero c count e =
    by_bool (precedes key x.key)
    (λ up. let w : 0 ≡ 1 = rw up at count in absurd (omega (arith, w)))
    (λ no.
    let w : suc (count_upto key (y.key ∷ map child_key zs)) ≡ 1 = rw no at count in
    by_bool (precedes key y.key)
    (λ less. rw less (ap (λ (z : Child). Some (z.page, Some y.page)) (child_same x c e)))
    (λ more. let v : suc (suc (count_upto key (map child_key zs))) ≡ 1 = rw more at w in absurd (omega (arith, v))))
around_there key (x ∷ y ∷ zs) (suc n) c count e =
    by_bool (precedes key x.key)
    (λ up. let w : 0 ≡ suc (suc n) = rw up at count in absurd (omega (arith, w)))
    (λ no.
    let w : suc (count_upto key (y.key ∷ map child_key zs)) ≡ suc (suc n) = rw no at count in
    let less : count_upto key (y.key ∷ map child_key zs) ≡ suc n = omega (arith, w) in
    by_bool (precedes key y.key)
    (λ up. let v : 0 ≡ suc n = rw up at less in absurd (omega (arith, v)))
    (λ more. rw more (around_there key (y ∷ zs) n c less e)))

-- the first child's key is empty, and so isn't above
pub some_upto : (key : List ℕ) (children : List Child) → starts_empty (map child_key children) ≡ true → count_upto key (map child_key children) ≡ 0 → ⊥
some_upto key [] s none = cc s
some_upto key (c ∷ cs) s none = go c.key s (refl)
  where
    go : (k : List ℕ) → starts_empty (k ∷ map child_key cs) ≡ true → c.key ≡ k → ⊥
    go [] s is =
        let no : precedes key c.key ≡ false = ap (precedes key) is ∙ not_below_nothing key in
        let w : suc (count_upto key (map child_key cs)) ≡ 0 = rw no at none in
        omega (arith, w)
    go (b ∷ bs) s is = cc s

pub past_all : {E : Type 0} (all : List E) (n : ℕ) → length all ≤ n → slice_get all n ≡ None
past_all [] n h = refl
past_all (x ∷ xs) zero h = absurd (omega (arith, h))
past_all (x ∷ xs) (suc n) h = past_all xs n (omega (arith, h))

-- ---- what stands at a place

pub key_got : {E : Type 0} (found_at : ℕ → Option E) (all : List E) (count : ℕ) (at : List ℕ) (n place : ℕ) → n < count → place ≡ slice_index_or at n 0 → AreFoundAt found_at all count at → found_at place ≡ slice_get all n
key_got found_at all count at n place less is are = ap found_at is ∙ are.each n less

pub some_got : {E : Type 0} (all : List E) (n : ℕ) → n < length all → slice_get all n ≡ None → ⊥
some_got [] n less none = absurd (omega (arith, less))
some_got (x ∷ xs) zero less none = cc none
some_got (x ∷ xs) (suc n) less none = some_got xs n (omega (arith, less)) none

-- ---- by the number that a search tells

abbrev some_count : ℕ → Option ℕ
some_count n = Some n

pub count_is : (a b : ℕ) → some_count a ≡ some_count b → a ≡ b
count_is a b e = cc

map_long : {E : Type 0} (f : E → List ℕ) (all : List E) → length (map f all) ≡ length all
map_long f [] = refl
map_long f (x ∷ xs) = let h = map_long f xs in omega (arith, h)

no_page : (o : Option Child) → None ≡ option_map (λ c. c.page) o → o ≡ None
no_page None e = refl
no_page (Some c) e = absurd (cc e)

page_got : (o : Option Child) (page : ℕ) → some_count page ≡ option_map (λ c. c.page) o → (c : Child) × (o ≡ Some c) × (c.page ≡ page)
page_got None page e = absurd (cc e)
page_got (Some c) page e = (c, refl, count_is c.page page (sym e))

-- there is a child of the number before
pub page_there : (key : List ℕ) (children : List Child) (count : ℕ) → count ≡ count_upto key (map child_key children) → 1 ≤ count → None ≡ option_map (λ c. c.page) (slice_get children (count - 1)) → ⊥
page_there key children count is some none =
    let most = upto_most key (map child_key children) in
    let long = map_long child_key children in
    some_got children (count - 1) (omega (arith, is, some, most, long)) (no_page (slice_get children (count - 1)) none)

pub around_counted : (key : List ℕ) (children : List Child) (count page : ℕ) (next : Option ℕ) → count ≡ count_upto key (map child_key children) → 1 ≤ count → some_count page ≡ option_map (λ c. c.page) (slice_get children (count - 1))
    → next ≡ option_map (λ c. c.page) (slice_get children count) → Some (page, next) ≡ pages_around key children
around_counted key children count page next is some here behind =
    let c = page_got (slice_get children (count - 1)) page here in
    let more : suc (count - 1) ≡ count = omega (arith, some) in
    let around = around_there key children (count - 1) c.0 (sym is ∙ sym more) c.1 in
    sym (around ∙ ap (λ (n : ℕ). Some (c.0.page, option_map (λ (x : Child). x.page) (slice_get children n))) more ∙ ap (λ (o : Option ℕ). Some (c.0.page, o)) (sym behind) ∙ ap (λ (p : ℕ). Some (p, next)) c.2)

pub pair_counted : (key : List ℕ) (pairs : List Pair) (count : ℕ) → count ≡ count_upto key (map key_of pairs) → 1 ≤ count → None ≡ slice_get pairs (count - 1) → ⊥
pair_counted key pairs count is some none =
    let most = upto_most key (map key_of pairs) in
    let long = map_long key_of pairs in
    some_got pairs (count - 1) (omega (arith, is, some, most, long)) (sym none)

pub value_counted : (key : List ℕ) (pairs : List Pair) (count : ℕ) (p : Pair) → rises (map key_of pairs) ≡ true → count ≡ count_upto key (map key_of pairs) → 1 ≤ count → Some p ≡ slice_get pairs (count - 1)
    → value_at pairs key ≡ cond (is_at (byte_cmp key) p.0) (Some p.1) None
value_counted key pairs count p rising is some here =
    let more : suc (count - 1) ≡ count = omega (arith, some) in
    value_there key pairs (count - 1) p rising (sym is ∙ sym more) (sym here)
