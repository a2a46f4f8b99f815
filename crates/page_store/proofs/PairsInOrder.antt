-- Pairs read one after the other.
use Rattle.std.proofs.Common.{◌≡◌, ℕ, zero, suc, ◌-◌, ◌<◌, true, false, cond, List, [], ◌∷◌, ◌++◌, length, take, map, Some, None, refl, ap, sym, ◌∙◌, arith}
use Rattle.std.specs.Prelude.{slice_get}
use Rattle.std.specs.List.{list_all}
use Rattle.std.specs.Ordering.{is_lt, ordering_reverse}
use Rattle.std.specs.declared.cmp.Ordering.{Ordering}
use Rattle.std.specs.declared.cmp.Ordering.TheVariants.{Less, Equal, Greater}
use Rattle.std.proofs.lemmas.Bool.{and_parts}
use Rattle.std.proofs.lemmas.Cmp.{nat_list_cmp_total}
use Rattle.std.proofs.lemmas.List.{length-append}
use Rattle.common_types.specs.ByteOrder.{byte_cmp}
use Rattle.page_store.specs.Keys.{precedes, rises}
use Rattle.page_store.specs.Pages.{Pair, key_of}
use Rattle.page_store.specs.Batch.{is_map, is_pair, is_key, is_value, pair_after}
use Rattle.page_store.specs.PairsInOrder.{key_or_none, last_key, AreFirst}

-- ---- byte order

less_precedes : (a b : List ℕ) → precedes a b ≡ true → byte_cmp a b ≡ Less
less_precedes a b h = less (byte_cmp a b) h
  where
    less : (o : Ordering) → is_lt o ≡ true → o ≡ Less
    less Less h = refl
    less Equal h = absurd (cc h)
    less Greater h = absurd (cc h)

precedes_trans : (a b c : List ℕ) → precedes a b ≡ true → precedes b c ≡ true → precedes a c ≡ true
precedes_trans a b c h k = ap is_lt (nat_list_cmp_total.trans a b c (less_precedes a b h) (less_precedes b c k))

not_back : (a b : List ℕ) → precedes a b ≡ true → precedes b a ≡ false
not_back a b h = ap is_lt (nat_list_cmp_total.antisymm b a ∙ ap ordering_reverse (less_precedes a b h))

not_itself : (a : List ℕ) → precedes a a ≡ false
not_itself a =
    elim (precedes a a) as (λ b. precedes a a ≡ b → b ≡ false) [
      | true ↦ λ e. sym e ∙ not_back a a e
      | false ↦ λ e. refl
    ] refl

-- ---- pairs whose keys rise above a key

abbrev Above : List ℕ → List Pair → Type 0
Above k pairs = rises (k ∷ map key_of pairs) ≡ true

first_above : (k : List ℕ) (e : Pair) (es : List Pair) → Above k (e ∷ es) → (precedes k e.0 ≡ true) × Above e.0 es
first_above k e es above = and_parts (precedes k e.0) (rises (e.0 ∷ map key_of es)) above

place_above : (k : List ℕ) (pairs : List Pair) (n : ℕ) (p : Pair) → Above k pairs → slice_get pairs n ≡ Some p → precedes k p.0 ≡ true
place_above k [] n p above some = absurd (cc some)
place_above k (e ∷ es) zero p above some = let same : e ≡ p = cc some in ap (λ (q : Pair). precedes k q.0) (sym same) ∙ (first_above k e es above).0
place_above k (e ∷ es) (suc n) p above some =
    let parts = first_above k e es above in
    precedes_trans k e.0 p.0 parts.0 (place_above e.0 es n p parts.1 some)

first_after : (k : List ℕ) (pairs : List Pair) → Above k pairs → pair_after pairs k ≡ slice_get pairs 0
first_after k [] above = refl
first_after k (e ∷ es) above = ap (λ b. cond b (Some e) (pair_after es k)) (first_above k e es above).0

-- behind the pair at a place stands the one at the next
pub after_place : (k : List ℕ) (pairs : List Pair) (n : ℕ) (p : Pair) → Above k pairs → slice_get pairs n ≡ Some p → pair_after pairs p.0 ≡ slice_get pairs (suc n)
after_place k [] n p above some = absurd (cc some)
after_place k (e ∷ es) zero p above some =
    let same : e ≡ p = cc some in
    ap (λ (q : Pair). pair_after (e ∷ es) q.0) (sym same) ∙ ap (λ b. cond b (Some e) (pair_after es e.0)) (not_itself e.0) ∙ first_after e.0 es (first_above k e es above).1
after_place k (e ∷ es) (suc n) p above some =
    let rest = (first_above k e es above).1 in
    ap (λ b. cond b (Some e) (pair_after es p.0)) (not_back e.0 p.0 (place_above e.0 es n p rest some)) ∙ after_place e.0 es n p rest some

-- ---- all pairs rise above the empty key

not_empty : (key : List ℕ) → is_key key ≡ true → precedes [] key ≡ true
not_empty [] h = absurd (cc h)
not_empty (b ∷ bs) h = refl

all_above : (pairs : List Pair) → is_map pairs ≡ true → Above [] pairs
all_above [] h = refl
all_above (e ∷ es) h =
    let parts = and_parts (rises (map key_of (e ∷ es))) (list_all is_pair (e ∷ es)) h in
    let first = and_parts (is_pair e) (list_all is_pair es) parts.1 in
    let key = and_parts (is_key e.0) (is_value e.1) first.0 in
    rw (not_empty e.0 key.0, parts.0) refl

-- ---- the pairs read so far

get_taken : (pairs : List Pair) (m n : ℕ) → m < n → slice_get (take n pairs) m ≡ slice_get pairs m
get_taken pairs m zero less = absurd (omega (arith, less))
get_taken [] m (suc n) less = refl
get_taken (e ∷ es) zero (suc n) less = refl
get_taken (e ∷ es) (suc m) (suc n) less = get_taken es m n (omega (arith, less))

last_there : (d : Pair) (ds : List Pair) → (p : Pair) × (slice_get (d ∷ ds) (length ds) ≡ Some p)
last_there d [] = (d, refl)
last_there d (e ∷ ds) = last_there e ds

-- the pair behind those that were read
pub next_behind : (some all : List Pair) → is_map all ≡ true → AreFirst some all → pair_after all (last_key some) ≡ slice_get all (length some)
next_behind [] all map first = first_after [] all (all_above all map)
next_behind (d ∷ ds) all map first =
    let last = last_there d ds in
    let place : slice_get all (length ds) ≡ Some last.0 = sym (get_taken all (length ds) (suc (length ds)) (omega arith)) ∙ ap (λ l. slice_get l (length ds)) (sym first) ∙ last.1 in
    let size : length (d ∷ ds) - 1 ≡ length ds = omega arith in
    ap (λ n. pair_after all (key_or_none (slice_get (d ∷ ds) n))) size ∙ ap (λ o. pair_after all (key_or_none o)) last.1 ∙ after_place [] all (length ds) last.0 (all_above all map) place

take_more : (all : List Pair) (n : ℕ) (p : Pair) → slice_get all n ≡ Some p → take n all ++ p ∷ [] ≡ take (suc n) all
take_more [] n p some = absurd (cc some)
take_more (e ∷ es) zero p some = let same : e ≡ p = cc some in ap (λ q. q ∷ []) (sym same)
take_more (e ∷ es) (suc n) p some = ap (λ l. e ∷ l) (take_more es n p some)

take_whole : (all : List Pair) (n : ℕ) → slice_get all n ≡ None → take n all ≡ all
take_whole [] zero none = refl
take_whole [] (suc n) none = refl
take_whole (e ∷ es) zero none = absurd (cc none)
take_whole (e ∷ es) (suc n) none = ap (λ l. e ∷ l) (take_whole es n none)

-- one pair more is read
pub first_more : (some all : List Pair) (p : Pair) → is_map all ≡ true → AreFirst some all → Some p ≡ pair_after all (last_key some) → AreFirst (some ++ p ∷ []) all
first_more some all p map first found =
    let place : slice_get all (length some) ≡ Some p = sym (next_behind some all map first) ∙ sym found in
    let size : length (some ++ p ∷ []) ≡ suc (length some) = omega (arith, length-append some (p ∷ [])) in
    ap (λ l. l ++ p ∷ []) first ∙ take_more all (length some) p place ∙ ap (λ n. take n all) (sym size)

-- all are read
pub first_all : (some all : List Pair) → is_map all ≡ true → AreFirst some all → None ≡ pair_after all (last_key some) → some ≡ all
first_all some all map first found = first ∙ take_whole all (length some) (sym (next_behind some all map first) ∙ sym found)
