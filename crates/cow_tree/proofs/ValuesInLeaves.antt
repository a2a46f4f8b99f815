-- The value of a pair of a leaf is what stands at its key in the tree.
use Rattle.std.proofs.Common.{◌≡◌, ℕ, zero, suc, ◌+◌, Bool, true, List, [], ◌∷◌, ◌++◌, length, map, Option, Some, None, refl, ap, subst, ◌∙◌, cond, arith}
use Rattle.std.specs.Prelude.{slice_get, Result, Ok, Err, OnOk, IsTrue}
use Rattle.std.specs.Result.{is_ok}
use Rattle.std.specs.declared.cmp.Ordering.{Ordering}
use Rattle.std.specs.declared.cmp.Ordering.TheVariants.{Less, Equal, Greater}
use Rattle.std.specs.Ordering.{is_eq}
use Rattle.std.specs.BTreeMap.{is_at}
use Rattle.std.specs.FinMap.{slice_cmp-IsAntisymmetric, nat_cmp-IsAntisymmetric}
use Rattle.std.specs.List.{list_all}
use Rattle.std.proofs.lemmas.Cmp.{nat_list_cmp_total, eq_by_cmp_equiv}
use Rattle.common_types.specs.ByteOrder.{byte_cmp}
use Rattle.page_store.specs.Keys.{precedes, rises}
use Rattle.page_store.specs.Pages.{Pair, key_of}
use Rattle.page_store.specs.Batch.{value_at, is_map, is_pair}
use Rattle.page_store.specs.Content.{Found, Bounds, walk}
use Rattle.tree_nodes.proofs.KeyOrder.{both_true, greater_is, below_below}
use Rattle.cow_tree.specs.KeptLeaves.{IsRun, IsPart}
use Rattle.cow_tree.specs.KeptPlaces.{IsLeafUnder}
use Rattle.cow_tree.proofs.Runs.{part_again, whole_run}

-- ---- keys

is_equal : (o : Ordering) → is_eq o ≡ true → o ≡ Equal
is_equal Less h = absurd (cc h)
is_equal Equal h = refl
is_equal Greater h = absurd (cc h)

pub same_key : (q k : List ℕ) → is_at (byte_cmp q) k ≡ true → q ≡ k
same_key q k h = slice_cmp-IsAntisymmetric nat_cmp-IsAntisymmetric q k (is_equal (byte_cmp q k) h)

own_key : (k : List ℕ) → is_at (byte_cmp k) k ≡ true
own_key k = (eq_by_cmp_equiv nat_list_cmp_total).refl k

-- ---- pairs

abbrev pub some_pair : Pair → Option Pair
some_pair p = Some p

pair_same : (a b : Pair) → some_pair a ≡ some_pair b → a ≡ b
pair_same a b e = cc

no_pair : (p : Pair) → None ≡ some_pair p → ⊥
no_pair p e = cc e

rest_rises : (p : Pair) (ps : List Pair) → rises (map key_of (p ∷ ps)) ≡ true → rises (map key_of ps) ≡ true
rest_rises p [] r = refl
rest_rises p (q ∷ ps) r = (both_true (precedes p.0 q.0) (rises (map key_of (q ∷ ps))) r).1

first_precedes : (p : Pair) (ps : List Pair) (n : ℕ) (q : Pair) → rises (map key_of (p ∷ ps)) ≡ true → slice_get ps n ≡ some_pair q → precedes p.0 q.0 ≡ true
first_precedes p [] n q r e = absurd (no_pair q e)
first_precedes p (x ∷ xs) zero q r e = subst (λ (z : Pair). precedes p.0 z.0 ≡ true) (pair_same x q e) (both_true (precedes p.0 x.0) (rises (map key_of (x ∷ xs))) r).0
first_precedes p (x ∷ xs) (suc n) q r e =
    let b = both_true (precedes p.0 x.0) (rises (map key_of (x ∷ xs))) r in
    below_below p.0 x.0 q.0 b.0 (first_precedes x xs n q b.1 e)

-- of pairs that rise, what stands at the key of one is its value
pub value_of : (pairs : List Pair) (n : ℕ) (q : Pair) → rises (map key_of pairs) ≡ true → slice_get pairs n ≡ some_pair q → value_at pairs q.0 ≡ Some q.1
value_of [] n q r e = absurd (no_pair q e)
value_of (p ∷ ps) zero q r e =
    subst (λ (z : Pair). cond (is_at (byte_cmp z.0) p.0) (Some p.1) (value_at ps z.0) ≡ Some z.1) (pair_same p q e) (ap (λ (t : Bool). cond t (Some p.1) (value_at ps p.0)) (own_key p.0))
value_of (p ∷ ps) (suc n) q r e =
    let front = first_precedes p ps n q r e in
    ap (λ (t : Bool). cond t (Some p.1) (value_at ps q.0)) (ap is_eq (greater_is p.0 q.0 front)) ∙ value_of ps n q (rest_rises p ps r) e

-- ---- runs

behind : (front ps : List Pair) (n : ℕ) → slice_get (front ++ ps) (length front + n) ≡ slice_get ps n
behind [] ps n = let e : 0 + n ≡ n = omega arith in ap (λ (m : ℕ). slice_get ps m) e
behind (f ∷ front) ps n = let e : suc (length front) + n ≡ suc (length front + n) = omega arith in ap (λ (m : ℕ). slice_get (f ∷ (front ++ ps)) m) e ∙ behind front ps n

in_front : (ps rest : List Pair) (n : ℕ) (q : Pair) → slice_get ps n ≡ some_pair q → slice_get (ps ++ rest) n ≡ some_pair q
in_front [] rest n q e = absurd (no_pair q e)
in_front (p ∷ ps) rest zero q e = e
in_front (p ∷ ps) rest (suc n) q e = in_front ps rest n q e

-- what stands at the key of a pair of a run
pub value_of_run : (run pairs : List Pair) (n : ℕ) (q : Pair) → is_map pairs ≡ true → IsRun run pairs → slice_get run n ≡ some_pair q → value_at pairs q.0 ≡ Some q.1
value_of_run run pairs n q map_is is e =
    let rising = (both_true (rises (map key_of pairs)) (list_all is_pair pairs) map_is).0 in
    value_of pairs (length is.front + n) q rising (ap (λ (l : List Pair). slice_get l (length is.front + n)) is.is ∙ behind is.front (run ++ is.rest) n ∙ in_front run is.rest n q e)

-- ---- leaves

-- a leaf is its own
pub leaf_alone : (bytes : ℕ → List ℕ) (bounds : Bounds) (page : ℕ) (found : Found) → walk bytes bounds 0 page [] None ≡ Some found → IsLeafUnder bytes bounds page found
leaf_alone bytes bounds page found e = record { leaf = found; stands = e; part = record { pages = λ n h. h; run = whole_run found.pairs } }

-- a leaf of a part is one of the whole
pub leaf_of_part : (bytes : ℕ → List ℕ) (bounds : Bounds) (page : ℕ) (part whole : Found) → IsPart part whole → IsLeafUnder bytes bounds page part → IsLeafUnder bytes bounds page whole
leaf_of_part bytes bounds page part whole p l = record { leaf = l.leaf; stands = l.stands; part = part_again l.leaf part whole l.part p }

-- ---- answers

pub on_any : {T E : Type 0} {P : Type 0} (r : Result T E) → P → OnOk r P
on_any (Ok x) p = p
on_any (Err e) p = tt

pub on_err : {T E : Type 0} (P : Type 0) (r : Result T E) (e : E) → r ≡ Err e → OnOk r P
on_err P (Ok x) e is = absurd (cc is)
on_err P (Err f) e is = tt

pub on_more : {T E : Type 0} {P Q : Type 0} (r : Result T E) → OnOk r P → (P → Q) → OnOk r Q
on_more (Ok x) p more = more p
on_more (Err e) p more = tt

pub ok_has : {T E : Type 0} {P : Type 0} (r : Result T E) → IsTrue (is_ok r) → OnOk r P → P
ok_has (Ok x) ok p = p
ok_has (Err e) ok p = absurd (cc ok)
