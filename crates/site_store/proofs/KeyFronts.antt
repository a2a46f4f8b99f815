-- Keys that begin with the same bytes.
use Rattle.std.proofs.Common.{◌≡◌, ℕ, Bool, true, false, cond, List, [], ◌∷◌, ◌++◌, length, drop, refl, ap, sym, subst, ◌∙◌, arith}
use Rattle.std.specs.Prelude.{nat_eq, nat_lt, ◌&&◌}
use Rattle.std.specs.List.{starts_with}
use Rattle.std.specs.Ordering.{is_lt, ordering_then}
use Rattle.std.specs.declared.cmp.Ordering.TheVariants.{Less, Equal, Greater}
use Rattle.std.proofs.lemmas.Bool.{eqb-true, eq-eqb, and_parts, le-ltb}
use Rattle.host_types.specs.Site.{byte_cmp}
use Rattle.site_store.proofs.RisingKeys.{is_below}

-- keys with the same first byte are ordered as what is behind it
same_first : (x : ℕ) (a b : List ℕ) → is_below (x ∷ a) (x ∷ b) ≡ is_below a b
same_first x a b = rw (le-ltb x x (omega arith), eq-eqb x x refl) refl

-- keys with one front are ordered as what is behind it
pub same_front : (front a b : List ℕ) → is_below (front ++ a) (front ++ b) ≡ is_below a b
same_front [] a b = refl
same_front (x ∷ front) a b = same_first x (front ++ a) (front ++ b) ∙ same_front front a b

-- what begins with a front isn't below it
pub not_below_front : (front a : List ℕ) → starts_with nat_eq a front ≡ true → is_below a front ≡ false
not_below_front [] [] h = refl
not_below_front [] (x ∷ a) h = refl
not_below_front (x ∷ front) [] h = absurd (cc h)
not_below_front (x ∷ front) (y ∷ a) h =
    let parts = and_parts (nat_eq x y) (starts_with nat_eq a front) h in
    ap (λ (n : ℕ). is_below (y ∷ a) (n ∷ front)) (eqb-true x y parts.0) ∙ same_first y a front ∙ not_below_front front a parts.1

-- what begins so is that front and the rest
pub front_and_rest : (front a : List ℕ) → starts_with nat_eq a front ≡ true → a ≡ front ++ drop (length front) a
front_and_rest [] a h = refl
front_and_rest (x ∷ front) [] h = absurd (cc h)
front_and_rest (x ∷ front) (y ∷ a) h =
    let parts = and_parts (nat_eq x y) (starts_with nat_eq a front) h in
    λ i. sym (eqb-true x y parts.0) i ∷ front_and_rest front a parts.1 i

-- behind one front the rest is to begin so
pub same_start : (front a b : List ℕ) → starts_with nat_eq (front ++ a) (front ++ b) ≡ starts_with nat_eq a b
same_start [] a b = refl
same_start (x ∷ front) a b = ap (λ (t : Bool). t && starts_with nat_eq (front ++ a) (front ++ b)) (eq-eqb x x refl) ∙ same_start front a b

-- The keys that begin with a front stand together: above one that no longer does, none does.
pub past_front : (front k p x : List ℕ) → starts_with nat_eq k front ≡ true → is_below k p ≡ true → starts_with nat_eq p front ≡ false → is_below x p ≡ false → starts_with nat_eq x front ≡ false
past_front [] k p x begins below past above = absurd (cc past)
past_front (a ∷ front) [] p x begins below past above = absurd (cc begins)
past_front (a ∷ front) (b ∷ k) [] x begins below past above = absurd (cc below)
past_front (a ∷ front) (b ∷ k) (c ∷ p) [] begins below past above = refl
past_front (a ∷ front) (b ∷ k) (c ∷ p) (d ∷ x) begins below past above =
    let parts = and_parts (nat_eq a b) (starts_with nat_eq k front) begins in
    let first : a ≡ b = eqb-true a b parts.0 in
    elim (nat_eq a d) as (λ t. nat_eq a d ≡ t → (t && starts_with nat_eq x front) ≡ false) [
      | true ↦ λ t.
          let same : a ≡ d = eqb-true a d t in
          by (nat_lt a c) (nat_eq a c) (subst (λ (n : ℕ). is_below (n ∷ k) (c ∷ p) ≡ true) (sym first) below) past (subst (λ (n : ℕ). is_below (n ∷ x) (c ∷ p) ≡ false) (sym same) above) (past_front front k p x parts.1)
      | false ↦ λ t. refl
    ] refl
  where
    by : (l e : Bool) → is_lt (ordering_then (cond l Less (cond e Equal Greater)) (byte_cmp k p)) ≡ true → (e && starts_with nat_eq p front) ≡ false → is_lt (ordering_then (cond l Less (cond e Equal Greater)) (byte_cmp x p)) ≡ false → (is_below k p ≡ true → starts_with nat_eq p front ≡ false → is_below x p ≡ false → starts_with nat_eq x front ≡ false) → starts_with nat_eq x front ≡ false
    by true e below past above later = absurd (cc above)
    by false true below past above later = later below past above
    by false false below past above later = absurd (cc below)

-- what begins with more begins with the front
pub start_front : (front more a : List ℕ) → starts_with nat_eq a (front ++ more) ≡ true → starts_with nat_eq a front ≡ true
start_front [] more a h = refl
start_front (x ∷ front) more [] h = absurd (cc h)
start_front (x ∷ front) more (y ∷ a) h =
    let parts = and_parts (nat_eq x y) (starts_with nat_eq a (front ++ more)) h in
    rw (parts.0, start_front front more a parts.1) refl
