-- How often a number stands in lists.
use Rattle.std.proofs.Common.{◌≡◌, ℕ, zero, suc, ◌+◌, ◌≤◌, Bool, true, false, List, [], ◌∷◌, ◌++◌, refl, ap, arith, eq-eqb}
use Rattle.std.specs.Prelude.{◌||◌, ◌==◌, not, if◌then◌else◌}
use Rattle.std.proofs.lemmas.Bool.{eqb-true}
use Rattle.page_store.specs.Commit.{numbers}
use Rattle.page_store.specs.Content.{is_among, are_distinct}
use Rattle.page_store.specs.declared.commit.NewPage.{NewPage}
use Rattle.tree_nodes.proofs.KeyOrder.{by_bool, both_true}
use Rattle.tree_pages.specs.Reached.{times}

-- ---- lists that are joined

pub times_joined : (n : ℕ) (xs ys : List ℕ) → times n (xs ++ ys) ≡ times n xs + times n ys
times_joined n [] ys = omega arith
times_joined n (x ∷ xs) ys = let more = times_joined n xs ys in omega (arith, more)

pub numbers_joined : (xs ys : List NewPage) → numbers (xs ++ ys) ≡ numbers xs ++ numbers ys
numbers_joined [] ys = refl
numbers_joined (x ∷ xs) ys = ap (λ (l : List ℕ). x.number ∷ l) (numbers_joined xs ys)

-- ---- one number

abbrev pub one_if : Bool → ℕ
one_if same = if same then 1 else 0

pub times_first : (n : ℕ) (ns : List ℕ) → times n (n ∷ ns) ≡ 1 + times n ns
times_first n ns = let one : one_if (n == n) ≡ 1 = ap one_if (eq-eqb n n refl) in omega (arith, one)

pub fewer : (a b : ℕ) → a + b ≤ 1 → b ≤ 1
fewer a b le = omega (arith, le)

pub in_one : {G : Type 0} (a b : ℕ) → 1 ≤ a + b → (1 ≤ a → G) → (1 ≤ b → G) → G
in_one zero b h f g = g (omega (arith, h))
in_one (suc a) b h f g = f (omega arith)

-- a number of a list is its first, or stands behind that
pub first_or_later : {G : Type 0} (m n : ℕ) (ns : List ℕ) → 1 ≤ times m (n ∷ ns) → (m ≡ n → G) → (1 ≤ times m ns → G) → G
first_or_later m n ns h f g = by_bool (m == n) (λ same. f (eqb-true m n same)) (λ other. g (let none : one_if (m == n) ≡ 0 = ap one_if other in omega (arith, h, none)))

pub in_joined : {G : Type 0} (m : ℕ) (xs ys : List ℕ) → 1 ≤ times m (xs ++ ys) → (1 ≤ times m xs → G) → (1 ≤ times m ys → G) → G
in_joined m xs ys h f g = let both = times_joined m xs ys in in_one (times m xs) (times m ys) (omega (arith, h, both)) f g

-- ---- numbers that are among others

pub among_some : (n : ℕ) (ns : List ℕ) → is_among n ns ≡ true → 1 ≤ times n ns
among_some n [] h = absurd (cc h)
among_some n (m ∷ ns) h = go (n == m) (is_among n ns) (times n ns) h (among_some n ns)
  where
    go : (here later : Bool) (k : ℕ) → here || later ≡ true → (later ≡ true → 1 ≤ k) → 1 ≤ one_if here + k
    go true later k h f = omega arith
    go false later k h f = let some = f h in omega (arith, some)

pub among_none : (n : ℕ) (ns : List ℕ) → is_among n ns ≡ false → times n ns ≡ 0
among_none n [] h = refl
among_none n (m ∷ ns) h = go (n == m) (is_among n ns) (times n ns) h (among_none n ns)
  where
    go : (here later : Bool) (k : ℕ) → here || later ≡ false → (later ≡ false → k ≡ 0) → one_if here + k ≡ 0
    go true later k h f = absurd (cc h)
    go false later k h f = let none = f h in omega (arith, none)

not_is : (b : Bool) → not b ≡ true → b ≡ false
not_is true h = absurd (cc h)
not_is false h = refl

pub among_once : (n : ℕ) (ns : List ℕ) → are_distinct ns ≡ true → times n ns ≤ 1
among_once n [] h = omega arith
among_once n (m ∷ ns) h =
    let parts = both_true (not (is_among m ns)) (are_distinct ns) h in
    by_bool (n == m) (λ same. here same (among_none m ns (not_is (is_among m ns) parts.0))) (λ other. later other (among_once n ns parts.1))
  where
    here : (n == m) ≡ true → times m ns ≡ 0 → one_if (n == m) + times n ns ≤ 1
    here same none =
        let is : times n ns ≡ times m ns = ap (λ (k : ℕ). times k ns) (eqb-true n m same) in
        let one : one_if (n == m) ≡ 1 = ap one_if same in
        omega (arith, is, one, none)

    later : (n == m) ≡ false → times n ns ≤ 1 → one_if (n == m) + times n ns ≤ 1
    later other once = let nothing : one_if (n == m) ≡ 0 = ap one_if other in omega (arith, nothing, once)
