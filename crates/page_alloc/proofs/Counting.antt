-- How many numbers pass a test.
use Rattle.std.proofs.Common.{◌≡◌, ◌<◌, ◌+◌, ℕ, zero, suc, Bool, true, false, List, length, cond, leb, refl, sym, ap, ◌∙◌, arith, inl, inr}
use Rattle.std.proofs.lemmas.Bool.{cases_eq, le-leb, lt-leb}
use Rattle.std.proofs.lemmas.Bool.Decides.{nat_tests}
use Rattle.page_alloc.specs.LedgerState.{count_below}
use Rattle.page_alloc.specs.Runs.{at, IsInverse}

pub count_same : (f g : ℕ → Bool) (n : ℕ) → ((p : ℕ) → p < n → f p ≡ g p) → count_below f n ≡ count_below g n
count_same f g zero h = refl
count_same f g (suc n) h =
    let rest = count_same f g n (λ p lt. h p (omega (arith, lt))) in
    ap (λ (b : Bool). cond b (1 + count_below f n) (count_below f n)) (h n (omega arith)) ∙ ap (λ (k : ℕ). cond (g n) (1 + k) k) rest

one_more : (a b : Bool) (s t : ℕ) → a ≡ b → s ≡ t + 1 → cond a (1 + s) s ≡ cond b (1 + t) t + 1
one_more true true s t e h = omega (arith, h)
one_more false false s t e h = h
one_more true false s t e h = absurd (cc e)
one_more false true s t e h = absurd (cc e)

counted : (a b : Bool) (s t : ℕ) → a ≡ true → b ≡ false → s ≡ t → cond a (1 + s) s ≡ cond b (1 + t) t + 1
counted true false s t e f h = omega (arith, h)
counted true true s t e f h = absurd (cc f)
counted false b s t e f h = absurd (cc e)

-- two tests that differ at one number
pub count_more : (f g : ℕ → Bool) (q n : ℕ) → q < n → f q ≡ true → g q ≡ false → ((p : ℕ) → p < n → (p ≡ q → ⊥) → f p ≡ g p) → count_below f n ≡ count_below g n + 1
count_more f g q zero lt passes fails others = absurd (omega (arith, lt))
count_more f g q (suc n) lt passes fails others =
    elim (cases_eq n q) [
      | inl e ↦
          counted (f n) (g n) (count_below f n) (count_below g n) (ap f e ∙ passes) (ap g e ∙ fails) (count_same f g n (λ p below. others p (omega (arith, below)) (λ same. omega (arith, below, same, e))))
      | inr ne ↦
          one_more (f n) (g n) (count_below f n) (count_below g n) (others n (omega arith) ne) (count_more f g q n (omega (arith, lt, ne)) passes fails (λ p below. others p (omega (arith, below))))
    ]

pub count_none : (f : ℕ → Bool) (n : ℕ) → ((p : ℕ) → p < n → f p ≡ false) → count_below f n ≡ 0
count_none f zero h = refl
count_none f (suc n) h = ap (λ (b : Bool). cond b (1 + count_below f n) (count_below f n)) (h n (omega arith)) ∙ count_none f n (λ p lt. h p (omega (arith, lt)))

-- as many pages stand from a place on as there are places from there on
pub count_from : (pages places : List ℕ) → IsInverse pages places → (k from : ℕ) → from + k ≡ length pages → count_below (λ p. leb from (at places p)) (length pages) ≡ k
count_from pages places inverse zero from e = count_none (λ p. leb from (at places p)) (length pages) (λ p lt. lt-leb from (at places p) (omega (arith, inverse.place_in p lt, e)))
count_from pages places inverse (suc k) from e =
    let within : from < length pages = omega (arith, e) in
    let q = at pages from in
    let back = inverse.place_back from within in
    let rest = count_from pages places inverse k (suc from) (omega (arith, e)) in
    let more = count_more (λ p. leb from (at places p)) (λ p. leb (suc from) (at places p)) q (length pages) (inverse.page_in from within)
    (le-leb from (at places q) (omega (arith, back)))
    (lt-leb (suc from) (at places q) (omega (arith, back)))
    (λ p lt ne. elim (cases_eq (at places p) from) [
      | inl same ↦ absurd (ne (sym (inverse.page_back p lt) ∙ ap (at pages) same))
      | inr other ↦ grind (arith, nat_tests, other)
    ]) in
    omega (arith, more, rest)
