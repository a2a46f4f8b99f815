-- The names of posts, one after another from the oldest on.
use Rattle.std.proofs.Common.{◌≡◌, ◌≤◌, ◌<◌, ◌+◌, ◌-◌, ◌∙◌, ℕ, zero, suc, Bool, List, [], ◌∷◌, ◌++◌, length, inl, inr, refl, sym, ap, arith, map}
use Rattle.std.specs.Prelude.{nat_le, max, filter, reverse}
use Rattle.std.proofs.lemmas.Bool.{cases_Bool, cases_lt, lt-ltb}
use Rattle.std.proofs.lemmas.List.{append-nil, reverse-append}
use Rattle.host_types.specs.Site.{post_selector, last_numbers}
use Rattle.image_items.specs.Posts.{names_of_posts}

abbrev pub fits : List ℕ → Bool
fits name = nat_le (length name) 255

last_name : (name : List ℕ) (names : List (List ℕ)) → reverse (filter fits (name ∷ names)) ≡ reverse (filter fits names) ++ filter fits (name ∷ [])
last_name name names =
    elim (cases_Bool (fits name)) [
      | inl short ↦ rw short (reverse-append (name ∷ []) (filter fits names))
      | inr long ↦ rw long (sym (append-nil (reverse (filter fits names))))
    ]

-- one more post
pub one_more : (board : List ℕ) (first number : ℕ) → 1 ≤ first → first ≤ number → names_of_posts board ((number + 1) - first) (number + 1) ≡ names_of_posts board (number - first) number ++ filter fits (post_selector board number ∷ [])
one_more board first number least le =
    let k : (number + 1) - first ≡ suc (number - first) = omega arith in
    let back : (number + 1) - 1 ≡ number = omega arith in
    let some : 1 < number + 1 = omega arith in
    rw (k, lt-ltb 1 (number + 1) some, back) (last_name (post_selector board number) (map (post_selector board) (last_numbers (number - first) number)))

the_last : (k n : ℕ) → 1 < n → last_numbers (suc k) n ≡ (n - 1) ∷ last_numbers k (n - 1)
the_last k n more = rw (lt-ltb 1 n more) refl

-- a board that has not more posts than its cap has all numbers from 1 on
all_numbers : (most n : ℕ) → n ≤ most → last_numbers n (n + 1) ≡ last_numbers most (n + 1)
all_numbers zero zero le = refl
all_numbers (suc most) zero le = refl
all_numbers zero (suc n) le = absurd (omega arith)
all_numbers (suc most) (suc n) le =
    let more : 1 < suc n + 1 = omega arith in
    let back : (suc n + 1) - 1 ≡ n + 1 = omega arith in
    the_last n (suc n + 1) more
    ∙ ap (λ m. m ∷ last_numbers n m) back
    ∙ ap (λ ns. (n + 1) ∷ ns) (all_numbers most n (omega arith))
    ∙ sym (ap (λ m. m ∷ last_numbers most m) back)
    ∙ sym (the_last most (suc n + 1) more)

no_numbers : (most : ℕ) → last_numbers most 0 ≡ []
no_numbers zero = refl
no_numbers (suc most) = refl

-- from the first one that a board may have on, up to the last
same_numbers : (most next first number : ℕ) → first ≡ max (next - most) 1 → next ≤ number → (first ≤ next → number ≤ next) → (next < first → number ≡ first) → last_numbers (number - first) number ≡ last_numbers most next
same_numbers most next first number is le end none =
    elim (cases_lt most next) [
      | inr few ↦ of_few next first number few (omega (arith, is, few)) le end none
      | inl many ↦
          let n : number ≡ next = omega (arith, is, many, le, end) in
          let k : number - first ≡ most = omega (arith, is, many, n) in
          rw (k, n) refl
    ]
  where
    of_few : (next first number : ℕ) → next ≤ most → first ≡ 1 → next ≤ number → (first ≤ next → number ≤ next) → (next < first → number ≡ first) → last_numbers (number - first) number ≡ last_numbers most next
    of_few zero first number few one le end none =
        let k : number - first ≡ zero = omega (arith, one, none) in
        rw k (sym (no_numbers most))
    of_few (suc n) first number few one le end none =
        let k : number - first ≡ n = omega (arith, one, le, end) in
        let m : number ≡ n + 1 = omega (arith, one, le, end) in
        let s : suc n ≡ n + 1 = omega arith in
        rw (k, m, s) (all_numbers most n (omega (arith, few)))

pub all_posts : (board : List ℕ) (most next first number : ℕ) → first ≡ max (next - most) 1 → next ≤ number → (first ≤ next → number ≤ next) → (next < first → number ≡ first) → names_of_posts board (number - first) number ≡ names_of_posts board most next
all_posts board most next first number is le end none =
    ap (λ ns. reverse (filter fits (map (post_selector board) ns))) (same_numbers most next first number is le end none)
