-- Byte strings that begin alike are in the order of what stands behind.
use Rattle.std.proofs.Common.{rules, ◌≡◌, ◌≢◌, Bool, true, false, nat_lt, nat_eq, ◌++◌, ◌+◌, ◌*◌, ℕ, zero, suc, ◌≤◌, ◌<◌, List, [], ◌∷◌, length, take, drop, refl, sym, ap, ◌∙◌, arith}
use Rattle.std.specs.Int.{w64, from_be_bytes, to_be_bytes}
use Rattle.std.specs.Prelude.{get_or}
use Rattle.std.proofs.lemmas.Nat.{be_bytes_8, mul-le}
use Rattle.std.proofs.lemmas.List.{length-take-le, take-append-drop}
use Rattle.std.proofs.lemmas.Bool.{ltb-true, ltb-false, eqb-true, eqb-false}
use Rattle.std.specs.Ordering.{nat_cmp, ordering_then}
use Rattle.std.specs.Cmp.{nat_cmp_is}
use Rattle.std.specs.declared.cmp.Ordering.{Ordering}
use Rattle.std.specs.declared.cmp.Ordering.TheVariants.{Less, Equal, Greater}
use Rattle.common_types.specs.ByteOrder.{byte_cmp}

same_bytes : (one other : List ℕ) → ((i : ℕ) → get_or one i 0 < 256) → ((i : ℕ) → get_or other i 0 < 256) → length one ≡ 8 → length other ≡ 8 → from_be_bytes w64 one ≡ from_be_bytes w64 other → one ≡ other
same_bytes one other small few long many same = sym (be_bytes_8 one _ long small refl) ∙ ap (to_be_bytes w64) same ∙ be_bytes_8 other _ many few refl

front_small : (n : ℕ) (l : List ℕ) → ((i : ℕ) → get_or l i 0 < 256) → (i : ℕ) → get_or (take n l) i 0 < 256
front_small zero l small i = omega arith
front_small (suc n) [] small i = omega arith
front_small (suc n) (x ∷ l) small zero = small 0
front_small (suc n) (x ∷ l) small (suc i) = front_small n l (λ j. small (suc j)) i

-- the first words of two byte strings are the same number
same_word : (one other : List ℕ) → ((i : ℕ) → get_or one i 0 < 256) → ((i : ℕ) → get_or other i 0 < 256) → 8 ≤ length one → 8 ≤ length other → from_be_bytes w64 (take 8 one) ≡ from_be_bytes w64 (take 8 other) → take 8 one ≡ take 8 other
same_word one other small few long many = same_bytes (take 8 one) (take 8 other) (front_small 8 one small) (front_small 8 other few) (length-take-le 8 one long) (length-take-le 8 other many)

same_first : (x : ℕ) → nat_cmp x x ≡ Equal
same_first x = search rules

passed : (n : ℕ) (one other : List ℕ) → n ≤ length one → n ≤ length other → take n one ≡ take n other → byte_cmp (drop n one) (drop n other) ≡ byte_cmp one other
passed zero one other long many same = refl
passed (suc n) [] other long many same = absurd (omega (arith, long))
passed (suc n) (x ∷ one) [] long many same = absurd (omega (arith, many))
passed (suc n) (x ∷ one) (y ∷ other) long many same =
    let heads : x ≡ y = ap (λ l. get_or l 0 0) same in
    let tails : take n one ≡ take n other = ap (drop 1) same in
    passed n one other (omega (arith, long)) (omega (arith, many)) tails ∙ sym (ap (λ o. ordering_then o (byte_cmp one other)) (ap (λ z. nat_cmp z y) heads ∙ same_first y))

-- ---- the first word that differs decides

-- so many numbers stand for byte strings of this length
abbrev size : List ℕ → ℕ
size [] = 1
size (x ∷ xs) = 256 * size xs

-- a byte string as a number, its first byte the greatest
abbrev value : List ℕ → ℕ
value [] = 0
value (x ∷ xs) = x * size xs + value xs

same_size : (xs ys : List ℕ) → length xs ≡ length ys → size xs ≡ size ys
same_size [] [] long = refl
same_size [] (y ∷ ys) long = absurd (omega (arith, long))
same_size (x ∷ xs) [] long = absurd (omega (arith, long))
same_size (x ∷ xs) (y ∷ ys) long = ap (λ n. 256 * n) (same_size xs ys (omega (arith, long)))

times_more : (x y n : ℕ) → x < y → x * n + n ≤ y * n
times_more x y n less = omega (arith, mul-le (suc x) n y n less (omega arith))

below_size : (xs : List ℕ) → ((i : ℕ) → get_or xs i 0 < 256) → value xs < size xs
below_size [] small = omega arith
below_size (x ∷ xs) small = let more = times_more x 256 (size xs) (small 0) in let rest = below_size xs (λ i. small (suc i)) in omega (arith, more, rest)

less_is : (x y : ℕ) → x < y → nat_cmp x y ≡ Less
less_is x y less = search (less, rules)

greater_is : (x y : ℕ) → y < x → nat_cmp x y ≡ Greater
greater_is x y greater = search (greater, rules)

beside : (k v w : ℕ) → nat_cmp v w ≡ nat_cmp (k + v) (k + w)
beside k v w = search rules

decided : (xs ys r s : List ℕ) → ((i : ℕ) → get_or xs i 0 < 256) → ((i : ℕ) → get_or ys i 0 < 256) → length xs ≡ length ys → (value xs ≢ value ys) → byte_cmp (xs ++ r) (ys ++ s) ≡ nat_cmp (value xs) (value ys)
decided [] [] r s small few long apart = absurd (apart refl)
decided [] (y ∷ ys) r s small few long apart = absurd (omega (arith, long))
decided (x ∷ xs) [] r s small few long apart = absurd (omega (arith, long))
decided (x ∷ xs) (y ∷ ys) r s small few long apart = by (λ e. decided xs ys r s (λ i. small (suc i)) (λ i. few (suc i)) (omega (arith, long)) e) (nat_lt x y) (nat_eq x y) refl refl
  where
    sizes : size xs ≡ size ys
    sizes = same_size xs ys (omega (arith, long))

    left : value xs < size xs
    left = below_size xs (λ i. small (suc i))

    right : value ys < size ys
    right = below_size ys (λ i. few (suc i))

    by : ((value xs ≢ value ys) → byte_cmp (xs ++ r) (ys ++ s) ≡ nat_cmp (value xs) (value ys)) → (b c : Bool) → nat_lt x y ≡ b → nat_eq x y ≡ c → byte_cmp (x ∷ xs ++ r) (y ∷ ys ++ s) ≡ nat_cmp (value (x ∷ xs)) (value (y ∷ ys))
    by behind true c less same =
        let below = ltb-true x y less in
        let more : value (x ∷ xs) < value (y ∷ ys) = omega (arith, times_more x y (size ys) below, left, right, sizes, ap (λ n. x * n) sizes) in
        ap (λ o. ordering_then o (byte_cmp (xs ++ r) (ys ++ s))) (less_is x y below) ∙ sym (less_is (value (x ∷ xs)) (value (y ∷ ys)) more)
    by behind false true less same =
        let is = eqb-true x y same in
        let rest = behind (λ e. apart (ap (λ n. n * size xs + value xs) is ∙ ap (λ n. y * n + value xs) sizes ∙ ap (λ n. y * size ys + n) e)) in
        ap (λ o. ordering_then o (byte_cmp (xs ++ r) (ys ++ s))) (ap (λ n. nat_cmp n y) is ∙ same_first y) ∙ rest ∙ beside (y * size ys) (value xs) (value ys) ∙ ap (λ n. nat_cmp (n + value xs) (y * size ys + value ys)) (ap (λ n. y * n) (sym sizes) ∙ ap (λ n. n * size xs) (sym is))
    by behind false false less same =
        let above : y < x = omega (arith, ltb-false x y less, eqb-false x y same) in
        let more : value (y ∷ ys) < value (x ∷ xs) = omega (arith, times_more y x (size xs) above, left, right, sizes, ap (λ n. y * n) sizes) in
        ap (λ o. ordering_then o (byte_cmp (xs ++ r) (ys ++ s))) (greater_is x y above) ∙ sym (greater_is (value (x ∷ xs)) (value (y ∷ ys)) more)

word_value : (l : List ℕ) → length l ≡ 8 → value l ≡ from_be_bytes w64 l
word_value [] long = absurd (omega (arith, long))
word_value (a ∷ []) long = absurd (omega (arith, long))
word_value (a ∷ b ∷ []) long = absurd (omega (arith, long))
word_value (a ∷ b ∷ c ∷ []) long = absurd (omega (arith, long))
word_value (a ∷ b ∷ c ∷ d ∷ []) long = absurd (omega (arith, long))
word_value (a ∷ b ∷ c ∷ d ∷ e ∷ []) long = absurd (omega (arith, long))
word_value (a ∷ b ∷ c ∷ d ∷ e ∷ f ∷ []) long = absurd (omega (arith, long))
word_value (a ∷ b ∷ c ∷ d ∷ e ∷ f ∷ g ∷ []) long = absurd (omega (arith, long))
word_value (a ∷ b ∷ c ∷ d ∷ e ∷ f ∷ g ∷ h ∷ []) long = omega arith
word_value (a ∷ b ∷ c ∷ d ∷ e ∷ f ∷ g ∷ h ∷ i ∷ l) long = absurd (omega (arith, long))

-- words that differ are in the order of the whole
words_decide : (one other : List ℕ) → ((i : ℕ) → get_or one i 0 < 256) → ((i : ℕ) → get_or other i 0 < 256) → 8 ≤ length one → 8 ≤ length other → (from_be_bytes w64 (take 8 one) ≢ from_be_bytes w64 (take 8 other)) → byte_cmp one other ≡ nat_cmp (from_be_bytes w64 (take 8 one)) (from_be_bytes w64 (take 8 other))
words_decide one other small few long many apart =
    let here = length-take-le 8 one long in
    let there = length-take-le 8 other many in
    let left = word_value (take 8 one) here in
    let right = word_value (take 8 other) there in
    let parts : byte_cmp one other ≡ byte_cmp (take 8 one ++ drop 8 one) (take 8 other ++ drop 8 other) = (λ i. byte_cmp (sym (take-append-drop 8 one) i) (sym (take-append-drop 8 other) i)) in
    parts ∙ decided (take 8 one) (take 8 other) (drop 8 one) (drop 8 other) (front_small 8 one small) (front_small 8 other few) (here ∙ sym there) (λ e. apart (sym left ∙ e ∙ right)) ∙ (λ i. nat_cmp (left i) (right i))

-- how the first words stand to each other, and then what stands behind
pub by_words : (one other : List ℕ) → ((i : ℕ) → get_or one i 0 < 256) → ((i : ℕ) → get_or other i 0 < 256) → 8 ≤ length one → 8 ≤ length other → byte_cmp one other ≡ ordering_then (nat_cmp (from_be_bytes w64 (take 8 one)) (from_be_bytes w64 (take 8 other))) (byte_cmp (drop 8 one) (drop 8 other))
by_words one other small few long many = by (nat_lt a b) (nat_eq a b) refl refl
  where
    a : ℕ
    a = from_be_bytes w64 (take 8 one)

    b : ℕ
    b = from_be_bytes w64 (take 8 other)

    behind : Ordering
    behind = byte_cmp (drop 8 one) (drop 8 other)

    by : (c d : Bool) → nat_lt a b ≡ c → nat_eq a b ≡ d → byte_cmp one other ≡ ordering_then (nat_cmp a b) behind
    by true d less same =
        let is = less_is a b (ltb-true a b less) in
        words_decide one other small few long many (λ e. absurd (omega (arith, e, ltb-true a b less))) ∙ is ∙ sym (ap (λ o. ordering_then o behind) is)
    by false true less same =
        let e = eqb-true a b same in
        sym (passed 8 one other long many (same_word one other small few long many e)) ∙ sym (ap (λ o. ordering_then o behind) (ap (λ n. nat_cmp n b) e ∙ same_first b))
    by false false less same =
        let is = greater_is a b (omega (arith, ltb-false a b less, eqb-false a b same)) in
        words_decide one other small few long many (eqb-false a b same) ∙ is ∙ sym (ap (λ o. ordering_then o behind) is)

-- ---- where one has ended, the lengths decide

pub ended_first : (one other : List ℕ) → length one < 1 → nat_cmp (length one) (length other) ≡ byte_cmp one other
ended_first [] [] ended = refl
ended_first [] (y ∷ other) ended = sym (nat_cmp_is 0 (suc (length other)) Less (omega arith))
ended_first (x ∷ one) other ended = absurd (omega (arith, ended))

pub ended_second : (one other : List ℕ) → length other < 1 → nat_cmp (length one) (length other) ≡ byte_cmp one other
ended_second [] [] ended = refl
ended_second (x ∷ one) [] ended = sym (nat_cmp_is (suc (length one)) 0 Greater (omega arith))
ended_second one (y ∷ other) ended = absurd (omega (arith, ended))
