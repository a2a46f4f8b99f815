-- What the decimal digits of a number are.
use Rattle.std.proofs.Common.{◌≡◌, ℕ, zero, suc, ◌+◌, ◌-◌, ◌*◌, ◌/◌, ◌%◌, ◌^◌, ◌<◌, ◌≤◌, Bool, true, false, cond, not, ◌&&◌, ◌||◌, ltb, leb, eqb, List, [], ◌∷◌, ◌++◌, length, get_or, take, refl, sym, ap, subst, ◌∙◌, arith, inl, inr}
use Rattle.std.specs.Prelude.{decimal, nat_eq, nat_lt, nat_le, ◌==◌, Result, Ok, Err, if◌then◌else◌}
use Rattle.std.specs.Char.{is_ascii_digit}
use Rattle.std.specs.List.{list_all, list_any, fold, starts_with}
use Rattle.std.proofs.lemmas.Bool.Decides.{nat_tests}
use Rattle.std.proofs.lemmas.Fmt.{decimal_by_steps, decimal_nonempty, length-decimal-le, first_decimal, decimal_digit}
use Rattle.std.proofs.lemmas.Grind.{fold-append}
use Rattle.std.proofs.lemmas.List.Folds.{list_all-append, list_any-append}
use Rattle.common_types.specs.Digits.{is_number, number_of}
use Rattle.admin_lines.specs.Heads.{most_bytes, is_lf, is_length, length_in}
use Rattle.admin_lines.specs.declared.fault.RequestFault.TheVariants.{NoLength, TooMuch}

abbrev Add : ℕ → ℕ → ℕ
Add n b = 10 * n + (b - 48)

-- digits that write a number, none of which is an LF
record Writes (n : ℕ) (ds : List ℕ) : Type 0 where
  digits : list_all is_ascii_digit ds ≡ true
  no_lf : list_any is_lf ds ≡ false
  value : number_of ds ≡ n

is_digit : (d : ℕ) → d < 10 → is_ascii_digit (48 + d) ≡ true
is_digit d small = grind (arith, nat_tests)

not_lf : (d : ℕ) → is_lf (48 + d) ≡ false
not_lf d = grind (arith, nat_tests)

both : (a b : Bool) → a ≡ true → b ≡ true → (a && b) ≡ true
both a b p q = ap (λ x. x && b) p ∙ q

neither : (a b : Bool) → a ≡ false → b ≡ false → (a || b) ≡ false
neither a b p q = ap (λ x. x || b) p ∙ q

one : (n : ℕ) → n < 10 → Writes n ((48 + n) ∷ [])
one n small = record {
  digits = both (is_ascii_digit (48 + n)) true (is_digit n small) refl;
  no_lf = neither (is_lf (48 + n)) false (not_lf n) refl;
  value = omega arith;
}

more : (n : ℕ) (ds : List ℕ) → 10 ≤ n → Writes (n / 10) ds → Writes n (ds ++ ((48 + n % 10) ∷ []))
more n ds large w = record {
  digits = list_all-append is_ascii_digit ds ((48 + n % 10) ∷ []) ∙ both (list_all is_ascii_digit ds) _ w.digits (both (is_ascii_digit (48 + n % 10)) true (is_digit (n % 10) (omega arith)) refl);
  no_lf = list_any-append is_lf ds ((48 + n % 10) ∷ []) ∙ neither (list_any is_lf ds) _ w.no_lf (neither (is_lf (48 + n % 10)) false (not_lf (n % 10)) refl);
  value = fold-append Add 0 ds ((48 + n % 10) ∷ []) ∙ ap (λ m. Add m (48 + n % 10)) w.value ∙ omega arith;
}

writes : (n : ℕ) → n < 2 ^ 64 → Writes n (decimal n)
writes = decimal_by_steps Writes one more

pub no_lf_in : (n : ℕ) → n < 2 ^ 64 → list_any is_lf (decimal n) ≡ false
no_lf_in n small = (writes n small).no_lf

few_bytes : (n : ℕ) → n ≤ most_bytes → length (decimal n) ≤ 8
few_bytes n few = length-decimal-le 8 n (omega arith) (omega arith) (omega arith)

pub short : (n : ℕ) → n ≤ most_bytes → length (decimal n) ≤ 19
short n few = let l = few_bytes n few in omega arith

is_number_of : (ds : List ℕ) → 0 < length ds → length ds ≤ 19 → list_all is_ascii_digit ds ≡ true → is_number 19 ds ≡ true
is_number_of ds some few digits = both (nat_lt 0 (length ds) && nat_le (length ds) 19) (list_all is_ascii_digit ds) (grind (arith, nat_tests)) digits

-- no 0 stands in front of other digits
not_zero : (ds : List ℕ) → 0 < length ds → 48 < get_or ds 0 0 → starts_with nat_eq ds (48 ∷ []) ≡ false
not_zero [] some first = absurd (omega arith)
not_zero (d ∷ ds) some first = grind (arith, nat_tests)

alone : (n : ℕ) → n < 2 ^ 64 → ((length (decimal n) == 1) || not (starts_with nat_eq (decimal n) (48 ∷ []))) ≡ true
alone zero small = ap (λ ds. (length ds == 1) || not (starts_with nat_eq ds (48 ∷ []))) (decimal_digit 0 (omega arith))
alone (suc n) small =
    let none = not_zero (decimal (suc n)) (decimal_nonempty (suc n) small) (first_decimal (suc n) (omega arith) small) in
    ap (λ b. (length (decimal (suc n)) == 1) || not b) none ∙ or_true (length (decimal (suc n)) == 1)
  where
    or_true : (b : Bool) → (b || true) ≡ true
    or_true true = refl
    or_true false = refl

is_length_of : (n : ℕ) → n ≤ most_bytes → is_length (decimal n) ≡ true
is_length_of n few =
    let w = writes n (omega arith) in
    both (is_number 19 (decimal n)) ((length (decimal n) == 1) || not (starts_with nat_eq (decimal n) (48 ∷ [])))
    (is_number_of (decimal n) (decimal_nonempty n (omega arith)) (short n few) w.digits) (alone n (omega arith))

-- a length that was written is read
pub length_read : (n : ℕ) → n ≤ most_bytes → length_in (decimal n) ≡ Ok n
length_read n few =
    let w = writes n (omega arith) in
    let within : nat_le (number_of (decimal n)) most_bytes ≡ true = ap (λ m. nat_le m most_bytes) w.value ∙ grind (arith, nat_tests) in
    ap (λ b. if b then (if nat_le (number_of (decimal n)) most_bytes then Ok (number_of (decimal n)) else Err TooMuch) else Err NoLength) (is_length_of n few)
    ∙ ap (λ b. if b then Ok (number_of (decimal n)) else Err TooMuch) within ∙ ap Ok w.value
