-- Numbers that `parse` reads, where the text is digits alone.
use Rattle.std.proofs.Common.{◌≡◌, ℕ, ◌<◌, ◌^◌, true, false, ◌&&◌, List, [], ◌∷◌, length, ap, refl, nat_lt, inl, inr}
use Rattle.std.specs.Prelude.{Some, None, Result, Ok, Err, if◌then◌else◌}
use Rattle.std.specs.Result.{result_ok, OkIff}
use Rattle.std.specs.Char.{is_ascii_digit}
use Rattle.std.specs.List.{list_all}
use Rattle.std.specs.Str.{all_ascii_digits}
use Rattle.std.specs.Str.Parse.{ParsesUnsigned, digits_value}
use Rattle.std.proofs.lemmas.Bool.{cases_lt, le-ltb, lt-ltb}
use Rattle.std.proofs.lemmas.Str.Parse.{IsNumeralModel, numerals_by_value, tells_all_ascii_digits, parse_digits}
use Rattle.host_script.specs.Number.{number_of}

own : IsNumeralModel (λ ds. all_ascii_digits ds ≡ true) (digits_value 10)
own = numerals_by_value _ tells_all_ascii_digits

-- a number where there are some digits and it is in range
ok_as : {E : Type 0} (r : Result ℕ E) (n v most : ℕ) → OkIff r ((0 < n) × (v < most)) v → result_ok r ≡ (if nat_lt 0 n && nat_lt v most then Some v else None)
ok_as (Ok x) n v most h = rw (lt-ltb 0 n h.0.0, lt-ltb v most h.0.1) (ap Some h.1)
ok_as (Err e) n v most h = elim (cases_lt 0 n) [
  | inr none ↦ rw (le-ltb 0 n none) refl
  | inl some ↦ elim (cases_lt v most) [
    | inl fits ↦ absurd (h (some, fits))
    | inr great ↦ rw (lt-ltb 0 n some, le-ltb v most great) refl
  ]
]

pub read_digits : {E : Type 0} (bs : List ℕ) (r : Result ℕ E) → all_ascii_digits bs ≡ true → ParsesUnsigned 64 10 bs r → result_ok r ≡ number_of bs
unfolding number_of
read_digits bs r digits h = rw digits (ok_as r (length bs) (digits_value 10 bs) (2 ^ 64) (parse_digits own 64 bs r h digits))

pub no_digits : (bs : List ℕ) → all_ascii_digits bs ≡ false → number_of bs ≡ None
unfolding number_of
no_digits bs none = rw none refl

pub list_all-digits : (bs : List ℕ) → list_all is_ascii_digit bs ≡ all_ascii_digits bs
list_all-digits [] = refl
list_all-digits (b ∷ bs) = ap (λ others. is_ascii_digit b && others) (list_all-digits bs)
