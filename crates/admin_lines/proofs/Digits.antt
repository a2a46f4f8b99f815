-- Few decimal digits write a number that a u64 holds.
use Rattle.std.proofs.Common.{◌≡◌, ℕ, ◌+◌, ◌*◌, ◌^◌, ◌<◌, ◌≤◌, Bool, true, false, ◌&&◌, List, length, refl, arith}
use Rattle.std.specs.Prelude.{nat_lt, nat_le}
use Rattle.std.specs.Char.{is_ascii_digit}
use Rattle.std.specs.List.{list_all}
use Rattle.std.proofs.Math.Nat.{pow-le-pow_right}
use Rattle.std.proofs.lemmas.Bool.Decides.{nat_tests}
use Rattle.common_types.specs.Digits.{is_number}

first_true : (a b : Bool) → (a && b) ≡ true → a ≡ true
first_true true b h = refl
first_true false b h = absurd cc

second_true : (a b : Bool) → (a && b) ≡ true → b ≡ true
second_true true b h = h
second_true false b h = absurd cc

pub at_most : (ds : List ℕ) → is_number 19 ds ≡ true → length ds ≤ 19
at_most ds is =
    let few : nat_le (length ds) 19 ≡ true = second_true (nat_lt 0 (length ds)) (nat_le (length ds) 19) (first_true (nat_lt 0 (length ds) && nat_le (length ds) 19) (list_all is_ascii_digit ds) is) in
    grind (arith, nat_tests)

pub next_fits : (n i : ℕ) → n < 10 ^ i → i < 19 → 10 * n + 255 < 2 ^ 64
next_fits n i below few =
    let most : 10 ^ i ≤ 10 ^ 18 = pow-le-pow_right {n = 10} (omega arith) {i = i} {j = 18} (omega arith) in
    omega arith
