-- Which of the last posts of a board are there, number by number.
use Rattle.std.proofs.Common.{◌≡◌, ℕ, zero, suc, ◌+◌, ◌-◌, ◌<◌, ◌≤◌, Bool, true, false, arith, refl}
use Rattle.std.specs.Prelude.{filter}
use Rattle.std.proofs.lemmas.Bool.{le-ltb, lt-ltb}
use Rattle.host_types.specs.Site.{last_numbers, has_any}

pub next_below : (p : ℕ → Bool) (cap i n : ℕ) → i < cap → 1 < n → p (n - 1) ≡ false → has_any (filter p (last_numbers (cap - i) n)) ≡ has_any (filter p (last_numbers (cap - (i + 1)) (n - 1)))
next_below p cap i n lt more none =
    let k : cap - i ≡ suc (cap - (i + 1)) = omega arith in
    rw (k, lt-ltb 1 n more, none) refl

pub found_below : (p : ℕ → Bool) (cap i n : ℕ) → i < cap → 1 < n → p (n - 1) ≡ true → has_any (filter p (last_numbers (cap - i) n)) ≡ true
found_below p cap i n lt more found =
    let k : cap - i ≡ suc (cap - (i + 1)) = omega arith in
    rw (k, lt-ltb 1 n more, found) refl

pub none_below : (p : ℕ → Bool) (cap n : ℕ) → n ≤ 1 → has_any (filter p (last_numbers cap n)) ≡ false
none_below p zero n le = refl
none_below p (suc many) n le = rw (le-ltb 1 n le) refl
