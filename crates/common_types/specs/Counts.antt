-- Counts of failures.
use Rattle.std.specs.Prelude.{◌≡◌, ◌⊎◌, ◌<◌, ◌≤◌, ◌-◌, ◌^◌, ℕ, suc, nat_lt, if◌then◌else◌, Result, Ok, Err}
use Rattle.std.proofs.Common.{arith, refl, sym, subst, inl, inr}
use Rattle.std.proofs.lemmas.Bool.{cases_lt, lt-ltb, le-ltb}

-- one more, but at its end, the greatest u64, a count stays
unfoldable pub counted : ℕ → ℕ
counted count = if nat_lt count (2 ^ 64 - 1) then suc count else count

-- A call that fails is counted, and one that succeeds leaves the count.
abbrev pub Counts : {T E : Type 0} → Result T E → ℕ → ℕ → Type 0
Counts (Ok _) before now = now ≡ before
Counts (Err _) before now = now ≡ counted before

-- a count that stands at its end is taken as risen
abbrev pub Rose : ℕ → ℕ → Type 0
Rose before now = (before < now) ⊎ (2 ^ 64 - 1 ≤ before)

-- ---- what holds of them

pub counted_below : (n : ℕ) → n < 2 ^ 64 - 1 → counted n ≡ suc n
unfolding counted
counted_below n lt = rw (lt-ltb n (2 ^ 64 - 1) lt) refl

pub counted_end : (n : ℕ) → 2 ^ 64 - 1 ≤ n → counted n ≡ n
unfolding counted
counted_end n le = rw (le-ltb n (2 ^ 64 - 1) le) refl

-- a count doesn't fall
pub counted_rises : (n : ℕ) → n ≤ counted n
counted_rises n = elim (cases_lt n (2 ^ 64 - 1)) [ inl lt ↦ omega (arith, counted_below n lt) | inr le ↦ omega (arith, counted_end n le) ]

pub counts_rise : {T E : Type 0} (result : Result T E) (before now : ℕ) → Counts result before now → before ≤ now
counts_rise (Ok value) before now is = omega (arith, is)
counts_rise (Err fault) before now is = subst (λ (n : ℕ). before ≤ n) (sym is) (counted_rises before)
