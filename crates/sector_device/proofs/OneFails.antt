-- One call fails, and no other.
use Rattle.std.proofs.Common.{◌≡◌, ℕ, zero, suc, Some, None, refl, ap}
use Rattle.sector_device.specs.Once.{after_calls, Fails, OnlyFails}

none_again : (n : ℕ) → Fails (after_calls n None) → ⊥
none_again zero h = cc h
none_again (suc n) h = none_again n h

pub fails_at : (call n : ℕ) → Fails (after_calls n (Some call)) → n ≡ call
fails_at zero zero h = refl
fails_at (suc call) zero h = cc h
fails_at zero (suc n) h = absurd (none_again n h)
fails_at (suc call) (suc n) h = ap suc (fails_at call n h)

pub fails_then : (call : ℕ) → Fails (after_calls call (Some call))
fails_then zero = refl
fails_then (suc call) = fails_then call

pub only : (call : ℕ) → OnlyFails call
only call n = (fails_at call n, λ (is : n ≡ call). rw is (fails_then call))
