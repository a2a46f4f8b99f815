-- Which call of a device fails, where one does.
use Rattle.std.specs.Prelude.{◌≡◌, ◌↔◌, ℕ, zero, suc, Option, Some, None}

-- How many calls pass before the one that fails, after a call; none, once that one was made.
abbrev pub after_call : Option ℕ → Option ℕ
after_call None = None
after_call (Some zero) = None
after_call (Some (suc before)) = Some before

-- the same after so many calls
abbrev pub after_calls : ℕ → Option ℕ → Option ℕ
after_calls zero before = before
after_calls (suc calls) before = after_calls calls (after_call before)

-- the next call fails
abbrev pub Fails : Option ℕ → Type 0
Fails before = before ≡ Some 0

-- Of all calls, counted from 0, the one of this number fails, and no other.
abbrev pub OnlyFails : ℕ → Type 0
OnlyFails call = (n : ℕ) → Fails (after_calls n (Some call)) ↔ (n ≡ call)
