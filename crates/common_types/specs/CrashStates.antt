-- Crash states, by moments.
use Rattle.std.specs.Prelude.{◌⊎◌, ◌≤◌, ℕ}
use Rattle.std.proofs.Common.{inl, inr, ⊎_elim, arith}

-- a moment that doesn't fall, and what a crash at some moment since one might have left
pub record CrashStates (L : Type 0) : Type 1 where
  pub moment : ℕ
  pub possible_since : ℕ → L → Type 0

-- what a crash at this moment may leave
abbrev pub may_crash_to : {L : Type 0} → CrashStates L → L → Type 0
may_crash_to s c = s.possible_since s.moment c

-- Time goes on from old to new, and a crash in between leaves only what has P.
pub record AddsOnly {L : Type 0} (old new : CrashStates L) (P : L → Type 0) : Type 0 where
  pub later : old.moment ≤ new.moment
  pub keeps : (t : ℕ) (c : L) → t ≤ old.moment → old.possible_since t c → new.possible_since t c
  pub nothing_else : (t : ℕ) (c : L) → t ≤ old.moment → new.possible_since t c → old.possible_since t c ⊎ P c
  pub now : (c : L) → may_crash_to new c → P c

-- a crash in between leaves only what one before it might have left
abbrev pub AddsNone : {L : Type 0} → CrashStates L → CrashStates L → Type 0
AddsNone old new = AddsOnly old new (may_crash_to old)

pub no_new_crash_state : {L : Type 0} (s : CrashStates L) → AddsNone s s
no_new_crash_state s = record { later = omega arith; keeps = λ t c le left. left; nothing_else = λ t c le left. inl left; now = λ c left. left }

-- one call after another
pub adds_both : {L : Type 0} (old mid new : CrashStates L) (P Q R : L → Type 0) → AddsOnly old mid P → AddsOnly mid new Q → ((c : L) → P c → R c) → ((c : L) → Q c → R c) → AddsOnly old new R
adds_both old mid new P Q R first second p q = record {
  later = omega (arith, first.later, second.later);
  keeps = λ t c le left. second.keeps t c (omega (arith, le, first.later)) (first.keeps t c le left);
  nothing_else = λ t c le left. ⊎_elim (λ m. ⊎_elim (λ o. inl o) (λ x. inr (p c x)) (first.nothing_else t c le m)) (λ x. inr (q c x)) (second.nothing_else t c (omega (arith, le, first.later)) left);
  now = λ c left. q c (second.now c left);
}

-- one call after another of which none adds a crash state
pub adds_none_again : {L : Type 0} (old mid new : CrashStates L) → AddsNone old mid → AddsNone mid new → AddsNone old new
adds_none_again old mid new first second = adds_both old mid new (may_crash_to old) (may_crash_to mid) (may_crash_to old) first second (λ c left. left) (λ c left. first.now c left)

-- A site that no crash leaves.
abbrev pub nothing : CrashStates ℕ
nothing = record { moment = 0; possible_since = λ t c. ⊥ }

pub no_crash_state : {A : Type 0} → ⊥ → A
no_crash_state h = absurd h
