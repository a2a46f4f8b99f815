-- What the pins that are out keep.
use Rattle.std.proofs.Common.{◌≡◌, ◌<◌, ℕ, zero, suc, Bool, true, false, List, [], ◌∷◌, Option, Some, None, length, get_or, set, refl, sym, ap, ◌∙◌, inl, inr}
use Rattle.std.specs.Prelude.{◌||◌}
use Rattle.std.specs.List.{list_any}
use Rattle.std.proofs.lemmas.Bool.{cases_lt}
use Rattle.std.proofs.lemmas.List.{get_or_past, get_or-set_same}
use Rattle.page_alloc.specs.LedgerState.{LedgerState, pinned, is_some, is_out}

-- a pin less
pub any_less : (f : ℕ → Bool) (pins : List (Option ℕ)) (i : ℕ) → list_any f (pinned pins) ≡ false → list_any f (pinned (set pins i None)) ≡ false
any_less f [] i e = e
any_less f (None ∷ pins) zero e = e
any_less f (Some g ∷ pins) zero e = rest_of (f g) (list_any f (pinned pins)) e
  where
    rest_of : (a b : Bool) → (a || b) ≡ false → b ≡ false
    rest_of true b h = absurd (cc h)
    rest_of false b h = h
any_less f (None ∷ pins) (suc i) e = any_less f pins i e
any_less f (Some g ∷ pins) (suc i) e = with_first (f g) (list_any f (pinned pins)) (list_any f (pinned (set pins i None))) e (λ h. any_less f pins i h)
  where
    with_first : (a b c : Bool) → (a || b) ≡ false → (b ≡ false → c ≡ false) → (a || c) ≡ false
    with_first true b c h k = absurd (cc h)
    with_first false b c h k = k h

-- a pin more, of a generation that fails the test
pub any_more : (f : ℕ → Bool) (pins : List (Option ℕ)) (i generation : ℕ) → f generation ≡ false → get_or pins i None ≡ None → list_any f (pinned (set pins i (Some generation))) ≡ list_any f (pinned pins)
any_more f [] i g loose e = refl
any_more f (None ∷ pins) zero g loose e = ap (λ (b : Bool). b || list_any f (pinned pins)) loose
any_more f (Some h ∷ pins) zero g loose e = absurd (cc e)
any_more f (None ∷ pins) (suc i) g loose e = any_more f pins i g loose e
any_more f (Some h ∷ pins) (suc i) g loose e = ap (λ (b : Bool). f h || b) (any_more f pins i g loose e)

-- a pin that is out has a number within
pub out_inside : (s : LedgerState) (number : ℕ) → is_out s number ≡ true → number < length s.pins
out_inside s number out =
    elim (cases_lt number (length s.pins)) [
      | inl within ↦ within
      | inr past ↦ absurd (cc (sym (ap is_some (get_or_past s.pins number None past)) ∙ out))
    ]

-- a pin that was given is out
pub given_is_out : (pins : List (Option ℕ)) (number generation : ℕ) → number < length pins → is_some (get_or (set pins number (Some generation)) number None) ≡ true
given_is_out pins number generation within = ap is_some (get_or-set_same pins number (Some generation) None within)
