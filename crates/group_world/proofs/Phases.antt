-- Where a session is, as the others move.
use Rattle.std.proofs.Common.{◌≡◌, ℕ, false, List, [], ◌∷◌, ◌++◌, ◌==◌, refl, sym, ap, ◌∙◌, inl, inr, eqb-true, eq-eqb}
use Rattle.std.specs.Prelude.{Some}
use Rattle.std.proofs.lemmas.Bool.{cases_Bool}
use Rattle.group_world.specs.World.{Phase, phase_in, moved_in, others_in}

-- another session moves
pub other_phase : (ss : List (ℕ × Phase)) (n id : ℕ) (p : Phase) → (n == id) ≡ false → phase_in (moved_in ss n p) id ≡ phase_in ss id
other_phase [] n id p other = refl
other_phase (s ∷ ss) n id p other =
    elim (cases_Bool (s.0 == n)) [
      | inl e ↦
          let apart : (s.0 == id) ≡ false = ap (λ k. k == id) (eqb-true s.0 n e) ∙ other in
          rw (e, apart, other) refl
      | inr o ↦ rw o (elim (cases_Bool (s.0 == id)) [ inl i ↦ rw i refl | inr i ↦ rw i (other_phase ss n id p other) ])
    ]

pub own_phase : (ss : List (ℕ × Phase)) (id : ℕ) (p q : Phase) → phase_in ss id ≡ Some q → phase_in (moved_in ss id p) id ≡ Some p
own_phase [] id p q h = absurd (cc h)
own_phase (s ∷ ss) id p q h =
    elim (cases_Bool (s.0 == id)) [
      | inl e ↦ rw e (rw (eq-eqb id id refl) refl)
      | inr n ↦ rw n (rw n (own_phase ss id p q (sym (rw n refl) ∙ h)))
    ]

-- another session leaves, or goes behind the others
pub gone_phase : (ss : List (ℕ × Phase)) (n id : ℕ) → (n == id) ≡ false → phase_in (others_in ss n) id ≡ phase_in ss id
gone_phase [] n id other = refl
gone_phase (s ∷ ss) n id other =
    elim (cases_Bool (s.0 == n)) [
      | inl e ↦ let apart : (s.0 == id) ≡ false = ap (λ k. k == id) (eqb-true s.0 n e) ∙ other in rw (e, apart) refl
      | inr o ↦ rw o (elim (cases_Bool (s.0 == id)) [ inl i ↦ rw i refl | inr i ↦ rw i (gone_phase ss n id other) ])
    ]

pub more_phase : (ss ts : List (ℕ × Phase)) (id : ℕ) (q : Phase) → phase_in ss id ≡ Some q → phase_in (ss ++ ts) id ≡ Some q
more_phase [] ts id q h = absurd (cc h)
more_phase (s ∷ ss) ts id q h =
    elim (cases_Bool (s.0 == id)) [
      | inl e ↦ rw e (sym (rw e refl) ∙ h)
      | inr n ↦ rw n (more_phase ss ts id q (sym (rw n refl) ∙ h))
    ]
