-- Runs of bytes that are sent as they are.
use Rattle.std.proofs.Common.{◌≡◌, ℕ, suc, ◌+◌, List, [], ◌∷◌, ◌++◌, ap, sym, ◌∙◌, inl, inr, refl, take, drop, length, ◌==◌, arith}
use Rattle.std.specs.List.{position_or_len}
use Rattle.std.proofs.lemmas.Bool.{cases_Bool}
use Rattle.host_types.specs.Lines.{is_lf}
use Rattle.old_clients.specs.Place.{given_from, run_length}
use Rattle.old_clients.specs.declared.place.Place.{Place}
use Rattle.old_clients.specs.declared.place.Place.TheVariants.{Head, LineStart, Period, PeriodCr, Inside, Behind}

one_more : (n : ℕ) → 1 + n ≡ suc n
one_more n = omega arith

inside_run : (bs more : List ℕ) → given_from Inside (bs ++ more) ≡ take (position_or_len is_lf bs) bs ++ given_from Inside (drop (position_or_len is_lf bs) bs ++ more)
inside_run [] more = refl
inside_run (b ∷ bs) more = elim (cases_Bool (b == 10)) [
  | inl e ↦ rw e (rw e refl)
  | inr n ↦ rw n (ap (λ l. b ∷ l) (inside_run bs more) ∙ sym (ap (λ k. take k (b ∷ bs) ++ given_from Inside (drop k (b ∷ bs) ++ more)) (one_more (position_or_len is_lf bs))))
]

behind_run : (bs more : List ℕ) → given_from Behind (bs ++ more) ≡ take (length bs) bs ++ given_from Behind (drop (length bs) bs ++ more)
behind_run [] more = refl
behind_run (b ∷ bs) more = ap (λ l. b ∷ l) (behind_run bs more)

-- a run is given as it is, and what follows it from the same place
pub run_given : (p : Place) (bs more : List ℕ) → given_from p (bs ++ more) ≡ take (run_length p bs) bs ++ given_from p (drop (run_length p bs) bs ++ more)
run_given (Head n) bs more = refl
run_given LineStart bs more = refl
run_given Period bs more = refl
run_given PeriodCr bs more = refl
run_given Inside bs more = inside_run bs more
run_given Behind bs more = behind_run bs more
