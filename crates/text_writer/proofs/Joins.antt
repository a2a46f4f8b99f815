-- One pass over a body gives its text.
use Rattle.std.proofs.Common.{◌≡◌, ℕ, Bool, true, false, List, [], ◌∷◌, ◌++◌, ap, sym, ◌∙◌, inl, inr, refl, subst, ◌==◌}
use Rattle.std.specs.List.{flat_map}
use Rattle.std.proofs.lemmas.Bool.{cases_Bool, eqb-true}
use Rattle.host_types.specs.Lines.{lines, onto_first_line}
use Rattle.text_writer.specs.Text.{text, sent_line, line_end, text_end}
use Rattle.text_writer.specs.Place.{given_from}
use Rattle.text_writer.specs.declared.place.LinePlace.{LinePlace}

-- the lines where the first has begun already
abbrev pub goes_on : List (List ℕ) → List ℕ
goes_on [] = line_end
goes_on (line ∷ others) = line ++ line_end ++ flat_map sent_line others

abbrev at : Bool → Bool → LinePlace
at s h = record { at_start = s; held = h }

onto-goes : (b : ℕ) (ls : List (List ℕ)) → goes_on (onto_first_line b ls) ≡ b ∷ goes_on ls
onto-goes b [] = refl
onto-goes b (l ∷ ls) = refl

onto-dot : (ls : List (List ℕ)) → flat_map sent_line (onto_first_line 46 ls) ≡ 46 ∷ 46 ∷ goes_on ls
onto-dot [] = refl
onto-dot (l ∷ ls) = refl

onto-starts : (b : ℕ) (ls : List (List ℕ)) → (b == 46) ≡ false → flat_map sent_line (onto_first_line b ls) ≡ b ∷ goes_on ls
onto-starts b [] other = rw other refl
onto-starts b (l ∷ ls) other = rw other refl

-- what each place gives
pub record Joins (bs : List ℕ) : Type 0 where
  pub start : given_from (at true false) bs ≡ flat_map sent_line (lines bs) ++ text_end
  pub inside : given_from (at false false) bs ≡ goes_on (lines bs) ++ text_end
  pub start_held : given_from (at true true) bs ≡ flat_map sent_line (lines (13 ∷ bs)) ++ text_end
  pub inside_held : given_from (at false true) bs ≡ goes_on (lines (13 ∷ bs)) ++ text_end

-- a byte is LF, CR, a period or another
data Kind (b : ℕ) : Type 0 where
  lf : (b ≡ 10) → Kind b
  cr : (b ≡ 13) → Kind b
  other : ((b == 10) ≡ false) → ((b == 13) ≡ false) → Kind b

kind_of : (b : ℕ) → Kind b
kind_of b = elim (cases_Bool (b == 10)) [
  | inl e ↦ lf (eqb-true b 10 e)
  | inr n ↦ elim (cases_Bool (b == 13)) [ inl e ↦ cr (eqb-true b 13 e) | inr m ↦ other n m ]
]

step-lf : (bs : List ℕ) → Joins bs → Joins (10 ∷ bs)
step-lf bs j = record {
  start = ap (λ x. 13 ∷ 10 ∷ x) j.start;
  inside = ap (λ x. 13 ∷ 10 ∷ x) j.start;
  start_held = ap (λ x. 13 ∷ 10 ∷ x) j.start;
  inside_held = ap (λ x. 13 ∷ 10 ∷ x) j.start;
}

step-cr : (bs : List ℕ) → Joins bs → Joins (13 ∷ bs)
step-cr bs j = record {
  start = j.start_held;
  inside = j.inside_held;
  start_held = ap (λ x. 13 ∷ x) j.inside_held ∙ sym (ap (λ x. x ++ text_end) (onto-starts 13 (lines (13 ∷ bs)) refl));
  inside_held = ap (λ x. 13 ∷ x) j.inside_held ∙ sym (ap (λ x. x ++ text_end) (onto-goes 13 (lines (13 ∷ bs))));
}

step-other : (b : ℕ) (bs : List ℕ) → (b == 10) ≡ false → (b == 13) ≡ false → Joins bs → Joins (b ∷ bs)
step-other b bs n m j = record {
  start = elim (cases_Bool (b == 46)) [
    | inl e ↦ rw (n, m, e) (ap (λ x. 46 ∷ 46 ∷ x) j.inside ∙ sym (ap (λ c. flat_map sent_line (onto_first_line c (lines bs)) ++ text_end) (eqb-true b 46 e) ∙ ap (λ x. x ++ text_end) (onto-dot (lines bs))))
    | inr o ↦ rw (n, m, o) (ap (λ x. b ∷ x) j.inside ∙ sym (ap (λ x. x ++ text_end) (onto-starts b (lines bs) o)))
  ];
  inside = rw (n, m) (ap (λ x. b ∷ x) j.inside ∙ sym (ap (λ x. x ++ text_end) (onto-goes b (lines bs))));
  start_held = rw (n, m) (ap (λ x. 13 ∷ b ∷ x) j.inside ∙ sym (ap (λ x. x ++ text_end) (onto-starts 13 (onto_first_line b (lines bs)) refl ∙ ap (λ x. 13 ∷ x) (onto-goes b (lines bs)))));
  inside_held = rw (n, m) (ap (λ x. 13 ∷ b ∷ x) j.inside ∙ sym (ap (λ x. x ++ text_end) (onto-goes 13 (onto_first_line b (lines bs)) ∙ ap (λ x. 13 ∷ x) (onto-goes b (lines bs)))));
}

pub joins : (bs : List ℕ) → Joins bs
joins [] = record { start = refl; inside = refl; start_held = refl; inside_held = refl }
joins (b ∷ bs) = elim (kind_of b) [
  | lf e ↦ subst (λ b. Joins (b ∷ bs)) (sym e) (step-lf bs (joins bs))
  | cr e ↦ subst (λ b. Joins (b ∷ bs)) (sym e) (step-cr bs (joins bs))
  | other n m ↦ step-other b bs n m (joins bs)
]

-- from the start of a body its text is given
pub given_text : (bs : List ℕ) → given_from (at true false) bs ≡ text bs
unfolding text
given_text bs = (joins bs).start
