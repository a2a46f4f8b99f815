-- What stands behind the last line that is read makes no difference.
use Rattle.std.proofs.Common.{◌≡◌, ℕ, true, false, List, [], ◌∷◌, ◌++◌, ◌==◌, ap, sym, ◌∙◌, inl, inr, refl}
use Rattle.std.specs.Prelude.{map, if◌then◌else◌}
use Rattle.std.proofs.lemmas.Bool.{cases_Bool}
use Rattle.gophermap.specs.Line.{cut, line_of, lines_of, up_to_last, is_last}

-- the lines of a front that an LF ends, and of what follows it
record Lines (front : List ℕ) : Type 0 where
  pub first : List ℕ
  pub others : List (List ℕ)
  pub is : (rest : List ℕ) → cut (front ++ 10 ∷ rest) ≡ first ∷ (others ++ cut rest)

lines_in : (front : List ℕ) → Lines front
lines_in [] = record { first = []; others = []; is = λ rest. refl }
lines_in (b ∷ bs) =
    let behind = lines_in bs in
    elim (cases_Bool (b == 10)) [
      | inl lf ↦ record { first = []; others = behind.first ∷ behind.others; is = λ rest. rw (lf, behind.is rest) refl }
      | inr other ↦ record { first = b ∷ behind.first; others = behind.others; is = λ rest. rw (other, behind.is rest) refl }
    ]

-- nothing behind a last line is read
same : (lines : List (List ℕ)) (last : List ℕ) (ys zs : List (List ℕ)) → is_last (line_of last) ≡ true → up_to_last (map line_of (lines ++ last ∷ ys)) ≡ up_to_last (map line_of (lines ++ last ∷ zs))
same [] last ys zs ends = rw ends refl
same (line ∷ lines) last ys zs ends = ap (λ l. line_of line ∷ (if is_last (line_of line) then [] else l)) (same lines last ys zs ends)

-- a last line of one byte
pub ends_there : (b : ℕ) (front behind : List ℕ) → (b == 10) ≡ false → is_last (line_of (b ∷ [])) ≡ true → lines_of (front ++ 10 ∷ b ∷ 10 ∷ behind) ≡ lines_of (front ++ 10 ∷ b ∷ 10 ∷ [])
ends_there b front behind plain ends =
    let parts = lines_in front in
    let alone : (rest : List ℕ) → cut (b ∷ 10 ∷ rest) ≡ (b ∷ []) ∷ cut rest = λ rest. rw plain refl in
    let all : (rest : List ℕ) → cut (front ++ 10 ∷ b ∷ 10 ∷ rest) ≡ parts.first ∷ (parts.others ++ (b ∷ []) ∷ cut rest) = λ rest. parts.is (b ∷ 10 ∷ rest) ∙ ap (λ l. parts.first ∷ (parts.others ++ l)) (alone rest) in
    ap (λ l. up_to_last (map line_of l)) (all behind)
    ∙ same (parts.first ∷ parts.others) (b ∷ []) (cut behind) [] ends
    ∙ sym (ap (λ l. up_to_last (map line_of l)) (all []))
