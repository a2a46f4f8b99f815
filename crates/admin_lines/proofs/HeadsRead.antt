-- Heads as they are read, whatever stands behind them.
use Rattle.std.proofs.Common.{◌≡◌, ℕ, suc, ◌+◌, ◌-◌, ◌<◌, ◌≤◌, ◌^◌, Bool, true, false, ltb, List, [], ◌∷◌, ◌++◌, length, take, refl, sym, ap, subst, ◌∙◌, arith, append_assoc, length-append, length-take}
use Rattle.std.specs.Prelude.{Option, Some, None, Result, Ok, Err, position, decimal, codes, nat_lt, if◌then◌else◌, IfSome}
use Rattle.std.specs.List.{list_any}
use Rattle.std.specs.Result.{result_map_both}
use Rattle.std.proofs.Math.Seq.{take-append_seam, take-append-add}
use Rattle.std.proofs.lemmas.List.{take-append-le, take_all}
use Rattle.std.proofs.lemmas.Bool.Decides.{nat_tests}
use Rattle.std.proofs.lemmas.List.Quantifiers.{position-Some}
use Rattle.admin_lines.specs.Heads.{most_bytes, longest_head, apply_word, apply_head, is_lf, line_asks, head_at, head_by, head_in}
use Rattle.admin_lines.specs.Laws.{behind}
use Rattle.admin_lines.specs.declared.head.RequestHead.{RequestHead}
use Rattle.admin_lines.specs.declared.fault.RequestFault.{RequestFault}
use Rattle.admin_lines.specs.declared.fault.RequestFault.TheVariants.{LongLine}
use Rattle.admin_lines.proofs.FirstPlaces as places
use Rattle.admin_lines.proofs.Lengths.{no_lf_in, short, length_read}

-- ---- a head that was written

module _ (count : ℕ) (rest : List ℕ) (few : count ≤ most_bytes) where
  line : List ℕ
  line = apply_word ++ decimal count

  long : length (apply_word ++ decimal count) ≡ 6 + length (decimal count)
  long = length-append apply_word (decimal count)

  whole : apply_head count ++ rest ≡ (apply_word ++ decimal count) ++ 10 ∷ rest
  whole = append_assoc (apply_word ++ decimal count) (10 ∷ []) rest

  front : take longest_head ((apply_word ++ decimal count) ++ 10 ∷ rest) ≡ (apply_word ++ decimal count) ++ 10 ∷ take (19 - length (decimal count)) rest
  front = ap (λ n. take n ((apply_word ++ decimal count) ++ 10 ∷ rest)) (fits (short count few)) ∙ take-append-add (apply_word ++ decimal count) (10 ∷ rest) (suc (19 - length (decimal count)))
    where
      fits : length (decimal count) ≤ 19 → longest_head ≡ length (apply_word ++ decimal count) + suc (19 - length (decimal count))
      fits h = omega (arith, long)

  found : position is_lf (take longest_head ((apply_word ++ decimal count) ++ 10 ∷ rest)) ≡ Some (length (apply_word ++ decimal count))
  found = ap (position is_lf) front ∙ places.behind is_lf (apply_word ++ decimal count) 10 (take (19 - length (decimal count)) rest) (no_lf_in count (omega arith)) refl

  asked : line_asks (take (length (apply_word ++ decimal count)) ((apply_word ++ decimal count) ++ 10 ∷ rest)) ≡ Ok count
  asked = ap line_asks (take-append_seam (apply_word ++ decimal count) (10 ∷ rest)) ∙ length_read count few

  pub head_read : head_in (apply_head count ++ rest) ≡ Ok (Some (behind count))
  head_read =
      ap head_in whole ∙ ap (λ at. head_by at ((apply_word ++ decimal count) ++ 10 ∷ rest)) found
      ∙ ap (λ asks. result_map_both (λ n. Some (head_at (length (apply_word ++ decimal count)) n)) (λ fault. fault) asks) asked
      ∙ ap (λ start. Ok (Some (record { start = start; count = count }))) (sym (length-append (apply_word ++ decimal count) (10 ∷ [])))

-- ---- what comes behind

-- a front that is full stays
full : (bytes more : List ℕ) → longest_head ≤ length bytes → take longest_head (bytes ++ more) ≡ take longest_head bytes
full bytes more long = take-append-le longest_head bytes more long

-- and of a shorter one more is seen
grows : (bytes more : List ℕ) → length bytes ≤ longest_head → take longest_head (bytes ++ more) ≡ take longest_head bytes ++ take (longest_head - length bytes) more
grows bytes more short =
    ap (λ n. take n (bytes ++ more)) (sum short) ∙ take-append-add bytes more (longest_head - length bytes) ∙ ap (λ l. l ++ take (longest_head - length bytes) more) (sym (take_all longest_head bytes short))
  where
    sum : length bytes ≤ longest_head → longest_head ≡ length bytes + (longest_head - length bytes)
    sum h = omega arith

place_stays : (b : Bool) (bytes more : List ℕ) (at : ℕ) → nat_lt (length bytes) longest_head ≡ b → position is_lf (take longest_head bytes) ≡ Some at → position is_lf (take longest_head (bytes ++ more)) ≡ Some at
place_stays true bytes more at less is = ap (position is_lf) (grows bytes more (grind (arith, nat_tests))) ∙ places.stays is_lf (take longest_head bytes) (take (longest_head - length bytes) more) at is
place_stays false bytes more at less is = ap (position is_lf) (full bytes more (grind (arith, nat_tests))) ∙ is

within : (bytes : List ℕ) (at : ℕ) → position is_lf (take longest_head bytes) ≡ Some at → at ≤ length bytes
within bytes at is = let p = (position-Some is_lf (take longest_head bytes) at 0 is).0 in omega (arith, p, length-take longest_head bytes)

read_at : (bytes more : List ℕ) (at : ℕ) → position is_lf (take longest_head bytes) ≡ Some at → head_in (bytes ++ more) ≡ head_by (Some at) bytes
read_at bytes more at is =
    ap (λ place. head_by place (bytes ++ more)) (place_stays (nat_lt (length bytes) longest_head) bytes more at refl is)
    ∙ ap (λ l. result_map_both (λ n. Some (head_at at n)) (λ fault. fault) (line_asks l)) (take-append-le at bytes more (within bytes at is))

-- what is said stays, but that the head is not whole
by_place : (place : Option ℕ) (bytes more : List ℕ) (said : Result (Option RequestHead) RequestFault) → position is_lf (take longest_head bytes) ≡ place → head_by place bytes ≡ said → (said ≡ Ok None → ⊥) → head_in (bytes ++ more) ≡ said
by_place (Some at) bytes more said is by whole = read_at bytes more at is ∙ by
by_place None bytes more said is by whole = by_length (nat_lt (length bytes) longest_head) refl by
  where
    by_length : (b : Bool) → nat_lt (length bytes) longest_head ≡ b → (if b then Ok None else Err LongLine) ≡ said → head_in (bytes ++ more) ≡ said
    by_length true less by_this = absurd (whole (sym by_this))
    by_length false less by_this =
        let long : longest_head ≤ length bytes = grind (arith, nat_tests) in
        let longer : nat_lt (length (bytes ++ more)) longest_head ≡ false = let l = length-append bytes more in grind (arith, nat_tests) in
        ap (λ place. head_by place (bytes ++ more)) (ap (position is_lf) (full bytes more long) ∙ is)
        ∙ ap (λ b. if b then Ok None else Err LongLine) longer ∙ by_this

pub said_stays : (bytes more : List ℕ) (said : Result (Option RequestHead) RequestFault) → head_in bytes ≡ said → (said ≡ Ok None → ⊥) → head_in (bytes ++ more) ≡ said
said_stays bytes more said is whole = by_place (position is_lf (take longest_head bytes)) bytes more said refl is whole
