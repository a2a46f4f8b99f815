-- Runs of bytes that are sent as they are.
use Rattle.std.proofs.Common.{◌≡◌, ℕ, zero, suc, ◌+◌, ◌-◌, ◌<◌, ◌≤◌, Bool, true, false, List, [], ◌∷◌, ◌++◌, ap, sym, ◌∙◌, inl, inr, refl, take, drop, length, ◌==◌, arith, append_assoc, append-nil, get_or, drop-cons, add-one, length-drop}
use Rattle.std.specs.Prelude.{Some, None}
use Rattle.std.specs.List.{position_or_len}
use Rattle.std.proofs.lemmas.Bool.{cases_Bool, false_from_ne_true}
use Rattle.std.proofs.lemmas.List.{take_all, drop-drop}
use Rattle.std.proofs.lemmas.List.Sums.{position_or_len_is}
use Rattle.memchr.specs.Find.{IsFirstByte}
use Rattle.text_writer.specs.Place.{given_from}
use Rattle.text_writer.specs.Text.{text}
use Rattle.text_writer.specs.Place.{emitted, after, may_end_line, run_length, behind_run}
use Rattle.text_writer.specs.declared.place.LinePlace.{LinePlace}

-- the first byte that passes is the place
pub place_of_first : (test : ℕ → Bool) (xs : List ℕ) (k : ℕ) → IsFirstByte test xs (Some k) → position_or_len test xs ≡ k
place_of_first test xs k h =
    let below : k < length xs = h.0.high in
    position_or_len_is test xs k 0 (omega arith)
    (λ j before. false_from_ne_true _ (h.0.before j (omega arith) before))
    (λ _. h.1)

-- with no such byte the place is the length
pub place_of_none : (test : ℕ → Bool) (xs : List ℕ) → IsFirstByte test xs None → position_or_len test xs ≡ length xs
place_of_none test xs h =
    position_or_len_is test xs (length xs) 0 (omega arith)
    (λ j before. false_from_ne_true _ (h j (omega arith) before))
    (λ less. absurd (omega arith))

abbrev inside : LinePlace
inside = record { at_start = false; held = false }

one_more : (n : ℕ) → 1 + n ≡ suc n
one_more n = omega arith

inside_run : (bs more : List ℕ) → given_from inside (bs ++ more) ≡ take (position_or_len may_end_line bs) bs ++ given_from inside (drop (position_or_len may_end_line bs) bs ++ more)
inside_run [] more = refl
inside_run (b ∷ bs) more = elim (cases_Bool (b == 10)) [
  | inl e ↦ rw e (rw e refl)
  | inr n ↦ elim (cases_Bool (b == 13)) [ inl e ↦ rw (n, e) (rw (n, e) refl) | inr m ↦ rw (n, m) (ap (λ l. b ∷ l) (inside_run bs more) ∙ sym (ap (λ k. take k (b ∷ bs) ++ given_from inside (drop k (b ∷ bs) ++ more)) (one_more (position_or_len may_end_line bs)))) ]
]

abbrev at : Bool → Bool → LinePlace
at s h = record { at_start = s; held = h }

-- inside a line a run ends inside it
inside_stays : (run : ℕ) → behind_run inside run ≡ inside
inside_stays zero = refl
inside_stays (suc run) = refl

-- a line that begins with a period has no run
no_run : (b : ℕ) (bs : List ℕ) → (b == 46) ≡ true → run_length (at true false) (b ∷ bs) ≡ 0
no_run b bs dot = rw dot refl

-- from a line's start on
start_run : (bs more : List ℕ) → given_from (at true false) (bs ++ more) ≡ take (run_length (at true false) bs) bs ++ given_from (behind_run (at true false) (run_length (at true false) bs)) (drop (run_length (at true false) bs) bs ++ more)
start_run [] more = refl
start_run (b ∷ bs) more = elim (cases_Bool (b == 46)) [
  | inl dot ↦ sym (ap (λ k. take k (b ∷ bs) ++ given_from (behind_run (at true false) k) (drop k (b ∷ bs) ++ more)) (no_run b bs dot))
  | inr other ↦ elim (cases_Bool (b == 10)) [
    | inl e ↦ rw (other, e) (rw (other, e) refl)
    | inr n ↦ elim (cases_Bool (b == 13)) [
      | inl e ↦ rw (other, n, e) (rw (other, n, e) refl)
      | inr m ↦ rw (other, n, m) (ap (λ l. b ∷ l) (inside_run bs more) ∙ sym (ap (λ k. take k (b ∷ bs) ++ given_from (behind_run (at true false) k) (drop k (b ∷ bs) ++ more)) (one_more (position_or_len may_end_line bs))))
    ]
  ]
]

run_at : (s h : Bool) (bs more : List ℕ) → given_from (at s h) (bs ++ more) ≡ take (run_length (at s h) bs) bs ++ given_from (behind_run (at s h) (run_length (at s h) bs)) (drop (run_length (at s h) bs) bs ++ more)
run_at true true bs more = refl
run_at true false bs more = start_run bs more
run_at false true bs more = refl
run_at false false bs more = inside_run bs more ∙ ap (λ p. take (position_or_len may_end_line bs) bs ++ given_from p (drop (position_or_len may_end_line bs) bs ++ more)) (sym (inside_stays (position_or_len may_end_line bs)))

-- a run is given as it is, and what follows it from the place behind it
pub run_given : (p : LinePlace) (bs more : List ℕ) → given_from p (bs ++ more) ≡ take (run_length p bs) bs ++ given_from (behind_run p (run_length p bs)) (drop (run_length p bs) bs ++ more)
run_given p bs more = run_at p.at_start p.held bs more

run_whole : (p : LinePlace) (bs : List ℕ) → given_from p bs ≡ take (run_length p bs) bs ++ given_from (behind_run p (run_length p bs)) (drop (run_length p bs) bs)
run_whole p bs = ap (given_from p) (sym (append-nil bs)) ∙ run_given p bs [] ∙ ap (λ l. take (run_length p bs) bs ++ given_from (behind_run p (run_length p bs)) l) (append-nil (drop (run_length p bs) bs))

-- a byte, the run behind it, and what is left
pub goes_on_by : (sent : List ℕ) (p q : LinePlace) (b : ℕ) (later : List ℕ) (run : ℕ) (whole : List ℕ) → q ≡ after p b → run ≡ run_length q later → sent ++ given_from p (b ∷ later) ≡ whole → (sent ++ emitted p b ++ take run later) ++ given_from (behind_run q run) (drop run later) ≡ whole
goes_on_by sent p q b later run whole to so_many is =
    ap (λ n. (sent ++ emitted p b ++ take n later) ++ given_from (behind_run q n) (drop n later)) so_many
    ∙ append_assoc (sent ++ emitted p b) (take (run_length q later) later) (given_from (behind_run q (run_length q later)) (drop (run_length q later) later))
    ∙ ap (λ l. (sent ++ emitted p b) ++ l) (sym (run_whole q later))
    ∙ append_assoc sent (emitted p b) (given_from q later)
    ∙ ap (λ r. sent ++ (emitted p b ++ given_from r later)) to
    ∙ is

-- one step of the pass over a body
pub further : (body sent mid new : List ℕ) (p q r : LinePlace) (at run b : ℕ) (later : List ℕ) → at < length body → b ≡ get_or body at 0 → later ≡ take (length body - (at + 1)) (drop (at + 1) body) → q ≡ after p b → run ≡ run_length q later → r ≡ behind_run q run → run ≤ length later →
    mid ≡ sent ++ emitted p b → new ≡ mid ++ take run later → sent ++ given_from p (drop at body) ≡ text body → (at + (1 + run) ≤ length body) × (new ++ given_from r (drop (at + (1 + run)) body) ≡ text body)
further body sent mid new p q r at run b later below byte is to so_many behind_is within one more so_far =
    let all : later ≡ drop (at + 1) body = is ∙ take_all (length body - (at + 1)) (drop (at + 1) body) (omega (arith, length-drop (at + 1) body)) in
    let step : drop at body ≡ b ∷ later = drop-cons body at 0 below ∙ ap (λ x. x ∷ drop (suc at) body) (sym byte) ∙ ap (λ l. b ∷ l) (ap (λ n. drop n body) (sym (add-one at)) ∙ sym all) in
    let behind : drop (at + (1 + run)) body ≡ drop run later = ap (λ n. drop n body) (omega arith) ∙ sym (drop-drop run (at + 1) body) ∙ ap (drop run) (sym all) in (
      omega (arith, within, ap length all, length-drop (at + 1) body),
      ap (λ l. l ++ given_from r (drop (at + (1 + run)) body)) (more ∙ ap (λ l. l ++ take run later) one)
          ∙ ap (λ l. (sent ++ emitted p b ++ take run later) ++ given_from r l) behind
          ∙ ap (λ place. (sent ++ emitted p b ++ take run later) ++ given_from place (drop run later)) behind_is
          ∙ goes_on_by sent p q b later run (text body) to so_many (ap (λ l. sent ++ given_from p l) (sym step) ∙ so_far),
    )
