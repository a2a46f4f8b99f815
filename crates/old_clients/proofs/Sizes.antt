-- How many bytes adapters have to give.
use Rattle.std.proofs.Common.{◌≡◌, ℕ, ◌+◌, ◌*◌, ◌<◌, ◌≤◌, suc, Bool, true, false, List, [], ◌∷◌, ◌++◌, ◌==◌, ap, sym, ◌∙◌, inl, inr, refl, take, drop, length, arith, rules, append-nil, length-append, length-drop, length-take}
use Rattle.std.specs.Prelude.{codes}
use Rattle.std.specs.Str.{bytes_eq}
use Rattle.std.specs.List.{after_first, before_first, position_or_len, slice_set}
use Rattle.std.proofs.lemmas.Bool.{and_parts, cases_Bool}
use Rattle.std.proofs.lemmas.List.{length-set, take-append-drop}
use Rattle.std.proofs.lemmas.Slice.Eq.{bytes_eq-Decides}
use Rattle.host_types.specs.Lines.{is_lf, without_cr}
use Rattle.request_reader.specs.RequestLine.{is_tab}
use Rattle.old_clients.specs.AdaptedRequest.{adapted_line, adapted_request, has_data, has_line, has_words, is_words}
use Rattle.old_clients.specs.Signs.{IsSign}
use Rattle.old_clients.specs.Place.{after, closing, emitted, given_from}
use Rattle.old_clients.specs.Streams.{Hearing, will_pass}
use Rattle.old_clients.specs.declared.place.Place.{Place}
use Rattle.old_clients.specs.declared.place.Place.TheVariants.{Head, LineStart, Period, PeriodCr, Inside, Behind}
use Rattle.old_clients.proofs.Signs.{data_sign, no_sign, words_sign}

-- ---- requests: as many as came

sign_size : (line : List ℕ) (at : ℕ) → IsSign line at → length (adapted_line line) ≡ length line
sign_size line at is = ap length (sym is.adapted) ∙ length-set line at 43

line_size : (line : List ℕ) → length (adapted_line line) ≡ length line
line_size line =
    let content = without_cr line in
    let part = after_first is_tab content in
    let place = position_or_len is_tab content in
    elim (cases_Bool (has_data content)) [
      | inl flag ↦ (
          let is : part ≡ codes "$\t1" = (bytes_eq-Decides part (codes "$\t1")).0 flag in
          sign_size line (place + 1) (data_sign line (omega (arith, ap length is, length-drop (place + 1) content)) flag)
          )
      | inr other ↦ elim (cases_Bool (has_words content)) [
        | inl has ↦ (
            let behind = after_first is_tab part in
            let is : behind ≡ codes "$" = (bytes_eq-Decides behind (codes "$")).0 (and_parts (is_words (before_first is_tab part)) _ has).1 in
            sign_size line _ (words_sign line (omega (arith, ap length is, length-drop (position_or_len is_tab part + 1) part, length-drop (place + 1) content)) other has)
            )
        | inr none ↦ ap length ((no_sign line other none).same)
      ]
    ]

request_size : (input : List ℕ) → length (adapted_request input) ≡ length input
unfolding adapted_request
request_size input =
    let place = position_or_len is_lf input in
    elim (cases_Bool (has_line input)) [
      | inl has ↦ rw has (
          length-append (adapted_line (take place input)) (drop place input)
          ∙ ap (λ n. n + length (drop place input)) (line_size (take place input))
          ∙ sym (length-append (take place input) (drop place input))
          ∙ ap length (take-append-drop place input)
          )
      | inr none ↦ rw none refl
    ]

-- what an adapter will pass on is as long as what it holds and what comes
pub pass_size : (a : Hearing) (rest : List ℕ) → length (will_pass a rest) ≡ length a.held + length rest
pass_size a rest = elim (cases_Bool a.hears) [
  | inl hears ↦ rw hears (request_size (a.held ++ rest) ∙ length-append a.held rest)
  | inr over ↦ rw over (length-append a.held rest)
]

-- ---- replies: at most eight for each, and what is held back

abbrev pub back : Place → ℕ
back (Head n) = 0
back LineStart = 0
back Period = 8
back PeriodCr = 9
back Inside = 0
back Behind = 0

pub back_few : (p : Place) → back p ≤ 9
back_few (Head n) = omega arith
back_few LineStart = omega arith
back_few Period = omega arith
back_few PeriodCr = omega arith
back_few Inside = omega arith
back_few Behind = omega arith

after_byte_back : (p : Place) (b : ℕ) → length (emitted p b) + back (after p b) ≤ 8 + back p
after_byte_back (Head n) b = grown
  where
    grown : 1 + back (after (Head n) b) ≤ 8
    grown = search rules
after_byte_back LineStart b = search rules
after_byte_back Period b = search rules
after_byte_back PeriodCr b = search rules
after_byte_back Inside b = search rules
after_byte_back Behind b = omega arith

pub given_size : (p : Place) (bs : List ℕ) → length (given_from p bs) ≤ 8 * length bs + back p
given_size (Head n) [] = omega arith
given_size LineStart [] = omega arith
given_size Period [] = omega arith
given_size PeriodCr [] = omega arith
given_size Inside [] = omega arith
given_size Behind [] = omega arith
given_size p (b ∷ bs) = omega (arith, length-append (emitted p b) (given_from (after p b) bs), given_size (after p b) bs, after_byte_back p b)
