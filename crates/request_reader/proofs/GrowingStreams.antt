-- A stream that says something says it whatever follows.
use Rattle.std.proofs.Common.{◌≡◌, ℕ, ◌+◌, ◌-◌, ◌<◌, ◌≤◌, Bool, true, false, List, [], ◌∷◌, ◌++◌, ◌==◌, length, take, drop, map, arith, ap, sym, ◌∙◌, inl, inr, refl, nat_le, length-append, length-take, one-add}
use Rattle.std.specs.Prelude.{Result, Ok, Err}
use Rattle.std.specs.List.{position_or_len, before_first, list_any}
use Rattle.std.proofs.Math.Seq.{take-append-add}
use Rattle.std.proofs.lemmas.List.{take_all, take-append-le, drop-append-le}
use Rattle.std.proofs.lemmas.List.Folds.{prefix_len-append}
use Rattle.std.proofs.lemmas.Bool.{cases_lt, cases_Bool, ltb-true, lt-ltb, le-ltb, leb-true, lt-leb, le-leb, ne_eqb, both_ways}
use Rattle.std.proofs.lemmas.Grind.{common_steps}
use Rattle.host_types.specs.Lines.{lines, without_cr}
use Rattle.request_reader.specs.Lines.{Cut, NotYet, TooLate, Line, first_line, front, is_lf, ended_parts, ended_lines, onto_ended}
use Rattle.request_reader.specs.RequestLine.{ParsedRequest, parsed_line}
use Rattle.request_reader.specs.DataHead.{extent_of, most_data}
use Rattle.request_reader.specs.DataLines.{is_period, unstuffed, room, is_too_much}
use Rattle.request_reader.specs.Verdict.{Verdict, Whole, verdict, line_verdict, parsed_verdict, head_verdict, extent_verdict, data_verdict, is_open, with_data}
use Rattle.request_reader.specs.Laws.{VerdictsStay, IsDecided}
use Rattle.request_reader.specs.declared.data_head.Extent.{Extent}
use Rattle.request_reader.specs.declared.data_head.Extent.TheVariants.{ToPeriod, ToEnd, Count}
use Rattle.request_reader.specs.declared.cause.Cause.{Cause}

-- a front stays, and grows where it was short
take_extends : (n : ℕ) (a b : List ℕ) → take n (a ++ b) ≡ take n a ++ take (n - length a) b
take_extends n a b =
    elim (cases_lt (length a) n) [
      | inl less ↦
          let whole : take n a ≡ a = take_all n a (omega arith) in
          let split : n ≡ length a + (n - length a) = omega arith in
          ap (λ k. take k (a ++ b)) split ∙ take-append-add a b (n - length a) ∙ ap (λ x. x ++ take (n - length a) b) (sym whole)
      | inr more ↦
          let none : n - length a ≡ 0 = omega arith in
          take-append-le n a b more ∙ rw none (grind (arith, common_steps))
    ]

position_grows : (t : ℕ → Bool) (xs ys : List ℕ) → position_or_len t xs < length xs → position_or_len t (xs ++ ys) ≡ position_or_len t xs
position_grows t xs ys less = prefix_len-append _ xs ys ∙ rw (ne_eqb (position_or_len t xs) (length xs) (λ e. absurd (omega arith))) refl

-- What a first line becomes where more follows.
abbrev pub Grows : Cut → Cut → List ℕ → Type 0
Grows NotYet new b = Unit {0}
Grows TooLate new b = new ≡ TooLate
Grows (Line line rest) new b = new ≡ Line line (rest ++ b)

pub found : (s : List ℕ) → position_or_len is_lf (front s) < length (front s) →
    first_line s ≡ Line (without_cr (before_first is_lf (front s))) (drop (position_or_len is_lf (front s) + 1) s)
unfolding first_line
found s less = rw (lt-ltb _ _ less) refl

pub too_late : (s : List ℕ) → length (front s) ≤ position_or_len is_lf (front s) → 1024 < length s → first_line s ≡ TooLate
unfolding first_line
too_late s none long = rw (le-ltb _ _ none, lt-leb _ _ long) refl

pub not_yet : (s : List ℕ) → length (front s) ≤ position_or_len is_lf (front s) → length s ≤ 1024 → first_line s ≡ NotYet
unfolding first_line
not_yet s none short = rw (le-ltb _ _ none, le-leb _ _ short) refl

front_grows : (a b : List ℕ) → front (a ++ b) ≡ front a ++ take (1025 - length a) b
unfolding front
front_grows a b = take_extends 1025 a b

pub front_whole : (a : List ℕ) → length a < 1025 → front a ≡ a
unfolding front
front_whole a less = take_all 1025 a (omega arith)

front_short : (a : List ℕ) → length (front a) ≤ length a
unfolding front
front_short a = simp length-take (omega arith)

pub first_line_grows : (a b : List ℕ) → Grows (first_line a) (first_line (a ++ b)) b
first_line_grows a b =
    elim (cases_lt (position_or_len is_lf (front a)) (length (front a))) [
      | inl less ↦
          let grown = front_grows a b in
          let place : position_or_len is_lf (front (a ++ b)) ≡ position_or_len is_lf (front a) = ap (position_or_len is_lf) grown ∙ position_grows is_lf (front a) _ less in
          let long : length (front a) ≤ length (front (a ++ b)) = omega (arith, ap length grown, length-append {A = ℕ}) in
          let before : before_first is_lf (front (a ++ b)) ≡ before_first is_lf (front a) =
          ap (λ n. take n (front (a ++ b))) place ∙ ap (take (position_or_len is_lf (front a))) grown ∙ take-append-le (position_or_len is_lf (front a)) (front a) _ (omega arith) in
          let within : position_or_len is_lf (front a) + 1 ≤ length a = omega (arith, front_short a) in
          let rest : drop (position_or_len is_lf (front (a ++ b)) + 1) (a ++ b) ≡ drop (position_or_len is_lf (front a) + 1) a ++ b =
          ap (λ n. drop (n + 1) (a ++ b)) place ∙ drop-append-le (position_or_len is_lf (front a) + 1) a b within in
          rw (found a less) (found (a ++ b) (omega arith) ∙ ap (λ l. Line (without_cr l) (drop (position_or_len is_lf (front (a ++ b)) + 1) (a ++ b))) before ∙ ap (Line (without_cr (before_first is_lf (front a)))) rest)
      | inr none ↦
          elim (cases_lt 1024 (length a)) [
            | inl long ↦
                let zero_left : 1025 - length a ≡ 0 = omega arith in
                let grown : front (a ++ b) ≡ front a = front_grows a b ∙ rw zero_left (grind (arith, common_steps)) in
                rw (too_late a none long) (too_late (a ++ b) (rw grown none) (omega (arith, length-append {A = ℕ})))
            | inr short ↦ rw (not_yet a none short) tt
          ]
    ]

-- the lines that have ended stay, and more may end
pub record More (new old : List (List ℕ)) : Type 0 where
  pub more : List (List ℕ)
  pub is : new ≡ old ++ more

onto_more : (b : ℕ) (old more : List (List ℕ)) → More (onto_ended b (old ++ more)) (onto_ended b old)
onto_more b [] more = record { more = onto_ended b more; is = refl }
onto_more b (l ∷ ls) more = record { more = more; is = refl }

parts_grow : (a b : List ℕ) → More (ended_parts (a ++ b)) (ended_parts a)
parts_grow [] b = record { more = ended_parts b; is = refl }
parts_grow (c ∷ cs) b =
    let ih = parts_grow cs b in
    elim (cases_Bool (c == 10)) [
      | inl e ↦ rw e (record { more = ih.more; is = ap (λ x. [] ∷ x) ih.is })
      | inr n ↦ rw n (let m = onto_more c (ended_parts cs) ih.more in record { more = m.more; is = ap (onto_ended c) ih.is ∙ m.is })
    ]

pub map_append : (f : List ℕ → List ℕ) (xs ys : List (List ℕ)) → map f (xs ++ ys) ≡ map f xs ++ map f ys
map_append f [] ys = refl
map_append f (x ∷ xs) ys = ap (λ l. f x ∷ l) (map_append f xs ys)

lines_grow : (a b : List ℕ) → More (ended_lines (a ++ b)) (ended_lines a)
lines_grow a b = let g = parts_grow a b in record { more = map without_cr g.more; is = ap (map without_cr) g.is ∙ map_append without_cr (ended_parts a) g.more }

-- what stands before the first that passes does not change by what follows
any_stays : (p : List ℕ → Bool) (xs ys : List (List ℕ)) → list_any p xs ≡ true → list_any p (xs ++ ys) ≡ true
any_stays p [] ys h = absurd (cc h)
any_stays p (x ∷ xs) ys h = elim (cases_Bool (p x)) [ inl e ↦ rw e refl | inr n ↦ rw n (any_stays p xs ys (sym (rw n refl) ∙ h)) ]

before_stays : (p : List ℕ → Bool) (xs ys : List (List ℕ)) → list_any p xs ≡ true → before_first p (xs ++ ys) ≡ before_first p xs
before_stays p [] ys h = absurd (cc h)
before_stays p (x ∷ xs) ys h =
    elim (cases_Bool (p x)) [
      | inl e ↦ rw e refl
      | inr n ↦ rw (n, one-add (position_or_len p (xs ++ ys)), one-add (position_or_len p xs)) (ap (λ l. x ∷ l) (before_stays p xs ys (sym (rw n refl) ∙ h)))
    ]

too_much_stays : (a b : List ℕ) → is_too_much a ≡ true → is_too_much (a ++ b) ≡ true
unfolding is_too_much
too_much_stays a b h = lt-ltb most_data (length (a ++ b)) (omega (arith, ltb-true most_data (length a) h, length-append {A = ℕ}))

room_full : (a b : List ℕ) → is_too_much a ≡ true → room (a ++ b) ≡ room a
unfolding is_too_much room
room_full a b h = take-append-le most_data a b (omega (arith, ltb-true most_data (length a) h))

pub front_length : (n : ℕ) (xs : List ℕ) → n < length xs → n ≡ length (take n xs)
front_length n xs less = simp length-take (omega arith)

pub room_whole : (a : List ℕ) → length a ≤ most_data → room a ≡ a
unfolding room
room_whole a fits = take_all most_data a fits

pub room_grows : (a b : List ℕ) → room (a ++ b) ≡ room a ++ take (most_data - length a) b
unfolding room
room_grows a b = take_extends most_data a b

abbrev pub Stays : Verdict → Verdict → Type 0
Stays old new = is_open old ≡ false → new ≡ old

data_stays : (a : ParsedRequest) (extent : Extent) (s b : List ℕ) (ended : Bool) → Stays (data_verdict a extent s false) (data_verdict a extent (s ++ b) ended)
data_stays a (Count n) s b ended closed =
    elim (cases_Bool (nat_le n (length s))) [
      | inl e ↦
          let fits : n ≤ length s = leb-true n (length s) e in
          let enough : nat_le n (length (s ++ b)) ≡ true = le-leb n (length (s ++ b)) (omega (arith, length-append {A = ℕ})) in
          rw (e, enough) (ap (λ x. Whole (with_data a (lines x))) (take-append-le n s b fits))
      | inr off ↦ absurd (both_ways _ closed (rw off refl))
    ]
data_stays a ToEnd s b ended closed =
    elim (cases_Bool (is_too_much s)) [
      | inl e ↦ rw (e, too_much_stays s b e) refl
      | inr off ↦ absurd (both_ways _ closed (rw off refl))
    ]
data_stays a ToPeriod s b ended closed =
    elim (cases_Bool (list_any is_period (ended_lines (room s)))) [
      | inl e ↦
          let g = lines_grow (room s) (take (most_data - length s) b) in
          let grown : ended_lines (room (s ++ b)) ≡ ended_lines (room s) ++ g.more = ap ended_lines (room_grows s b) ∙ g.is in
          let enough : list_any is_period (ended_lines (room (s ++ b))) ≡ true = ap (list_any is_period) grown ∙ any_stays is_period (ended_lines (room s)) g.more e in
          let same : before_first is_period (ended_lines (room (s ++ b))) ≡ before_first is_period (ended_lines (room s)) = ap (before_first is_period) grown ∙ before_stays is_period (ended_lines (room s)) g.more e in
          rw (e, enough) (ap (λ x. Whole (with_data a (map unstuffed x))) same)
      | inr off ↦ elim (cases_Bool (is_too_much s)) [
        | inl e ↦ rw (room_full s b e, off, e, too_much_stays s b e) refl
        | inr short ↦ absurd (both_ways _ closed (rw (off, short) refl))
      ]
    ]

extent_stays : (a : ParsedRequest) (r : Result Extent Cause) (s b : List ℕ) (ended : Bool) → Stays (extent_verdict a r s false) (extent_verdict a r (s ++ b) ended)
extent_stays a (Ok extent) s b ended closed = data_stays a extent s b ended closed
extent_stays a (Err cause) s b ended closed = refl

head_stays : (a : ParsedRequest) (old new : Cut) (b : List ℕ) (ended : Bool) → Grows old new b → Stays (head_verdict a old false) (head_verdict a new ended)
head_stays a NotYet new b ended g closed = absurd (cc closed)
head_stays a TooLate new b ended g closed = ap (λ c. head_verdict a c ended) g
head_stays a (Line line rest) new b ended g closed = ap (λ c. head_verdict a c ended) g ∙ extent_stays a (extent_of line) rest b ended closed

parsed_stays : (r : Result ParsedRequest Cause) (s b : List ℕ) (ended : Bool) → Stays (parsed_verdict r s false) (parsed_verdict r (s ++ b) ended)
parsed_stays (Err cause) s b ended closed = refl
parsed_stays (Ok a) s b ended closed =
    elim (cases_Bool a.has_data) [
      | inl e ↦ rw e (head_stays a (first_line s) (first_line (s ++ b)) b ended (first_line_grows s b) (sym (rw e refl) ∙ closed))
      | inr off ↦ rw off refl
    ]

line_stays : (old new : Cut) (b : List ℕ) (ended : Bool) → Grows old new b → Stays (line_verdict old false) (line_verdict new ended)
line_stays NotYet new b ended g closed = absurd (cc closed)
line_stays TooLate new b ended g closed = ap (λ c. line_verdict c ended) g
line_stays (Line line rest) new b ended g closed = ap (λ c. line_verdict c ended) g ∙ parsed_stays (parsed_line line) rest b ended closed

pub closed_verdict_stays_lem : VerdictsStay
unfolding verdict
closed_verdict_stays_lem front rest ended closed = line_stays (first_line front) (first_line (front ++ rest)) rest ended (first_line_grows front rest) closed

-- at the end of input nothing is open
data_decided : (a : ParsedRequest) (extent : Extent) (s : List ℕ) → is_open (data_verdict a extent s true) ≡ false
data_decided a (Count n) s = elim (cases_Bool (nat_le n (length s))) [ inl e ↦ rw e refl | inr e ↦ rw e refl ]
data_decided a ToEnd s = elim (cases_Bool (is_too_much s)) [ inl e ↦ rw e refl | inr e ↦ rw e refl ]
data_decided a ToPeriod s =
    elim (cases_Bool (list_any is_period (ended_lines (room s)))) [
      | inl e ↦ rw e refl
      | inr off ↦ elim (cases_Bool (is_too_much s)) [ inl e ↦ rw (off, e) refl | inr e ↦ rw (off, e) refl ]
    ]

extent_decided : (a : ParsedRequest) (r : Result Extent Cause) (s : List ℕ) → is_open (extent_verdict a r s true) ≡ false
extent_decided a (Ok extent) s = data_decided a extent s
extent_decided a (Err cause) s = refl

head_decided : (a : ParsedRequest) (c : Cut) → is_open (head_verdict a c true) ≡ false
head_decided a NotYet = refl
head_decided a TooLate = refl
head_decided a (Line line rest) = extent_decided a (extent_of line) rest

parsed_decided : (r : Result ParsedRequest Cause) (s : List ℕ) → is_open (parsed_verdict r s true) ≡ false
parsed_decided (Err cause) s = refl
parsed_decided (Ok a) s = elim (cases_Bool a.has_data) [ inl e ↦ rw e (head_decided a (first_line s)) | inr off ↦ rw off refl ]

line_decided : (c : Cut) → is_open (line_verdict c true) ≡ false
line_decided NotYet = refl
line_decided TooLate = refl
line_decided (Line line rest) = parsed_decided (parsed_line line) rest

pub decided_lem : IsDecided
unfolding verdict
decided_lem stream = line_decided (first_line stream)
