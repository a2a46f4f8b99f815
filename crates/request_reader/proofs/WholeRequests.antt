-- What is known of whole requests: their selectors, their lines of data, and what they name.
use Rattle.std.proofs.Common.{◌≡◌, ℕ, ◌+◌, Bool, true, false, List, [], ◌∷◌, ◌==◌, ◌&&◌, length, take, map, inl, inr, refl}
use Rattle.std.specs.Prelude.{Option, Some, None, unwrap_or, Result, Ok, Err, IsTrue, nat_le, filter}
use Rattle.std.specs.List.{list_any, slice_split, before_first, after_first, position_or_len, onto_first}
use Rattle.std.proofs.lemmas.Bool.{cases_Bool, cases_lt, lt-ltb, le-ltb}
use Rattle.host_types.specs.Names as names
use Rattle.host_types.specs.Items.{is_selector}
use Rattle.host_types.specs.Lines.{lines, without_cr, begins, onto_first_line}
use Rattle.request_reader.specs.Request.{RequestedView, Plus, Fetch, Attributes, EntryAttributes, Request}
use Rattle.request_reader.specs.Lines.{Cut, NotYet, TooLate, Line, first_line, is_lf, ended_parts, ended_lines, onto_ended}
use Rattle.request_reader.specs.RequestLine.{ParsedRequest, is_tab, is_space, is_forbidden, is_plus_field, not_empty, names_of, language_of, requested_of, fetch_of, plus_of, data_flag, with_flag, with_plus, behind_words, behind_selector, parsed_line, fields_after, before_fields, without_empty_end, without_empty_front}
use Rattle.request_reader.specs.DataHead.{extent_of}
use Rattle.request_reader.specs.DataLines.{is_period, unstuffed, room, is_too_much}
use Rattle.request_reader.specs.declared.cause.Cause.{Cause}
use Rattle.request_reader.specs.declared.data_head.Extent.{Extent}
use Rattle.request_reader.specs.declared.data_head.Extent.TheVariants.{ToPeriod, ToEnd, Count}
use Rattle.request_reader.specs.Verdict.{Whole, verdict, pending, without_data, with_data, line_verdict, parsed_verdict, head_verdict, extent_verdict, data_verdict}
use Rattle.request_reader.specs.Laws.{IsValid, HasLines, HasNames, names_requested, named_by, names_asked}
use Rattle.request_reader.proofs.CleanLines.{lacks_take, lacks_drop, lacks_head, lacks_tail, lacks_cr, first_valid, alone_free, Clean, first_clean}

-- ---- lines of data

-- no line holds an LF
abbrev pub AreLines : List (List ℕ) → Type 0
AreLines ls = list_any (list_any is_lf) ls ≡ false

onto_lines : (b : ℕ) (ls : List (List ℕ)) → is_lf b ≡ false → AreLines ls → AreLines (onto_first_line b ls)
onto_lines b [] other clean = rw other refl
onto_lines b (l ∷ ls) other clean = rw (other, lacks_head (list_any is_lf) l ls clean) (lacks_tail (list_any is_lf) l ls clean)

lines_clean : (bs : List ℕ) → AreLines (lines bs)
lines_clean [] = refl
lines_clean (b ∷ bs) =
    elim (cases_Bool (b == 10)) [
      | inl lf ↦ rw lf (lines_clean bs)
      | inr other ↦ elim (cases_Bool (b == 13 && begins 10 bs)) [
        | inl cr ↦ rw (other, cr) (lines_clean bs)
        | inr off ↦ rw (other, off) (onto_lines b (lines bs) other (lines_clean bs))
      ]
    ]

onto_parts : (b : ℕ) (ls : List (List ℕ)) → is_lf b ≡ false → AreLines ls → AreLines (onto_ended b ls)
onto_parts b [] other clean = refl
onto_parts b (l ∷ ls) other clean = rw (other, lacks_head (list_any is_lf) l ls clean) (lacks_tail (list_any is_lf) l ls clean)

parts_clean : (bs : List ℕ) → AreLines (ended_parts bs)
parts_clean [] = refl
parts_clean (b ∷ bs) =
    elim (cases_Bool (b == 10)) [
      | inl lf ↦ rw lf (parts_clean bs)
      | inr other ↦ rw other (onto_parts b (ended_parts bs) other (parts_clean bs))
    ]

mapped_clean : (f : List ℕ → List ℕ) → ((l : List ℕ) → list_any is_lf l ≡ false → list_any is_lf (f l) ≡ false) → (ls : List (List ℕ)) → AreLines ls → AreLines (map f ls)
mapped_clean f keeps [] clean = refl
mapped_clean f keeps (l ∷ ls) clean = rw (keeps l (lacks_head (list_any is_lf) l ls clean)) (mapped_clean f keeps ls (lacks_tail (list_any is_lf) l ls clean))

unstuffed_clean : (l : List ℕ) → list_any is_lf l ≡ false → list_any is_lf (unstuffed l) ≡ false
unstuffed_clean [] clean = refl
unstuffed_clean (b ∷ []) clean = clean
unstuffed_clean (b ∷ c ∷ bs) clean =
    elim (cases_Bool (b == 46)) [
      | inr other ↦ rw other clean
      | inl first ↦ elim (cases_Bool (c == 46)) [
        | inl second ↦ rw (first, second) (lacks_tail is_lf b (c ∷ bs) clean)
        | inr off ↦ rw (first, off) clean
      ]
    ]

period_clean : (bs : List ℕ) → AreLines (map unstuffed (before_first is_period (ended_lines bs)))
period_clean bs =
    mapped_clean unstuffed unstuffed_clean (before_first is_period (ended_lines bs))
    (lacks_take (list_any is_lf) (position_or_len is_period (ended_lines bs)) (ended_lines bs) (mapped_clean without_cr (lacks_cr is_lf) (ended_parts bs) (parts_clean bs)))

-- ---- the line that a whole request comes from

record Is (a : ParsedRequest) (r : Request) : Type 0 where
  pub selector : r.selector ≡ a.selector
  pub plus : r.plus ≡ a.plus
  pub clean : AreLines (unwrap_or r.lines [])

bare : (a : ParsedRequest) (r : Request) → Whole (without_data a) ≡ Whole r → Is a r
bare a r is = let none : r.lines ≡ None = cc is in record { selector = cc is; plus = cc is; clean = rw none refl }

given : (a : ParsedRequest) (ls : List (List ℕ)) (r : Request) → AreLines ls → Whole (with_data a ls) ≡ Whole r → Is a r
given a ls r clean is = let some : r.lines ≡ Some ls = cc is in record { selector = cc is; plus = cc is; clean = rw some clean }

pending_no : (ended : Bool) (r : Request) → pending ended ≡ Whole r → ⊥
pending_no true r is = cc is
pending_no false r is = cc is

data_is : (a : ParsedRequest) (extent : Extent) (s : List ℕ) (ended : Bool) (r : Request) → data_verdict a extent s ended ≡ Whole r → Is a r
data_is a (Count n) s ended r is =
    elim (cases_Bool (nat_le n (length s))) [
      | inl e ↦ given a (lines (take n s)) r (lines_clean (take n s)) (rw e at is)
      | inr e ↦ absurd (pending_no ended r (rw e at is))
    ]
data_is a ToEnd s ended r is =
    elim (cases_Bool (is_too_much s)) [
      | inl e ↦ absurd (let k = rw e at is in cc k)
      | inr e ↦ elim (cases_Bool ended) [
        | inl f ↦ given a (lines s) r (lines_clean s) (rw (e, f) at is)
        | inr f ↦ absurd (let k = rw (e, f) at is in cc k)
      ]
    ]
data_is a ToPeriod s ended r is =
    elim (cases_Bool (list_any is_period (ended_lines (room s)))) [
      | inl e ↦ given a (map unstuffed (before_first is_period (ended_lines (room s)))) r (period_clean (room s)) (rw e at is)
      | inr e ↦ elim (cases_Bool (is_too_much s)) [
        | inl f ↦ absurd (let k = rw (e, f) at is in cc k)
        | inr f ↦ absurd (pending_no ended r (rw (e, f) at is))
      ]
    ]

extent_is : (a : ParsedRequest) (x : Result Extent Cause) (s : List ℕ) (ended : Bool) (r : Request) → extent_verdict a x s ended ≡ Whole r → Is a r
extent_is a (Ok extent) s ended r is = data_is a extent s ended r is
extent_is a (Err cause) s ended r is = absurd (cc is)

head_is : (a : ParsedRequest) (c : Cut) (ended : Bool) (r : Request) → head_verdict a c ended ≡ Whole r → Is a r
head_is a NotYet ended r is = absurd (pending_no ended r is)
head_is a TooLate ended r is = absurd (cc is)
head_is a (Line line rest) ended r is = extent_is a (extent_of line) rest ended r is

parsed_is : (a : ParsedRequest) (s : List ℕ) (ended : Bool) (r : Request) → parsed_verdict (Ok a) s ended ≡ Whole r → Is a r
parsed_is a s ended r is =
    elim (cases_Bool a.has_data) [
      | inl e ↦ head_is a (first_line s) ended r (rw e at is)
      | inr e ↦ bare a r (rw e at is)
    ]

record Comes (r : Request) : Type 0 where
  pub line : List ℕ
  pub a : ParsedRequest
  pub clean : list_any is_lf line ≡ false
  pub parsed : parsed_line line ≡ Ok a
  pub is : Is a r

result_comes : (line : List ℕ) (x : Result ParsedRequest Cause) (s : List ℕ) (ended : Bool) (r : Request) → list_any is_lf line ≡ false → parsed_line line ≡ x → parsed_verdict x s ended ≡ Whole r → Comes r
result_comes line (Ok a) s ended r clean parsed is = record { line = line; a = a; clean = clean; parsed = parsed; is = parsed_is a s ended r is }
result_comes line (Err cause) s ended r clean parsed is = absurd (cc is)

line_comes : (c : Cut) (ended : Bool) (r : Request) → Clean c → line_verdict c ended ≡ Whole r → Comes r
line_comes NotYet ended r clean is = absurd (pending_no ended r is)
line_comes TooLate ended r clean is = absurd (cc is)
line_comes (Line line rest) ended r clean is = result_comes line (parsed_line line) rest ended r clean refl is

comes : (stream : List ℕ) (ended : Bool) (r : Request) → verdict stream ended ≡ Whole r → Comes r
unfolding verdict
comes stream ended r is = line_comes (first_line stream) ended r (first_clean stream) is

-- ---- names

-- can stand in a field
abbrev pub IsFree : List ℕ → Type 0
IsFree bs = list_any names.is_forbidden bs ≡ false

abbrev pub AreFree : List (List ℕ) → Type 0
AreFree fs = list_any (list_any names.is_forbidden) fs ≡ false

all_free : (f : List ℕ) (fs : List (List ℕ)) → IsFree f → AreFree fs → AreFree (f ∷ fs)
all_free f fs here rest = rw here rest

first_free : (b : ℕ) (fs : List (List ℕ)) → names.is_forbidden b ≡ false → AreFree fs → AreFree (onto_first b fs)
first_free b [] here rest = rw here refl
first_free b (f ∷ fs) here rest = rw (here, lacks_head (list_any names.is_forbidden) f fs rest) (lacks_tail (list_any names.is_forbidden) f fs rest)

-- the fields of a line
split_free : (bs : List ℕ) → list_any is_forbidden bs ≡ false → list_any is_lf bs ≡ false → AreFree (slice_split is_tab bs)
split_free [] forbidden lf = refl
split_free (b ∷ bs) forbidden lf =
    let rest = split_free bs (lacks_tail is_forbidden b bs forbidden) (lacks_tail is_lf b bs lf) in
    elim (cases_Bool (b == 9)) [
      | inl tab ↦ rw tab rest
      | inr other ↦ rw other (first_free b (slice_split is_tab bs) (alone_free b other (lacks_head is_forbidden b bs forbidden) (lacks_head is_lf b bs lf)) rest)
    ]

-- parts of what can stand in a field
parts_free : (bs : List ℕ) → IsFree bs → AreFree (slice_split is_space bs)
parts_free [] free = refl
parts_free (b ∷ bs) free =
    let rest = parts_free bs (lacks_tail names.is_forbidden b bs free) in
    elim (cases_Bool (b == 32)) [
      | inl space ↦ rw space rest
      | inr other ↦ rw other (first_free b (slice_split is_space bs) (lacks_head names.is_forbidden b bs free) rest)
    ]

filter_free : (fs : List (List ℕ)) → AreFree fs → AreFree (filter not_empty fs)
filter_free [] free = refl
filter_free (f ∷ fs) free =
    let rest = filter_free fs (lacks_tail (list_any names.is_forbidden) f fs free) in
    elim (cases_Bool (not_empty f)) [
      | inl e ↦ rw e (all_free f (filter not_empty fs) (lacks_head (list_any names.is_forbidden) f fs free) rest)
      | inr e ↦ rw e rest
    ]

before_free : (f : List ℕ) (fs : List (List ℕ)) → IsFree f → AreFree fs → AreFree (before_fields f fs)
before_free [] [] here rest = refl
before_free [] (g ∷ gs) here rest = rest
before_free (b ∷ bs) fs here rest = all_free (b ∷ bs) fs here rest

end_free : (fs : List (List ℕ)) → AreFree fs → AreFree (without_empty_end fs)
end_free [] free = refl
end_free (f ∷ fs) free = before_free f (without_empty_end fs) (lacks_head (list_any names.is_forbidden) f fs free) (end_free fs (lacks_tail (list_any names.is_forbidden) f fs free))

front_free : (fs : List (List ℕ)) → AreFree fs → AreFree (without_empty_front fs)
front_free [] free = refl
front_free ([] ∷ fs) free = free
front_free ((b ∷ bs) ∷ fs) free = free

fields_free : (line : List ℕ) → list_any is_forbidden line ≡ false → list_any is_lf line ≡ false → AreFree (fields_after line)
fields_free line forbidden lf =
    front_free (without_empty_end (slice_split is_tab (after_first is_tab line)))
    (end_free (slice_split is_tab (after_first is_tab line))
    (split_free (after_first is_tab line) (lacks_drop is_forbidden (position_or_len is_tab line + 1) line forbidden) (lacks_drop is_lf (position_or_len is_tab line + 1) line lf)))

language_free : (name rest : List ℕ) → IsFree name → IsFree rest → AreFree (names_requested (Some (record { name = name; language = language_of rest })))
language_free name [] here free = all_free name [] here refl
language_free name (b ∷ bs) here free = all_free name ((b ∷ bs) ∷ []) here (all_free (b ∷ bs) [] free refl)

fetch_free : (bs : List ℕ) (requested : Option RequestedView) → IsFree bs → requested_of bs ≡ Ok requested → AreFree (names_requested requested)
fetch_free [] requested free is = let none : requested ≡ None = cc is in rw none refl
fetch_free (b ∷ bs) requested free is =
    elim (cases_Bool (is_space b)) [
      | inl e ↦ absurd (let k = rw e at is in cc k)
      | inr e ↦
          let k = rw e at is in
          let some : requested ≡ Some (record { name = before_first is_space (b ∷ bs); language = language_of (after_first is_space (b ∷ bs)) }) = cc k in
          rw some (language_free (before_first is_space (b ∷ bs)) (after_first is_space (b ∷ bs)) (lacks_take names.is_forbidden (position_or_len is_space (b ∷ bs)) (b ∷ bs) free) (lacks_drop names.is_forbidden (position_or_len is_space (b ∷ bs) + 1) (b ∷ bs) free))
    ]

fetched_free : (bs : List ℕ) (x : Result (Option RequestedView) Cause) (plus : Plus) → IsFree bs → requested_of bs ≡ x → fetch_of x ≡ Ok plus → AreFree (named_by plus)
fetched_free bs (Ok requested) plus free of is = let same : plus ≡ Fetch requested = cc is in rw same (fetch_free bs requested free of)
fetched_free bs (Err cause) plus free of is = absurd (cc is)

part_free : (f : List ℕ) (plus : Plus) → IsFree f → plus_of f ≡ Ok plus → AreFree (named_by plus)
part_free [] plus free is = absurd (cc is)
part_free (b ∷ bs) plus free is =
    let rest = lacks_tail names.is_forbidden b bs free in
    elim (cases_Bool (b == 43)) [
      | inl e ↦ fetched_free bs (requested_of bs) plus rest refl (rw e at is)
      | inr e ↦ elim (cases_Bool (b == 33)) [
        | inl g ↦ (let k = rw (e, g) at is in let same : plus ≡ Attributes (names_of bs) = cc k in rw same (filter_free (slice_split is_space bs) (parts_free bs rest)))
        | inr g ↦ (let k = rw (e, g) at is in let same : plus ≡ EntryAttributes (names_of bs) = cc k in rw same (filter_free (slice_split is_space bs) (parts_free bs rest)))
      ]
    ]

-- a line's selector and what it names
record IsFit (selector : List ℕ) (a : ParsedRequest) : Type 0 where
  pub named : a.selector ≡ selector
  pub free : AreFree (names_asked a.plus)

flag_fit : (selector : List ℕ) (search : Option (List ℕ)) (f : List ℕ) (x : Result Plus Cause) (flag : Bool) (a : ParsedRequest) → IsFree f → plus_of f ≡ x → with_flag selector search x flag ≡ Ok a → IsFit selector a
flag_fit selector search f (Ok plus) flag a free of is = let same : a.plus ≡ Some plus = cc is in record { named = cc is; free = rw same (part_free f plus free of) }
flag_fit selector search f (Err cause) flag a free of is = absurd (cc is)

plus_fit : (selector : List ℕ) (search : Option (List ℕ)) (f : List ℕ) (flag : Result Bool Cause) (a : ParsedRequest) → IsFree f → with_plus selector search f flag ≡ Ok a → IsFit selector a
plus_fit selector search f (Ok flag) a free is = flag_fit selector search f (plus_of f) flag a free refl is
plus_fit selector search f (Err cause) a free is = absurd (cc is)

words_fit : (selector words : List ℕ) (fs : List (List ℕ)) (a : ParsedRequest) → AreFree fs → behind_words selector words fs ≡ Ok a → IsFit selector a
words_fit selector words [] a free is = let none : a.plus ≡ None = cc is in record { named = cc is; free = rw none refl }
words_fit selector words (f ∷ fs) a free is =
    elim (cases_Bool (is_plus_field f)) [
      | inl e ↦ plus_fit selector (Some words) f (data_flag f fs) a (lacks_head (list_any names.is_forbidden) f fs free) (rw e at is)
      | inr e ↦ absurd (let k = rw e at is in cc k)
    ]

selector_fit : (selector : List ℕ) (fs : List (List ℕ)) (a : ParsedRequest) → AreFree fs → behind_selector selector fs ≡ Ok a → IsFit selector a
selector_fit selector [] a free is = let none : a.plus ≡ None = cc is in record { named = cc is; free = rw none refl }
selector_fit selector (f ∷ fs) a free is =
    elim (cases_Bool (is_plus_field f)) [
      | inl e ↦ plus_fit selector None f (data_flag f fs) a (lacks_head (list_any names.is_forbidden) f fs free) (rw e at is)
      | inr e ↦ words_fit selector f fs a (lacks_tail (list_any names.is_forbidden) f fs free) (rw e at is)
    ]

record IsGood (a : ParsedRequest) : Type 0 where
  pub valid : IsTrue (is_selector a.selector)
  pub free : AreFree (names_asked a.plus)

parsed_good : (line : List ℕ) (a : ParsedRequest) → list_any is_lf line ≡ false → parsed_line line ≡ Ok a → IsGood a
unfolding parsed_line
parsed_good line a lf is =
    elim (cases_Bool (list_any is_forbidden line)) [
      | inl e ↦ absurd (let k = rw e at is in cc k)
      | inr forbidden ↦ elim (cases_lt 255 (length (before_first is_tab line))) [
        | inl long ↦ absurd (let k = rw (forbidden, lt-ltb _ _ long) at is in cc k)
        | inr short ↦
            let fit = selector_fit (before_first is_tab line) (fields_after line) a (fields_free line forbidden lf) (rw (forbidden, le-ltb _ _ short) at is) in
            record { valid = rw fit.named (first_valid line lf forbidden short); free = fit.free }
      ]
    ]

pub valid_lem : IsValid
valid_lem stream ended r is = let c = comes stream ended r is in rw c.is.selector (parsed_good c.line c.a c.clean c.parsed).valid

pub lines_lem : HasLines
lines_lem stream ended r is = (comes stream ended r is).is.clean

pub names_lem : HasNames
names_lem stream ended r is = let c = comes stream ended r is in rw c.is.plus (parsed_good c.line c.a c.clean c.parsed).free
