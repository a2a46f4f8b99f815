-- Lines of data one by one, up to the first that is one period.
use Rattle.std.proofs.Common.{◌≡◌, ℕ, ◌+◌, ◌-◌, ◌<◌, ◌≤◌, true, false, List, [], ◌∷◌, ◌++◌, ◌==◌, ◌||◌, length, take, drop, map, get_or, arith, ap, sym, ◌∙◌, inl, inr, refl, one-add, append_assoc, length-take, length-drop, length-append, eqb-true}
use Rattle.std.specs.Prelude.{Option, Some, None, Result, Ok, Err}
use Rattle.std.specs.List.{position_or_len, before_first, after_first, list_any}
use Rattle.std.proofs.Math.Seq.{take-append-add}
use Rattle.std.proofs.lemmas.List.{take_all, take-append-drop, take-append-le, append-nil}
use Rattle.std.proofs.lemmas.List.Sums.{split_at_first, passes_at_first}
use Rattle.std.proofs.lemmas.List.Folds.{list_any-append}
use Rattle.std.proofs.lemmas.Bool.{cases_Bool, both_ways}
use Rattle.host_types.specs.Lines.{lines, without_cr, onto_first_line}
use Rattle.request_reader.specs.Lines.{Cut, NotYet, TooLate, Line, first_line, is_lf, ended_parts, ended_lines}
use Rattle.request_reader.specs.DataLines.{is_period}
use Rattle.request_reader.specs.RequestLine.{ParsedRequest, parsed_line}
use Rattle.request_reader.specs.DataHead.{extent_of, most_data}
use Rattle.request_reader.specs.Scanned.{HasNoPeriod, IsScannedTo, IsScannedIn, IsScanned, data_to_period, of_extent, of_head, of_asked, of_line}
use Rattle.request_reader.specs.declared.cause.Cause.{Cause}
use Rattle.request_reader.specs.declared.data_head.Extent.{Extent}
use Rattle.request_reader.specs.declared.data_head.Extent.TheVariants.{ToPeriod, ToEnd, Count}
use Rattle.request_reader.proofs.GrowingStreams.{Grows, first_line_grows, room_grows}
use Rattle.request_reader.proofs.CleanLines.{lacks_head, lacks_tail, lacks_first}

-- a part that its LF ends
part_ends : (p ys : List ℕ) → list_any is_lf p ≡ false → ended_parts (p ++ 10 ∷ ys) ≡ p ∷ ended_parts ys
part_ends [] ys none = refl
part_ends (b ∷ bs) ys none = rw (lacks_head is_lf b bs none, part_ends bs ys (lacks_tail is_lf b bs none)) refl

line_ends : (p ys : List ℕ) → list_any is_lf p ≡ false → ended_lines (p ++ 10 ∷ ys) ≡ without_cr p ∷ ended_lines ys
line_ends p ys none = ap (map without_cr) (part_ends p ys none)

-- the same among all lines
line_comes : (p ys : List ℕ) → list_any is_lf p ≡ false → lines (p ++ 10 ∷ ys) ≡ without_cr p ∷ lines ys
line_comes [] ys none = refl
line_comes (b ∷ []) ys none =
    elim (cases_Bool (b == 13)) [
      | inl cr ↦ rw (lacks_head is_lf b [] none, cr) refl
      | inr other ↦ rw (lacks_head is_lf b [] none, other) refl
    ]
line_comes (b ∷ c ∷ bs) ys none =
    let rest = line_comes (c ∷ bs) ys (lacks_tail is_lf b (c ∷ bs) none) in
    let next : (c == 10) ≡ false = lacks_head is_lf c bs (lacks_tail is_lf b (c ∷ bs) none) in
    elim (cases_Bool (b == 13)) [
      | inl cr ↦ rw (lacks_head is_lf b (c ∷ bs) none, cr, next) (ap (onto_first_line b) (rw next at rest))
      | inr other ↦ rw (lacks_head is_lf b (c ∷ bs) none, other) (ap (onto_first_line b) rest)
    ]

none_ended : (p : List ℕ) → list_any is_lf p ≡ false → ended_parts p ≡ []
none_ended [] none = refl
none_ended (b ∷ bs) none = rw (lacks_head is_lf b bs none, none_ended bs (lacks_tail is_lf b bs none)) refl

pub nothing_passed : HasNoPeriod []
nothing_passed = record { ended = λ ys. refl; whole = λ ys. refl; none = refl }

any_none : (xs ys : List (List ℕ)) → list_any is_period xs ≡ false → list_any is_period (xs ++ ys) ≡ list_any is_period ys
any_none xs ys none = list_any-append is_period xs ys ∙ ap (λ b. b || list_any is_period ys) none

before_none : (xs : List (List ℕ)) (y : List ℕ) (ys : List (List ℕ)) → list_any is_period xs ≡ false → is_period y ≡ true → before_first is_period (xs ++ y ∷ ys) ≡ xs
before_none [] y ys none is = rw is refl
before_none (x ∷ xs) y ys none is =
    let head : is_period x ≡ false = (elim (cases_Bool (is_period x)) [ inl e ↦ absurd (both_ways _ none (rw e refl)) | inr e ↦ e ]) in
    let tail : list_any is_period xs ≡ false = sym (rw head refl) ∙ none in
    rw (head, one-add) (ap (λ l. x ∷ l) (before_none xs y ys tail is))

-- one line more
one_passed : (xs p : List ℕ) → HasNoPeriod xs → list_any is_lf p ≡ false → is_period (without_cr p) ≡ false → HasNoPeriod (xs ++ (p ++ 10 ∷ []))
one_passed xs p h clean other =
    let ends : ended_lines (xs ++ (p ++ 10 ∷ [])) ≡ ended_lines xs ++ without_cr p ∷ [] = h.ended (p ++ 10 ∷ []) ∙ ap (λ l. ended_lines xs ++ l) (line_ends p [] clean) in
    let along : (ys : List ℕ) → (xs ++ (p ++ 10 ∷ [])) ++ ys ≡ xs ++ (p ++ 10 ∷ ys) = λ (ys : List ℕ). append_assoc xs (p ++ 10 ∷ []) ys ∙ ap (λ l. xs ++ l) (append_assoc p (10 ∷ []) ys) in
    record {
      ended = λ ys. ap ended_lines (along ys) ∙ h.ended (p ++ 10 ∷ ys) ∙ ap (λ l. ended_lines xs ++ l) (line_ends p ys clean) ∙ sym (append_assoc (ended_lines xs) (without_cr p ∷ []) (ended_lines ys)) ∙ ap (λ l. l ++ ended_lines ys) (sym ends);
      whole = λ ys. ap lines (along ys) ∙ h.whole (p ++ 10 ∷ ys) ∙ ap (λ l. ended_lines xs ++ l) (line_comes p ys clean) ∙ sym (append_assoc (ended_lines xs) (without_cr p ∷ []) (lines ys)) ∙ ap (λ l. l ++ lines ys) (sym ends);
      none = ap (list_any is_period) ends ∙ any_none (ended_lines xs) (without_cr p ∷ []) h.none ∙ (rw other refl);
    }

-- What is left of some bytes, behind lines that passed, and the place of its first LF.
pub record Left (bytes rest : List ℕ) (at n : ℕ) : Type 0 where
  pub scanned : IsScannedTo bytes at
  pub is : rest ≡ drop at bytes
  pub place : n ≡ position_or_len is_lf rest

-- the first part of what is left, its LF, and the rest
parted : (rest : List ℕ) (n : ℕ) → n ≡ position_or_len is_lf rest → n < length rest → rest ≡ take n rest ++ 10 ∷ drop (n + 1) rest
parted rest n place less =
    let found : position_or_len is_lf rest < length rest = omega arith in
    let lf : get_or rest (position_or_len is_lf rest) 0 ≡ 10 = eqb-true _ 10 (passes_at_first is_lf rest 0 found) in
    rw place (split_at_first is_lf rest 0 found ∙ ap (λ b. before_first is_lf rest ++ b ∷ after_first is_lf rest) lf)

clean_part : (rest : List ℕ) (n : ℕ) → n ≡ position_or_len is_lf rest → list_any is_lf (take n rest) ≡ false
clean_part rest n place = rw place (lacks_first is_lf rest)

all_of : (bytes rest : List ℕ) (at n : ℕ) → Left bytes rest at n → bytes ≡ take at bytes ++ rest
all_of bytes rest at n l = sym (take-append-drop at bytes) ∙ ap (λ r. take at bytes ++ r) (sym l.is)

taken : (front rest p more : List ℕ) → rest ≡ p ++ 10 ∷ more → take (length front + (length p + 1)) (front ++ rest) ≡ front ++ (p ++ 10 ∷ [])
taken front rest p more is = take-append-add front rest (length p + 1) ∙ ap (λ r. front ++ take (length p + 1) r) is ∙ ap (λ r. front ++ r) (take-append-add p (10 ∷ more) 1)

-- a line that is no period
goes_past : (bytes rest : List ℕ) (at n : ℕ) → Left bytes rest at n → n < length rest → is_period (without_cr (take n rest)) ≡ false → HasNoPeriod (take (at + (n + 1)) bytes)
goes_past bytes rest at n l less other =
    let front : length (take at bytes) ≡ at = simp length-take (omega (arith, l.scanned.within)) in
    let part : length (take n rest) ≡ n = simp length-take (omega arith) in
    let whole : take (at + (n + 1)) bytes ≡ take at bytes ++ (take n rest ++ 10 ∷ []) =
    ap (λ b. take (at + (n + 1)) b) (all_of bytes rest at n l)
    ∙ ap (λ k. take (k + (n + 1)) (take at bytes ++ rest)) (sym front)
    ∙ ap (λ k. take (length (take at bytes) + (k + 1)) (take at bytes ++ rest)) (sym part)
    ∙ taken (take at bytes) rest (take n rest) (drop (n + 1) rest) (parted rest n l.place less) in
    rw whole (one_passed (take at bytes) (take n rest) l.scanned.none (clean_part rest n l.place) other)

pub scanned_past : (bytes rest : List ℕ) (at n : ℕ) → Left bytes rest at n → n < length rest → is_period (without_cr (take n rest)) ≡ false → IsScannedTo bytes (at + (n + 1))
scanned_past bytes rest at n l less other =
    let left : length rest ≡ length bytes - at = ap length l.is ∙ length-drop at bytes in
    record { within = omega (arith, l.scanned.within); none = goes_past bytes rest at n l less other }

ended_here : (bytes rest : List ℕ) (at n : ℕ) → Left bytes rest at n → n < length rest → ended_lines bytes ≡ ended_lines (take at bytes) ++ without_cr (take n rest) ∷ ended_lines (drop (n + 1) rest)
ended_here bytes rest at n l less =
    ap ended_lines (all_of bytes rest at n l)
    ∙ l.scanned.none.ended rest
    ∙ ap (λ r. ended_lines (take at bytes) ++ r) (ap ended_lines (parted rest n l.place less) ∙ line_ends (take n rest) (drop (n + 1) rest) (clean_part rest n l.place))

-- a line that is one period
pub period_found : (bytes rest : List ℕ) (at n : ℕ) → Left bytes rest at n → n < length rest → is_period (without_cr (take n rest)) ≡ true → list_any is_period (ended_lines bytes) ≡ true
period_found bytes rest at n l less is =
    ap (list_any is_period) (ended_here bytes rest at n l less)
    ∙ any_none (ended_lines (take at bytes)) (without_cr (take n rest) ∷ ended_lines (drop (n + 1) rest)) l.scanned.none.none
    ∙ rw is refl

pub lines_before : (bytes rest : List ℕ) (at n : ℕ) → Left bytes rest at n → n < length rest → is_period (without_cr (take n rest)) ≡ true → lines (take at bytes) ≡ before_first is_period (ended_lines bytes)
lines_before bytes rest at n l less is =
    ap lines (sym (append-nil (take at bytes)))
    ∙ l.scanned.none.whole []
    ∙ append-nil (ended_lines (take at bytes))
    ∙ sym (before_none (ended_lines (take at bytes)) (without_cr (take n rest)) (ended_lines (drop (n + 1) rest)) l.scanned.none.none is)
    ∙ ap (before_first is_period) (sym (ended_here bytes rest at n l less))

-- no LF is left
pub no_period : (bytes rest : List ℕ) (at n : ℕ) → Left bytes rest at n → n ≡ length rest → list_any is_period (ended_lines bytes) ≡ false
no_period bytes rest at n l none =
    let clean : list_any is_lf rest ≡ false = ap (list_any is_lf) (sym (take_all n rest (omega arith))) ∙ clean_part rest n l.place in
    ap (list_any is_period) (ap ended_lines (all_of bytes rest at n l) ∙ l.scanned.none.ended rest ∙ ap (λ r. ended_lines (take at bytes) ++ r) (ap (map without_cr) (none_ended rest clean)) ∙ append-nil (ended_lines (take at bytes)))
    ∙ l.scanned.none.none

-- nothing is left
pub no_rest : (bytes : List ℕ) (at : ℕ) → length bytes ≤ at → IsScannedTo bytes at → list_any is_period (ended_lines bytes) ≡ false
no_rest bytes at end l = ap (λ b. list_any is_period (ended_lines b)) (sym (take_all at bytes end)) ∙ l.none.none

-- ---- the data of a stream

pub none_scanned : (bytes : List ℕ) → IsScannedTo bytes 0
none_scanned bytes = record { within = omega arith; none = nothing_passed }

none_scanned_in : (bytes : Option (List ℕ)) → IsScannedIn bytes 0
none_scanned_in None = refl
none_scanned_in (Some bytes) = none_scanned bytes

pub not_scanned : (stream : List ℕ) → IsScanned stream 0
not_scanned stream = none_scanned_in (data_to_period stream)

-- what data become where more follows
abbrev pub Extends : Option (List ℕ) → Option (List ℕ) → Type 0
Extends None new = Unit {0}
Extends (Some bytes) new = (more : List ℕ) × (new ≡ Some (bytes ++ more))

extent_extends : (x : Result Extent Cause) (s b : List ℕ) → Extends (of_extent x s) (of_extent x (s ++ b))
extent_extends (Ok ToPeriod) s b = (take (most_data - length s) b, ap Some (room_grows s b))
extent_extends (Ok ToEnd) s b = tt
extent_extends (Ok (Count n)) s b = tt
extent_extends (Err cause) s b = tt

head_extends : (old new : Cut) (b : List ℕ) → Grows old new b → Extends (of_head old) (of_head new)
head_extends NotYet new b g = tt
head_extends TooLate new b g = tt
head_extends (Line line rest) new b g = rw g (extent_extends (extent_of line) rest b)

parsed_extends : (x : Result ParsedRequest Cause) (s b : List ℕ) → Extends (of_asked x s) (of_asked x (s ++ b))
parsed_extends (Err cause) s b = tt
parsed_extends (Ok a) s b =
    elim (cases_Bool a.has_data) [
      | inl e ↦ rw e (head_extends (first_line s) (first_line (s ++ b)) b (first_line_grows s b))
      | inr e ↦ rw e tt
    ]

line_extends : (old new : Cut) (b : List ℕ) → Grows old new b → Extends (of_line old) (of_line new)
line_extends NotYet new b g = tt
line_extends TooLate new b g = tt
line_extends (Line line rest) new b g = rw g (parsed_extends (parsed_line line) rest b)

data_extends : (s b : List ℕ) → Extends (data_to_period s) (data_to_period (s ++ b))
unfolding data_to_period
data_extends s b = line_extends (first_line s) (first_line (s ++ b)) b (first_line_grows s b)

scanned_more : (bytes more : List ℕ) (n : ℕ) → IsScannedTo bytes n → IsScannedTo (bytes ++ more) n
scanned_more bytes more n l = record {
  within = omega (arith, l.within, length-append {A = ℕ});
  none = rw (take-append-le n bytes more l.within) l.none;
}

extends_scanned : (old new : Option (List ℕ)) (n : ℕ) → Extends old new → IsScannedIn old n → IsScannedIn new n
extends_scanned None new n e l = rw l (none_scanned_in new)
extends_scanned (Some bytes) new n e l = rw e.1 (scanned_more bytes e.0 n l)

-- what was examined stays so where more follows
pub stays_scanned : (s b : List ℕ) (n : ℕ) → IsScanned s n → IsScanned (s ++ b) n
stays_scanned s b n l = extends_scanned (data_to_period s) (data_to_period (s ++ b)) n (data_extends s b) l
