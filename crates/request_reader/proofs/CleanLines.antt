-- Bytes that a line lacks.
use Rattle.std.proofs.Common.{◌≡◌, ℕ, ◌≤◌, Bool, false, List, [], ◌∷◌, ◌==◌, length, take, drop, ap, sym, ◌∙◌, inl, inr, refl, one-add}
use Rattle.std.specs.Prelude.{IsTrue}
use Rattle.std.specs.List.{list_any, before_first, position_or_len}
use Rattle.std.proofs.lemmas.List.{take-append-drop}
use Rattle.std.proofs.lemmas.List.Folds.{list_any-append}
use Rattle.std.proofs.lemmas.Bool.{cases_Bool, cases_lt, le-leb, both_ways, or_parts}
use Rattle.host_types.specs.Names as names
use Rattle.host_types.specs.Items.{is_selector}
use Rattle.host_types.specs.Lines.{without_cr}
use Rattle.request_reader.specs.Lines.{Cut, NotYet, TooLate, Line, first_line, front, is_lf}
use Rattle.request_reader.specs.RequestLine.{is_tab, is_forbidden}
use Rattle.request_reader.proofs.GrowingStreams.{found, too_late, not_yet}

-- a list without such bytes has none at its front
pub lacks_take : {X : Type 0} (p : X → Bool) (n : ℕ) (xs : List X) → list_any p xs ≡ false → list_any p (take n xs) ≡ false
lacks_take p n xs none =
    (or_parts (list_any p (take n xs)) (list_any p (drop n xs)) (sym (list_any-append p (take n xs) (drop n xs)) ∙ ap (list_any p) (take-append-drop n xs) ∙ none)).0

pub lacks_drop : {X : Type 0} (p : X → Bool) (n : ℕ) (xs : List X) → list_any p xs ≡ false → list_any p (drop n xs) ≡ false
lacks_drop p n xs none =
    (or_parts (list_any p (take n xs)) (list_any p (drop n xs)) (sym (list_any-append p (take n xs) (drop n xs)) ∙ ap (list_any p) (take-append-drop n xs) ∙ none)).1

pub lacks_head : {X : Type 0} (p : X → Bool) (x : X) (xs : List X) → list_any p (x ∷ xs) ≡ false → p x ≡ false
lacks_head p x xs none = elim (cases_Bool (p x)) [ inl e ↦ absurd (both_ways _ none (rw e refl)) | inr e ↦ e ]

pub lacks_tail : {X : Type 0} (p : X → Bool) (x : X) (xs : List X) → list_any p (x ∷ xs) ≡ false → list_any p xs ≡ false
lacks_tail p x xs none = sym (rw (lacks_head p x xs none) refl) ∙ none

pub lacks_first : (p : ℕ → Bool) (xs : List ℕ) → list_any p (before_first p xs) ≡ false
lacks_first p [] = refl
lacks_first p (x ∷ xs) = elim (cases_Bool (p x)) [ inl e ↦ rw e refl | inr e ↦ rw (e, one-add, e) (lacks_first p xs) ]

pub lacks_cr : (p : ℕ → Bool) (xs : List ℕ) → list_any p xs ≡ false → list_any p (without_cr xs) ≡ false
lacks_cr p [] none = refl
lacks_cr p (x ∷ []) none = elim (cases_Bool (x == 13)) [ inl e ↦ rw e refl | inr e ↦ rw e none ]
lacks_cr p (x ∷ y ∷ ys) none = rw (lacks_head p x (y ∷ ys) none) (lacks_cr p (y ∷ ys) (lacks_tail p x (y ∷ ys) none))

-- no TAB, no NUL or CR and no LF
pub alone_free : (b : ℕ) → is_tab b ≡ false → is_forbidden b ≡ false → is_lf b ≡ false → names.is_forbidden b ≡ false
alone_free b tab forbidden lf =
    let here = or_parts (b == 0) (b == 13) forbidden in
    rw (here.0, tab, lf, here.1) refl

field_lacks : (xs : List ℕ) → list_any is_tab xs ≡ false → list_any is_forbidden xs ≡ false → list_any is_lf xs ≡ false → list_any names.is_forbidden xs ≡ false
field_lacks [] tab forbidden lf = refl
field_lacks (x ∷ xs) tab forbidden lf =
    rw (alone_free x (lacks_head is_tab x xs tab) (lacks_head is_forbidden x xs forbidden) (lacks_head is_lf x xs lf))
    (field_lacks xs (lacks_tail is_tab x xs tab) (lacks_tail is_forbidden x xs forbidden) (lacks_tail is_lf x xs lf))

-- the first field of a valid line that is not too long
pub first_valid : (line : List ℕ) → list_any is_lf line ≡ false → list_any is_forbidden line ≡ false → length (before_first is_tab line) ≤ 255 → IsTrue (is_selector (before_first is_tab line))
first_valid line lf forbidden short =
    let clean = field_lacks (before_first is_tab line) (lacks_first is_tab line) (lacks_take is_forbidden (position_or_len is_tab line) line forbidden) (lacks_take is_lf (position_or_len is_tab line) line lf) in
    rw (le-leb _ _ short, clean) refl

-- a line in front of the first LF has none
pub line_lacks : (xs : List ℕ) (n : ℕ) → n ≡ position_or_len is_lf xs → list_any is_lf (without_cr (take n xs)) ≡ false
line_lacks xs n place = rw place (lacks_cr is_lf (before_first is_lf xs) (lacks_first is_lf xs))

-- a line has no LF
abbrev pub Clean : Cut → Type 0
Clean NotYet = Unit {0}
Clean TooLate = Unit {0}
Clean (Line line rest) = list_any is_lf line ≡ false

pub first_clean : (s : List ℕ) → Clean (first_line s)
first_clean s =
    elim (cases_lt (position_or_len is_lf (front s)) (length (front s))) [
      | inl less ↦ rw (found s less) (line_lacks (front s) (position_or_len is_lf (front s)) refl)
      | inr none ↦ elim (cases_lt 1024 (length s)) [
        | inl long ↦ rw (too_late s none long) tt
        | inr short ↦ rw (not_yet s none short) tt
      ]
    ]

pub clean_line : (s line rest : List ℕ) → first_line s ≡ Line line rest → list_any is_lf line ≡ false
clean_line s line rest is = rw is at (first_clean s)
