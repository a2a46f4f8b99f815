-- Adapters of requests: what is passed on of a line that came by chunks.
use Rattle.std.proofs.Common.{◌≡◌, ℕ, ◌+◌, ◌<◌, ◌≤◌, suc, true, false, List, [], ◌∷◌, ◌++◌, ◌==◌, ap, sym, ◌∙◌, inl, inr, refl, take, drop, length, get_or, drop-cons, add-one, arith, append_assoc, append-nil, length-append, length-take, eqb-true, subst, Bool, ◌&&◌}
use Rattle.std.specs.Prelude.{nat_lt}
use Rattle.std.specs.List.{list_any, position_or_len}
use Rattle.std.proofs.lemmas.Bool.{cases_Bool, both_ways, lt-ltb, le-ltb, le-leb, lt-leb}
use Rattle.std.proofs.lemmas.List.{take_at, drop_at, take-append-drop}
use Rattle.std.proofs.lemmas.List.Folds.{list_any-append}
use Rattle.std.proofs.lemmas.List.Sums.{passes_at_first}
use Rattle.host_types.specs.Lines.{is_lf, without_cr}
use Rattle.old_clients.specs.AdaptedRequest.{adapted_line, adapted_request, has_line, is_old, is_rewritten}

-- ---- bytes without LF

pub head_lacks : (b : ℕ) (bs : List ℕ) → list_any is_lf (b ∷ bs) ≡ false → (b == 10) ≡ false
head_lacks b bs none = elim (cases_Bool (b == 10)) [ inl e ↦ absurd (both_ways _ none (rw e refl)) | inr n ↦ n ]

pub tail_lacks : (b : ℕ) (bs : List ℕ) → list_any is_lf (b ∷ bs) ≡ false → list_any is_lf bs ≡ false
tail_lacks b bs none = sym (rw (head_lacks b bs none) refl) ∙ none

pub lacks_front : (bs : List ℕ) → list_any is_lf (take (position_or_len is_lf bs) bs) ≡ false
lacks_front [] = refl
lacks_front (b ∷ bs) = elim (cases_Bool (b == 10)) [
  | inl e ↦ rw e refl
  | inr n ↦ (let more : 1 + position_or_len is_lf bs ≡ suc (position_or_len is_lf bs) = omega arith in rw (n, more, n) (lacks_front bs))
]

pub lacks_both : (xs ys : List ℕ) → list_any is_lf xs ≡ false → list_any is_lf ys ≡ false → list_any is_lf (xs ++ ys) ≡ false
lacks_both xs ys first second = list_any-append is_lf xs ys ∙ rw (first, second) refl

-- the first LF behind such bytes is not among them
place_behind : (bs rest : List ℕ) → list_any is_lf bs ≡ false → position_or_len is_lf (bs ++ rest) ≡ length bs + position_or_len is_lf rest
place_behind [] rest none = omega arith
place_behind (b ∷ bs) rest none = rw (head_lacks b bs none, place_behind bs rest (tail_lacks b bs none)) (omega arith)

-- ---- a whole input

-- the LF has come in time
pub record Ended (line rest : List ℕ) : Type 0 where
  pub passed : adapted_request (line ++ 10 ∷ rest) ≡ adapted_line line ++ 10 ∷ rest
  pub said : is_rewritten (line ++ 10 ∷ rest) ≡ is_old (without_cr line)

ended : (line rest : List ℕ) → list_any is_lf line ≡ false → length line ≤ 1024 → Ended line rest
unfolding adapted_request is_rewritten
ended line rest none short =
    let place : position_or_len is_lf (line ++ 10 ∷ rest) ≡ length line = place_behind line (10 ∷ rest) none ∙ omega arith in
    let less : length line < length (line ++ 10 ∷ rest) = omega (arith, length-append line (10 ∷ rest)) in
    let has : has_line (line ++ 10 ∷ rest) ≡ true = rw (place, lt-ltb _ _ less, le-leb _ _ short) refl in
    record {
      passed = rw (has, place, take_at line (10 ∷ rest) _ refl, drop_at line (10 ∷ rest) _ refl) refl;
      said = rw (has, place, take_at line (10 ∷ rest) _ refl) refl;
    }

-- no first line that a request may have
pub record Stays (input : List ℕ) : Type 0 where
  pub passed : adapted_request input ≡ input
  pub said : is_rewritten input ≡ false

stays : (input : List ℕ) → has_line input ≡ false → Stays input
unfolding adapted_request is_rewritten
stays input none = record { passed = rw none refl; said = rw none refl }

-- the LF has not come
pub not_yet : (line : List ℕ) → list_any is_lf line ≡ false → Stays line
not_yet line none =
    let place : position_or_len is_lf line ≡ length line = ap (position_or_len is_lf) (sym (append-nil line)) ∙ place_behind line [] none ∙ omega arith in
    stays line (rw (place, le-ltb (length line) (length line) (omega arith)) refl)

and_none : (b : Bool) → (b && false) ≡ false
and_none true = refl
and_none false = refl

-- 1,025 bytes have come without it
too_long : (bs rest : List ℕ) → list_any is_lf bs ≡ false → 1024 < length bs → Stays (bs ++ rest)
too_long bs rest none long =
    let past : 1024 < position_or_len is_lf (bs ++ rest) = omega (arith, place_behind bs rest none) in
    stays (bs ++ rest) (ap (λ b. nat_lt (position_or_len is_lf (bs ++ rest)) (length (bs ++ rest)) && b) (lt-leb _ _ past) ∙ and_none _)

-- ---- chunks

-- the bytes of a chunk before its first LF go on with the line, and there the line ends
pub line_ended : (held chunk more : List ℕ) (end : ℕ) → list_any is_lf held ≡ false → end ≡ position_or_len is_lf chunk → end < length chunk → length held + end ≤ 1024 →
    Ended (held ++ take end chunk) (drop (end + 1) chunk ++ more) × (held ++ (chunk ++ more) ≡ (held ++ take end chunk) ++ 10 ∷ (drop (end + 1) chunk ++ more)) × (drop end chunk ≡ 10 ∷ drop (end + 1) chunk)
line_ended held chunk more end none place less short =
    let found : position_or_len is_lf chunk < length chunk = omega (arith, place) in
    let lf : get_or chunk end 0 ≡ 10 = eqb-true _ 10 (ap (λ n. get_or chunk n 0 == 10) place ∙ passes_at_first is_lf chunk 0 found) in
    let behind : drop end chunk ≡ 10 ∷ drop (end + 1) chunk = drop-cons chunk end 0 less ∙ ap (λ b. b ∷ drop (suc end) chunk) lf ∙ ap (λ n. 10 ∷ drop n chunk) (sym (add-one end)) in
    let halves : chunk ++ more ≡ take end chunk ++ 10 ∷ (drop (end + 1) chunk ++ more) =
    ap (λ l. l ++ more) (sym (take-append-drop end chunk) ∙ ap (λ l. take end chunk ++ l) behind) ∙ append_assoc (take end chunk) (10 ∷ drop (end + 1) chunk) more in
    let front : list_any is_lf (take end chunk) ≡ false = ap (λ n. list_any is_lf (take n chunk)) place ∙ lacks_front chunk in (
      ended (held ++ take end chunk) (drop (end + 1) chunk ++ more) (lacks_both held (take end chunk) none front) (omega (arith, length-append held (take end chunk), length-take end chunk)),
      ap (λ l. held ++ l) halves ∙ sym (append_assoc held (take end chunk) (10 ∷ (drop (end + 1) chunk ++ more))),
      behind,
    )

-- so many bytes of a chunk stand before its first LF, or its end, that the line is too long
pub line_too_long : (held chunk more : List ℕ) (end : ℕ) → list_any is_lf held ≡ false → end ≡ position_or_len is_lf chunk → end ≤ length chunk → 1024 < length held + end → Stays (held ++ (chunk ++ more))
line_too_long held chunk more end none place within long =
    let front : list_any is_lf (take end chunk) ≡ false = ap (λ n. list_any is_lf (take n chunk)) place ∙ lacks_front chunk in
    let halves : held ++ (chunk ++ more) ≡ (held ++ take end chunk) ++ (drop end chunk ++ more) =
    ap (λ l. held ++ (l ++ more)) (sym (take-append-drop end chunk)) ∙ ap (λ l. held ++ l) (append_assoc (take end chunk) (drop end chunk) more) ∙ sym (append_assoc held (take end chunk) (drop end chunk ++ more)) in
    subst Stays (sym halves) (too_long (held ++ take end chunk) (drop end chunk ++ more) (lacks_both held (take end chunk) none front) (omega (arith, length-append held (take end chunk), length-take end chunk)))
