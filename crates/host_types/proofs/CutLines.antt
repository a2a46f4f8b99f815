-- A body is cut into lines from its front.
use Rattle.std.proofs.Common.{◌≡◌, ℕ, ◌+◌, ◌-◌, ◌≤◌, Bool, true, false, List, [], ◌∷◌, ◌++◌, ◌==◌, length, take, get_or, arith, ap, sym, ◌∙◌, inl, inr, refl}
use Rattle.std.specs.Prelude.{◌||◌}
use Rattle.std.specs.List.{list_any}
use Rattle.std.proofs.lemmas.Bool.{cases_Bool, eqb-true}
use Rattle.std.proofs.lemmas.List.Folds.{list_any-append}
use Rattle.std.proofs.lemmas.List.{append-nil, append_assoc, take_all, take_more}
use Rattle.host_types.specs.Lines.{is_lf, begins, lines, without_cr, onto_first_line}

left_false : (a b : Bool) → a || b ≡ false → a ≡ false
left_false false b h = refl
left_false true b h = h

right_false : (a b : Bool) → a || b ≡ false → b ≡ false
right_false false b h = h
right_false true b h = absurd (cc h)

-- a byte that is no LF, and that no LF follows, goes in front of the first line
in_front : (b : ℕ) (bs : List ℕ) → b == 10 ≡ false → begins 10 bs ≡ false → lines (b ∷ bs) ≡ onto_first_line b (lines bs)
in_front b bs plain next =
    elim (cases_Bool (b == 13)) [
      | inl cr ↦ rw (plain, cr, next) refl
      | inr other ↦ rw (plain, other) refl
    ]

-- a line that its LF ends
pub line_ended : (line rest : List ℕ) → list_any is_lf line ≡ false → lines (line ++ 10 ∷ rest) ≡ without_cr line ∷ lines rest
line_ended [] rest none = refl
line_ended (b ∷ []) rest none =
    let plain : b == 10 ≡ false = left_false (b == 10) false none in
    elim (cases_Bool (b == 13)) [
      | inl cr ↦ rw (plain, cr) refl
      | inr other ↦ rw (plain, other) refl
    ]
line_ended (b ∷ c ∷ bs) rest none =
    let plain : b == 10 ≡ false = left_false (b == 10) (list_any is_lf (c ∷ bs)) none in
    let others : list_any is_lf (c ∷ bs) ≡ false = right_false (b == 10) (list_any is_lf (c ∷ bs)) none in
    let next : c == 10 ≡ false = left_false (c == 10) (list_any is_lf bs) others in
    in_front b (c ∷ bs ++ 10 ∷ rest) plain next ∙ ap (onto_first_line b) (line_ended (c ∷ bs) rest others)

-- a last part that no LF ends
line_unended : (b : ℕ) (line : List ℕ) → list_any is_lf (b ∷ line) ≡ false → lines (b ∷ line) ≡ (b ∷ line) ∷ []
line_unended b [] none = in_front b [] (left_false (b == 10) false none) refl
line_unended b (c ∷ bs) none =
    let plain : b == 10 ≡ false = left_false (b == 10) (list_any is_lf (c ∷ bs)) none in
    let others : list_any is_lf (c ∷ bs) ≡ false = right_false (b == 10) (list_any is_lf (c ∷ bs)) none in
    let next : c == 10 ≡ false = left_false (c == 10) (list_any is_lf bs) others in
    in_front b (c ∷ bs) plain next ∙ ap (onto_first_line b) (line_unended c bs others)

-- ---- one byte of the loop

-- an LF
pub cut_here : (list : List (List ℕ)) (line rest : List ℕ) → list_any is_lf line ≡ false → (list ++ without_cr line ∷ []) ++ lines rest ≡ list ++ lines (line ++ 10 ∷ rest)
cut_here list line rest none = append_assoc list (without_cr line ∷ []) (lines rest) ∙ ap (λ l. list ++ l) (sym (line_ended line rest none))

-- another byte
pub goes_in : (list : List (List ℕ)) (line rest : List ℕ) (b : ℕ) → list ++ lines ((line ++ b ∷ []) ++ rest) ≡ list ++ lines (line ++ b ∷ rest)
goes_in list line rest b = ap (λ l. list ++ lines l) (append_assoc line (b ∷ []) rest)

pub still_none : (line : List ℕ) (b : ℕ) → list_any is_lf line ≡ false → b == 10 ≡ false → list_any is_lf (line ++ b ∷ []) ≡ false
still_none line b none plain = list_any-append is_lf line (b ∷ []) ∙ rw (none, plain) refl

-- what is left of a body when its last LF has come
pub rest_of : (line : List ℕ) → list_any is_lf line ≡ false → (length line == 0) ≡ false → lines line ≡ line ∷ []
rest_of [] none some = absurd (cc some)
rest_of (b ∷ line) none some = line_unended b line none

pub no_rest : (line : List ℕ) → (length line == 0) ≡ true → lines line ≡ []
no_rest [] none = refl
no_rest (b ∷ line) none = let is : length (b ∷ line) ≡ 0 = eqb-true (length (b ∷ line)) 0 none in absurd (omega (arith, is))

-- the last byte apart
pub last_apart : (xs : List ℕ) → 1 ≤ length xs → take (length xs - 1) xs ++ get_or xs (length xs - 1) 0 ∷ [] ≡ xs
last_apart xs some =
    let back : length xs - 1 + 1 ≡ length xs = omega arith in
    sym (take_more xs (length xs - 1) 0 (omega arith)) ∙ ap (λ n. take n xs) back ∙ take_all (length xs) xs (omega arith)

cr_goes : (xs : List ℕ) → without_cr (xs ++ 13 ∷ []) ≡ xs
cr_goes [] = refl
cr_goes (x ∷ []) = refl
cr_goes (x ∷ y ∷ ys) = ap (λ l. x ∷ l) (cr_goes (y ∷ ys))

other_stays : (xs : List ℕ) (b : ℕ) → (b == 13) ≡ false → without_cr (xs ++ b ∷ []) ≡ xs ++ b ∷ []
other_stays [] b other = rw other refl
other_stays (x ∷ []) b other = rw other refl
other_stays (x ∷ y ∷ ys) b other = ap (λ l. x ∷ l) (other_stays (y ∷ ys) b other)

pub without_cr_at : (xs : List ℕ) → 1 ≤ length xs → get_or xs (length xs - 1) 0 ≡ 13 → take (length xs - 1) xs ≡ without_cr xs
without_cr_at xs some is =
    let apart : take (length xs - 1) xs ++ 13 ∷ [] ≡ xs = ap (λ b. take (length xs - 1) xs ++ b ∷ []) (sym is) ∙ last_apart xs some in
    sym (cr_goes (take (length xs - 1) xs)) ∙ ap without_cr apart

pub without_cr_none : (xs : List ℕ) → 1 ≤ length xs → (get_or xs (length xs - 1) 0 == 13) ≡ false → xs ≡ without_cr xs
without_cr_none xs some other =
    let apart = last_apart xs some in
    sym apart ∙ sym (other_stays (take (length xs - 1) xs) (get_or xs (length xs - 1) 0) other) ∙ ap without_cr apart

-- the last part is the last line
pub last_goes_in : (list : List (List ℕ)) (line left body : List ℕ) → left ≡ [] → list ++ lines (line ++ left) ≡ lines body → list_any is_lf line ≡ false → (length line == 0) ≡ false → list ++ line ∷ [] ≡ lines body
last_goes_in list line left body nothing all none some =
    ap (λ l. list ++ l) (sym (rest_of line none some)) ∙ ap (λ l. list ++ lines l) (sym (append-nil line)) ∙ ap (λ l. list ++ lines (line ++ l)) (sym nothing) ∙ all
