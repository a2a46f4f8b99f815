-- Parts of lists.
use Rattle.std.proofs.Common.{◌≡◌, ◌≤◌, ◌<◌, ◌-◌, ◌∙◌, ◌&&◌, ◌||◌, ◌==◌, ℕ, not, Bool, true, false, cond, List, [], ◌∷◌, length, take, drop, map, ap, zero, suc, ◌+◌, ◌++◌, refl, sym, arith}
use Rattle.std.proofs.lemmas.List.{take_all, length-drop, map-append, append_assoc}
use Rattle.std.specs.List.{range_with_len}
use Rattle.folder_import.specs.Formats.{has_period, ending}

-- as many as there are
pub last_part : {X : Type 0} (k : ℕ) (xs : List X) → length xs ≤ k → xs ≡ take k xs
last_part k xs few = sym (take_all k xs few)

shorter : {X : Type 0} (xs ys : List X) (k : ℕ) → xs ≡ ys → length ys < k → length xs ≤ k
shorter xs ys k same few = rw same (omega (arith, few))

pub last_page : {X : Type 0} (xs : List X) (f k : ℕ) → length (take (length xs - f) (drop f xs)) < k → take (length xs - f) (drop f xs) ≡ take k (drop f xs)
last_page xs f k few =
    let all : take (length xs - f) (drop f xs) ≡ drop f xs = take_all (length xs - f) (drop f xs) (omega (arith, length-drop f xs)) in
    all ∙ last_part k (drop f xs) (shorter (drop f xs) (take (length xs - f) (drop f xs)) k (sym all) few)

-- ---- the last period

-- what was found stands, where no period is left
abbrev pub found_or : List ℕ → List ℕ → List ℕ
found_or found left = cond (has_period left) (ending left) found

none_by : (is more : Bool) (bs rest : List ℕ) → (is || more) ≡ false → (more ≡ false → rest ≡ []) → cond (is && not more) bs rest ≡ []
none_by true more bs rest none f = absurd (cc)
none_by false more bs rest none f = f none

ending_none : (bs : List ℕ) → has_period bs ≡ false → ending bs ≡ []
ending_none [] none = refl
ending_none (b ∷ bs) none = none_by (b == 46) (has_period bs) bs (ending bs) none (ending_none bs)

whole_by : (more : Bool) (rest : List ℕ) → (more ≡ false → rest ≡ []) → cond more rest [] ≡ rest
whole_by true rest f = refl
whole_by false rest f = sym (f refl)

pub whole : (name : List ℕ) → found_or [] name ≡ ending name
whole name = whole_by (has_period name) (ending name) (ending_none name)

step_by : (is more : Bool) (bs rest found : List ℕ) → cond (is || more) (cond (is && not more) bs rest) found ≡ cond more rest (cond is bs found)
step_by true true bs rest found = refl
step_by true false bs rest found = refl
step_by false true bs rest found = refl
step_by false false bs rest found = refl

-- one byte on
pub step : (b : ℕ) (bs found : List ℕ) → found_or found (b ∷ bs) ≡ found_or (cond (b == 46) bs found) bs
step b bs found = step_by (b == 46) (has_period bs) bs (ending bs) found

-- ---- pages

range_more : (a k : ℕ) → range_with_len a (suc k) ≡ range_with_len a k ++ (a + k) ∷ []
range_more a zero = ap (λ (n : ℕ). n ∷ []) (omega arith)
range_more a (suc k) = ap (λ ns. a ∷ ns) (range_more (a + 1) k ∙ ap (λ (n : ℕ). range_with_len (a + 1) k ++ n ∷ []) (omega arith))

one_more : (k : ℕ) → k + 1 ≡ suc k
one_more k = omega arith

range_next : (k : ℕ) → range_with_len 0 (k + 1) ≡ range_with_len 0 k ++ k ∷ []
range_next k = ap (λ (n : ℕ). range_with_len 0 n) (one_more k) ∙ range_more 0 k ∙ ap (λ (n : ℕ). range_with_len 0 k ++ n ∷ []) (omega arith)

-- one more of what is made of the numbers so far
pub made_more : {A B : Type 0} (f : ℕ → A) (g : A → B) (old new : List B) (k : ℕ) → new ≡ old ++ map g (map f (range_with_len 0 k)) → new ++ g (f k) ∷ [] ≡ old ++ map g (map f (range_with_len 0 (k + 1)))
made_more f g old new k so_far =
    let further : map g (map f (range_with_len 0 (k + 1))) ≡ map g (map f (range_with_len 0 k)) ++ g (f k) ∷ []
    = ap (λ ns. map g (map f ns)) (range_next k) ∙ ap (map g) (map-append f (range_with_len 0 k) (k ∷ [])) ∙ map-append g (map f (range_with_len 0 k)) (f k ∷ []) in
    ap (λ xs. xs ++ g (f k) ∷ []) so_far ∙ append_assoc old (map g (map f (range_with_len 0 k))) (g (f k) ∷ []) ∙ ap (λ xs. old ++ xs) (sym further)

take_range : (a k n : ℕ) → k ≤ n → take k (range_with_len a n) ≡ range_with_len a k
take_range a zero n few = refl
take_range a (suc k) zero few = absurd (omega (arith, few))
take_range a (suc k) (suc n) few = ap (λ ns. a ∷ ns) (take_range (a + 1) k n (omega (arith, few)))

take_map : {A B : Type 0} (f : A → B) (k : ℕ) (xs : List A) → take k (map f xs) ≡ map f (take k xs)
take_map f zero xs = refl
take_map f (suc k) [] = refl
take_map f (suc k) (x ∷ xs) = ap (λ ys. f x ∷ ys) (take_map f k xs)

-- what is made of the first numbers is the front of all
pub front_of : {A B : Type 0} (f : ℕ → A) (g : A → B) (old new : List B) (k n : ℕ) → k ≤ n → new ≡ old ++ map g (map f (range_with_len 0 k)) → (m : ℕ) × (new ≡ old ++ map g (take m (map f (range_with_len 0 n))))
front_of f g old new k n few so_far =
    let front : take k (map f (range_with_len 0 n)) ≡ map f (range_with_len 0 k) = take_map f k (range_with_len 0 n) ∙ ap (map f) (take_range 0 k n few) in
    (k, so_far ∙ ap (λ xs. old ++ map g xs) (sym front))
