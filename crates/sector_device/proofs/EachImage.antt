-- Each image is left by some picks: by the places of all writes that agree with it.
use Rattle.std.proofs.Common.{◌≡◌, ◌⊎◌, inl, inr, ℕ, zero, suc, ◌+◌, ◌<◌, ◌≤◌, Bool, true, false, List, [], ◌∷◌, length, Option, Some, None, slice_get, slice_set, refl, sym, ◌∙◌, ap, subst, arith, if◌then◌else◌}
use Rattle.std.specs.Str.{bytes_eq}
use Rattle.std.proofs.lemmas.Slice.Eq.{bytes_eq-Decides}
use Rattle.std.proofs.lemmas.Bool.{cases_eq}
use Rattle.std.proofs.lemmas.Bool.Decides.{nat_tests}
use Rattle.std.proofs.lemmas.Option.{slice_get_within}
use Rattle.sector_device.specs.Disk.{Disk, IsImage, WasWritten}
use Rattle.sector_device.specs.AfterStop.{is_picked, done_where, after_stop}
use Rattle.sector_device.specs.Images.{length-set}

abbrev is_same : Option (List ℕ) → List ℕ → Bool
is_same None bytes = false
is_same (Some x) bytes = bytes_eq x bytes

-- a write put into its sector what the image has there
abbrev agrees : List (List ℕ) → ℕ × List ℕ → Bool
agrees image w = is_same (slice_get image w.0) w.1

-- the places of the writes that agree with the image; the first write has this place
abbrev pub agreeing : List (List ℕ) → ℕ → List (ℕ × List ℕ) → List ℕ
agreeing image place [] = []
agreeing image place (w ∷ ws) = if agrees image w then place ∷ agreeing image (place + 1) ws else agreeing image (place + 1) ws

same_is : (o : Option (List ℕ)) (b : List ℕ) → is_same o b ≡ true → o ≡ Some b
same_is None b h = absurd (cc h)
same_is (Some x) b h = ap (λ (y : List ℕ). Some y) ((bytes_eq-Decides x b).0 h)

differs_is : (x b : List ℕ) → bytes_eq x b ≡ false → x ≡ b → ⊥
differs_is x b h e = let t = (bytes_eq-Decides x b).1 e in cc

-- only the places from this one on matter
same_from : (p q : List ℕ) (place : ℕ) (ws : List (ℕ × List ℕ)) (s : List (List ℕ)) → ((k : ℕ) → place ≤ k → is_picked p k ≡ is_picked q k) → done_where p place ws s ≡ done_where q place ws s
same_from p q place [] s h = refl
same_from p q place (w ∷ ws) s h =
    ap (λ (b : Bool). done_where p (place + 1) ws (if b then slice_set s w.0 w.1 else s)) (h place (omega arith))
    ∙ same_from p q (place + 1) ws (if is_picked q place then slice_set s w.0 w.1 else s) (λ k le. h k (omega (arith, le)))

-- no place below the first is picked
not_before : (image : List (List ℕ)) (place k : ℕ) (ws : List (ℕ × List ℕ)) → k < place → is_picked (agreeing image place ws) k ≡ false
not_before image place k [] lt = refl
not_before image place k (w ∷ ws) lt =
    let rest = not_before image (place + 1) k ws (omega (arith, lt)) in
    elim (agrees image w) as (λ b. is_picked (if b then place ∷ agreeing image (place + 1) ws else agreeing image (place + 1) ws) k ≡ false) [ true ↦ grind (arith, nat_tests, rest) | false ↦ rest ]

get_set_same : (xs : List (List ℕ)) (n : ℕ) (x : List ℕ) → n < length xs → slice_get (slice_set xs n x) n ≡ Some x
get_set_same [] n x lt = absurd (omega (arith, lt))
get_set_same (y ∷ ys) zero x lt = refl
get_set_same (y ∷ ys) (suc n) x lt = get_set_same ys n x (omega (arith, lt))

get_set_other : (xs : List (List ℕ)) (n m : ℕ) (x : List ℕ) → (n ≡ m → ⊥) → slice_get (slice_set xs n x) m ≡ slice_get xs m
get_set_other [] n m x ne = refl
get_set_other (y ∷ ys) zero zero x ne = absurd (ne refl)
get_set_other (y ∷ ys) zero (suc m) x ne = refl
get_set_other (y ∷ ys) (suc n) zero x ne = refl
get_set_other (y ∷ ys) (suc n) (suc m) x ne = get_set_other ys n m x (λ e. ne (ap suc e))

-- lists of one length, of which the second has each element of the first at its place, are one
same_elements : (xs ys : List (List ℕ)) → length xs ≡ length ys → ((n : ℕ) (x : List ℕ) → slice_get xs n ≡ Some x → slice_get ys n ≡ Some x) → xs ≡ ys
same_elements [] [] len each = refl
same_elements [] (y ∷ ys) len each = absurd (omega (arith, len))
same_elements (x ∷ xs) [] len each = absurd (omega (arith, len))
same_elements (x ∷ xs) (y ∷ ys) len each =
    let head : x ≡ y = sym (cc (each 0 x refl)) in
    let tail : xs ≡ ys = same_elements xs ys (omega (arith, len)) (λ n z h. each (suc n) z h) in
    ap (λ (a : List ℕ). a ∷ xs) head ∙ ap (λ (l : List (List ℕ)). y ∷ l) tail

-- each sector of the image is that of the base or of one of these writes
abbrev IsReached : List (ℕ × List ℕ) → List (List ℕ) → List (List ℕ) → Type 0
IsReached ws base image = (n : ℕ) (x : List ℕ) → slice_get image n ≡ Some x → (slice_get base n ≡ Some x) ⊎ WasWritten n x ws

reached_after : (w : ℕ × List ℕ) (ws : List (ℕ × List ℕ)) (base image : List (List ℕ)) → length image ≡ length base → IsReached (w ∷ ws) base image → slice_get image w.0 ≡ Some w.1 → IsReached ws (slice_set base w.0 w.1) image
reached_after w ws base image len each is n x h =
    elim (cases_eq w.0 n) [
      | inl e ↦
          let lt = slice_get_within image w.0 w.1 is in
          let same : w.1 ≡ x = cc (is, h, e) in
          inl (subst (λ m. slice_get (slice_set base w.0 w.1) m ≡ Some x) e (get_set_same base w.0 w.1 (omega (arith, lt, len)) ∙ ap (λ (y : List ℕ). Some y) same))
      | inr ne ↦ elim (each n x h) [
        | inl old ↦ inl (get_set_other base w.0 n w.1 ne ∙ old)
        | inr by ↦ elim by [ inl p ↦ absurd (ne p.0) | inr later ↦ inr later ]
      ]
    ]

reached_without : (w : ℕ × List ℕ) (ws : List (ℕ × List ℕ)) (base image : List (List ℕ)) → IsReached (w ∷ ws) base image → agrees image w ≡ false → IsReached ws base image
reached_without w ws base image each differs n x h =
    elim (each n x h) [
      | inl old ↦ inl old
      | inr by ↦ elim by [
        | inl p ↦ absurd (differs_is x w.1 (ap (λ (o : Option (List ℕ)). is_same o w.1) (sym (ap (slice_get image) p.0 ∙ h)) ∙ differs) (sym p.1))
        | inr later ↦ inr later
      ]
    ]

picks_first : (place : ℕ) (rest : List ℕ) → is_picked (place ∷ rest) place ≡ true
picks_first place rest = grind (arith, nat_tests)

picks_later : (place k : ℕ) (rest : List ℕ) → place < k → is_picked (place ∷ rest) k ≡ is_picked rest k
picks_later place k rest lt = grind (arith, nat_tests)

-- one write, by whether it agrees
step : (place : ℕ) (rest : List ℕ) (w : ℕ × List ℕ) (ws : List (ℕ × List ℕ)) (base : List (List ℕ)) → is_picked rest place ≡ false → (b : Bool) →
    done_where (if b then place ∷ rest else rest) place (w ∷ ws) base ≡ done_where rest (place + 1) ws (if b then slice_set base w.0 w.1 else base)
step place rest w ws base fresh true =
    ap (λ (b : Bool). done_where (place ∷ rest) (place + 1) ws (if b then slice_set base w.0 w.1 else base)) (picks_first place rest)
    ∙ same_from (place ∷ rest) rest (place + 1) ws (slice_set base w.0 w.1) (λ k le. picks_later place k rest (omega (arith, le)))
step place rest w ws base fresh false =
    ap (λ (b : Bool). done_where rest (place + 1) ws (if b then slice_set base w.0 w.1 else base)) fresh

reached : (image : List (List ℕ)) (place : ℕ) (ws : List (ℕ × List ℕ)) (base : List (List ℕ)) → length image ≡ length base → IsReached ws base image → done_where (agreeing image place ws) place ws base ≡ image
reached image place [] base len each =
    sym (same_elements image base len (λ n x h. elim (each n x h) [ inl old ↦ old | inr never ↦ absurd never ]))
reached image place (w ∷ ws) base len each =
    let rest = agreeing image (place + 1) ws in
    let one = step place rest w ws base (not_before image (place + 1) place ws (omega arith)) (agrees image w) in
    let Goal : Bool → Type 0 = λ b. done_where rest (place + 1) ws (if b then slice_set base w.0 w.1 else base) ≡ image in
    let by : (b : Bool) → agrees image w ≡ b → Goal b = λ b. elim b as (λ v. agrees image w ≡ v → Goal v) [
      | true ↦ λ is. reached image (place + 1) ws (slice_set base w.0 w.1) (len ∙ sym (length-set w.0 w.1 base)) (reached_after w ws base image len each (same_is (slice_get image w.0) w.1 is))
      | false ↦ λ is. reached image (place + 1) ws base len (reached_without w ws base image each is)
    ] in
    one ∙ by (agrees image w) refl

pub some_picks : (d : Disk) (image : List (List ℕ)) → IsImage d image → (picks : List ℕ) × (after_stop picks d ≡ image)
some_picks d image i = (agreeing image 0 d.writes, reached image 0 d.writes d.base i.size i.each)
