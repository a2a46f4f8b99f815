-- Bytes without LF.
use Rattle.std.proofs.Common.{◌≡◌, ℕ, zero, suc, ◌<◌, ◌≤◌, ◌^◌, Bool, true, false, List, [], ◌∷◌, ◌++◌, ◌==◌, length, take, drop, arith, refl, ◌∙◌, inl, inr}
use Rattle.std.specs.Prelude.{◌||◌, ◌&&◌, decimal, nat_lt}
use Rattle.std.specs.List.{AllByRecursion, list_any, list_all}
use Rattle.std.proofs.lemmas.Bool.{cases_Bool}
use Rattle.std.proofs.lemmas.Bool.Decides.{nat_tests}
use Rattle.std.proofs.lemmas.List.Folds.{list_any-append}
use Rattle.host_types.specs.Names.{is_field, is_visible, is_word}
use Rattle.host_types.specs.Lines.{is_lf, begins, lines, onto_first_line}
use Rattle.text_writer.proofs.MenuLines.{field_has_none, number_has_none}

pub record IsClean (bytes : List ℕ) : Type 0 where
  pub none : list_any is_lf bytes ≡ false

pub nil : IsClean []
nil = record { none = refl }

pub two : (xs ys : List ℕ) → IsClean xs → IsClean ys → IsClean (xs ++ ys)
two xs ys x y = record { none = list_any-append is_lf xs ys ∙ rw (x.none, y.none) refl }

pub first_clean : (b : ℕ) (bs : List ℕ) → IsClean (b ∷ bs) → is_lf b ≡ false
first_clean b bs c = let k : is_lf b || list_any is_lf bs ≡ false = c.none in grind (arith, nat_tests, k)

pub rest_clean : (b : ℕ) (bs : List ℕ) → IsClean (b ∷ bs) → IsClean bs
rest_clean b bs c = let k : is_lf b || list_any is_lf bs ≡ false = c.none in record { none = grind (arith, nat_tests, k) }

pub cons : (b : ℕ) (bs : List ℕ) → is_lf b ≡ false → IsClean bs → IsClean (b ∷ bs)
cons b bs h c = record { none = rw (h, c.none) refl }

front : (n : ℕ) (xs : List ℕ) → IsClean xs → IsClean (take n xs)
front zero xs c = nil
front (suc n) [] c = nil
front (suc n) (x ∷ xs) c = cons x (take n xs) (first_clean x xs c) (front n xs (rest_clean x xs c))

back : (n : ℕ) (xs : List ℕ) → IsClean xs → IsClean (drop n xs)
back zero xs c = c
back (suc n) [] c = nil
back (suc n) (x ∷ xs) c = back n xs (rest_clean x xs c)

pub part : (n m : ℕ) (xs : List ℕ) → IsClean xs → IsClean (take n (drop m xs))
part n m xs c = front n (drop m xs) (back m xs c)

pub digit : (d : ℕ) → 48 ≤ d → is_lf d ≡ false
digit d h = grind (arith, nat_tests)

pub field : (bytes : List ℕ) → is_field bytes ≡ true → IsClean bytes
field bytes h = record { none = field_has_none bytes h }

pub number : (n : ℕ) → n < 2 ^ 64 → IsClean (decimal n)
number n lt = record { none = number_has_none n lt }

pub visible : (bytes : List ℕ) → list_all is_visible bytes ≡ true → IsClean bytes
visible [] all = nil
visible (b ∷ bs) all = cons b bs (grind (arith, nat_tests, all)) (visible bs (grind (arith, nat_tests, all)))

pub first_of : (a b : Bool) → a && b ≡ true → a ≡ true
first_of true b h = refl
first_of false b h = h

pub second_of : (a b : Bool) → a && b ≡ true → b ≡ true
second_of true b h = h
second_of false b h = absurd (cc h)

pub word : (bytes : List ℕ) → is_word bytes ≡ true → IsClean bytes
word bytes h = visible bytes (second_of (nat_lt 0 (length bytes)) (list_all is_visible bytes) h)

-- the lines of a body have none
onto : (b : ℕ) (ls : List (List ℕ)) → is_lf b ≡ false → AllByRecursion IsClean ls → AllByRecursion IsClean (onto_first_line b ls)
onto b [] n all = (cons b [] n nil, tt)
onto b (l ∷ ls) n all = (cons b l n all.0, all.1)

pub lines_clean : (body : List ℕ) → AllByRecursion IsClean (lines body)
lines_clean [] = tt
lines_clean (b ∷ bs) =
    let ih = lines_clean bs in
    elim (cases_Bool (b == 10)) [
      | inl e ↦ rw e (nil, ih)
      | inr n ↦ elim (cases_Bool (b == 13 && begins 10 bs)) [ inl e ↦ rw (n, e) ih | inr m ↦ rw (n, m) (onto b (lines bs) n ih) ]
    ]
