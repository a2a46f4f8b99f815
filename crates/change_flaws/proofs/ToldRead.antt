-- The line of a change that is refused is read again.
use Rattle.std.proofs.Common.{◌≡◌, ℕ, ◌+◌, ◌-◌, ◌*◌, ◌/◌, ◌%◌, ◌^◌, ◌<◌, ◌≤◌, Bool, true, false, cond, ◌&&◌, ◌||◌, List, [], ◌∷◌, ◌++◌, length, drop, refl, ap, ◌∙◌, append_assoc, arith}
use Rattle.std.specs.Prelude.{Some, None, codes, decimal, nat_lt, nat_le, position, if◌then◌else◌}
use Rattle.std.specs.Char.{is_ascii_digit}
use Rattle.std.specs.List.{list_all, list_any, position_from}
use Rattle.std.proofs.Math.Seq.{drop-append_seam, take-append_seam}
use Rattle.std.proofs.lemmas.Bool.Decides.{nat_tests}
use Rattle.std.proofs.lemmas.Fmt.{decimal_by_steps, decimal_nonempty, length-decimal-le}
use Rattle.std.proofs.lemmas.Grind.{fold-append}
use Rattle.std.proofs.lemmas.Iterator.Adapters.{position_from-zero}
use Rattle.std.proofs.lemmas.List.Folds.{list_all-append, list_any-append}
use Rattle.common_types.specs.Digits.{is_number, number_of}
use Rattle.common_types.specs.declared.refused.Refused.{Refused}
use Rattle.common_types.specs.declared.refused.Refused.TheVariants as refused
use Rattle.change_file.specs.Tables.{◌>>=◌}
use Rattle.change_flaws.specs.Told.{RefusalsAreRead, before, is_colon, is_lf, name_behind, number_in, refusal_at, refusal_in, refusal_told, refused_named}
use Rattle.common_types.specs.PrintedNames.{change_line, refused_name}

-- ---- where the first byte of a kind stands

module _ (p : ℕ → Bool) where
  behind_if : (b : Bool) (i : ℕ) (xs : List ℕ) (y : ℕ) (ys : List ℕ) → b || list_any p xs ≡ false → (list_any p xs ≡ false → position_from p (i + 1) (xs ++ y ∷ ys) ≡ Some (i + 1 + length xs)) → cond b (Some i) (position_from p (i + 1) (xs ++ y ∷ ys)) ≡ Some (i + length (y ∷ xs))
  behind_if true i xs y ys none later = absurd cc
  behind_if false i xs y ys none later = later none ∙ ap Some (omega arith)

  behind_from : (i : ℕ) (xs : List ℕ) (y : ℕ) (ys : List ℕ) → list_any p xs ≡ false → p y ≡ true → position_from p i (xs ++ y ∷ ys) ≡ Some (i + length xs)
  behind_from i [] y ys none is = ap (λ b. cond b (Some i) (position_from p (i + 1) ys)) is ∙ ap Some (omega arith)
  behind_from i (x ∷ xs) y ys none is = behind_if (p x) i xs y ys none (λ rest. behind_from (i + 1) xs y ys rest is)

  -- behind those that don't pass
  behind : (xs : List ℕ) (y : ℕ) (ys : List ℕ) → list_any p xs ≡ false → p y ≡ true → position p (xs ++ y ∷ ys) ≡ Some (length xs)
  behind xs y ys none is = position_from-zero p (xs ++ y ∷ ys) ∙ behind_from 0 xs y ys none is ∙ ap Some (omega arith)

  nowhere_if : (b : Bool) (i : ℕ) (xs : List ℕ) → b || list_any p xs ≡ false → (list_any p xs ≡ false → position_from p (i + 1) xs ≡ None) → cond b (Some i) (position_from p (i + 1) xs) ≡ None
  nowhere_if true i xs none later = absurd cc
  nowhere_if false i xs none later = later none

  nowhere_from : (i : ℕ) (xs : List ℕ) → list_any p xs ≡ false → position_from p i xs ≡ None
  nowhere_from i [] none = refl
  nowhere_from i (x ∷ xs) none = nowhere_if (p x) i xs none (λ rest. nowhere_from (i + 1) xs rest)

  nowhere : (xs : List ℕ) → list_any p xs ≡ false → position p xs ≡ None
  nowhere xs none = position_from-zero p xs ∙ nowhere_from 0 xs none

-- ---- the digits of a number

abbrev Add : ℕ → ℕ → ℕ
Add n b = 10 * n + (b - 48)

record Writes (n : ℕ) (ds : List ℕ) : Type 0 where
  digits : list_all is_ascii_digit ds ≡ true
  no_lf : list_any is_lf ds ≡ false
  no_colon : list_any is_colon ds ≡ false
  value : number_of ds ≡ n

both : (a b : Bool) → a ≡ true → b ≡ true → (a && b) ≡ true
both a b p q = ap (λ x. x && b) p ∙ q

neither : (a b : Bool) → a ≡ false → b ≡ false → (a || b) ≡ false
neither a b p q = ap (λ x. x || b) p ∙ q

is_digit : (d : ℕ) → d < 10 → is_ascii_digit (48 + d) ≡ true
is_digit d small = grind (arith, nat_tests)

not_lf : (d : ℕ) → is_lf (48 + d) ≡ false
not_lf d = grind (arith, nat_tests)

not_colon : (d : ℕ) → d < 10 → is_colon (48 + d) ≡ false
not_colon d small = grind (arith, nat_tests)

one : (n : ℕ) → n < 10 → Writes n ((48 + n) ∷ [])
one n small = record {
  digits = both (is_ascii_digit (48 + n)) true (is_digit n small) refl;
  no_lf = neither (is_lf (48 + n)) false (not_lf n) refl;
  no_colon = neither (is_colon (48 + n)) false (not_colon n small) refl;
  value = omega arith;
}

more : (n : ℕ) (ds : List ℕ) → 10 ≤ n → Writes (n / 10) ds → Writes n (ds ++ ((48 + n % 10) ∷ []))
more n ds large w = record {
  digits = list_all-append is_ascii_digit ds ((48 + n % 10) ∷ []) ∙ both (list_all is_ascii_digit ds) _ w.digits (both (is_ascii_digit (48 + n % 10)) true (is_digit (n % 10) (omega arith)) refl);
  no_lf = list_any-append is_lf ds ((48 + n % 10) ∷ []) ∙ neither (list_any is_lf ds) _ w.no_lf (neither (is_lf (48 + n % 10)) false (not_lf (n % 10)) refl);
  no_colon = list_any-append is_colon ds ((48 + n % 10) ∷ []) ∙ neither (list_any is_colon ds) _ w.no_colon (neither (is_colon (48 + n % 10)) false (not_colon (n % 10) (omega arith)) refl);
  value = fold-append Add 0 ds ((48 + n % 10) ∷ []) ∙ ap (λ m. Add m (48 + n % 10)) w.value ∙ omega arith;
}

writes : (n : ℕ) → n < 2 ^ 64 → Writes n (decimal n)
writes = decimal_by_steps Writes one more

is_number_of : (ds : List ℕ) → 0 < length ds → length ds ≤ 19 → list_all is_ascii_digit ds ≡ true → is_number 19 ds ≡ true
is_number_of ds some few digits = both (nat_lt 0 (length ds) && nat_le (length ds) 19) (list_all is_ascii_digit ds) (grind (arith, nat_tests)) digits

number_read : (n : ℕ) → n < 10 ^ 19 → number_in (decimal n) ≡ Some n
number_read n few =
    let w = writes n (omega arith) in
    ap (λ b. if b then Some (number_of (decimal n)) else None) (is_number_of (decimal n) (decimal_nonempty n (omega arith)) (length-decimal-le 19 n (omega arith) few (omega arith)) w.digits) ∙ ap Some w.value

-- ---- the names of refusals

name_read : (r : Refused) → refused_named (refused_name r) ≡ Some r
name_read refused.BadName = refl
name_read refused.TooLong = refl
name_read refused.Reserved = refl
name_read refused.Missing = refl
name_read refused.NotEmpty = refl
name_read refused.Root = refl
name_read refused.NotABoard = refl
name_read refused.WrongAnswers = refl
name_read refused.WrongWord = refl
name_read refused.Spent = refl

name_is_line : (r : Refused) → list_any is_lf (refused_name r) ≡ false
name_is_line refused.BadName = refl
name_is_line refused.TooLong = refl
name_is_line refused.Reserved = refl
name_is_line refused.Missing = refl
name_is_line refused.NotEmpty = refl
name_is_line refused.Root = refl
name_is_line refused.NotABoard = refl
name_is_line refused.WrongAnswers = refl
name_is_line refused.WrongWord = refl
name_is_line refused.Spent = refl

-- ---- the line

module _ (n : ℕ) (r : Refused) (few : n < 10 ^ 19) where
  read_at : refusal_at (Some (length (decimal n))) (decimal n ++ 58 ∷ 32 ∷ refused_name r) ≡ Some (n, r)
  read_at =
      ap (λ ds. number_in ds >>= λ number. name_behind (drop (length (decimal n)) (decimal n ++ 58 ∷ 32 ∷ refused_name r)) >>= λ refusal. Some (number, refusal)) (take-append_seam (decimal n) (58 ∷ 32 ∷ refused_name r))
      ∙ ap (λ text. number_in (decimal n) >>= λ number. name_behind text >>= λ refusal. Some (number, refusal)) (drop-append_seam (decimal n) (58 ∷ 32 ∷ refused_name r))
      ∙ ap (λ number. number >>= λ number. refused_named (refused_name r) >>= λ refusal. Some (number, refusal)) (number_read n few)
      ∙ ap (λ refusal. refusal >>= λ refusal. Some (n, refusal)) (name_read r)

  shape : change_line n (refused_name r) ≡ codes "change " ++ (decimal n ++ 58 ∷ 32 ∷ refused_name r)
  shape = ap (λ text. codes "change " ++ text) (append_assoc (decimal n) (58 ∷ 32 ∷ []) (refused_name r))

  read_line : refusal_in (codes "change " ++ (decimal n ++ 58 ∷ 32 ∷ refused_name r)) ≡ Some (n, r)
  read_line =
      let w = writes n (omega arith) in
      ap (λ at. refusal_at at (decimal n ++ 58 ∷ 32 ∷ refused_name r)) (behind is_colon (decimal n) 58 (32 ∷ refused_name r) w.no_colon refl) ∙ read_at

  no_lf : list_any is_lf (codes "change " ++ (decimal n ++ 58 ∷ 32 ∷ refused_name r)) ≡ false
  no_lf =
      let w = writes n (omega arith) in
      list_any-append is_lf (decimal n) (58 ∷ 32 ∷ refused_name r) ∙ neither (list_any is_lf (decimal n)) (list_any is_lf (58 ∷ 32 ∷ refused_name r)) w.no_lf (name_is_line r)

  pub alone_read : refusal_told (change_line n (refused_name r)) ≡ Some (n, r)
  alone_read =
      ap refusal_told shape
      ∙ ap (λ at. refusal_in (before at (codes "change " ++ (decimal n ++ 58 ∷ 32 ∷ refused_name r)))) (nowhere is_lf (codes "change " ++ (decimal n ++ 58 ∷ 32 ∷ refused_name r)) no_lf)
      ∙ read_line

  pub read_before : (rest : List ℕ) → refusal_told (change_line n (refused_name r) ++ 10 ∷ rest) ≡ Some (n, r)
  read_before rest =
      ap (λ text. refusal_told (text ++ 10 ∷ rest)) shape
      ∙ ap (λ at. refusal_in (before at ((codes "change " ++ (decimal n ++ 58 ∷ 32 ∷ refused_name r)) ++ 10 ∷ rest))) (behind is_lf (codes "change " ++ (decimal n ++ 58 ∷ 32 ∷ refused_name r)) 10 rest no_lf refl)
      ∙ ap refusal_in (take-append_seam (codes "change " ++ (decimal n ++ 58 ∷ 32 ∷ refused_name r)) (10 ∷ rest)) ∙ read_line

pub all_read : RefusalsAreRead
all_read = record { alone = λ n r few. alone_read n r few; before_others = λ n r rest few. read_before n r few rest }
