-- Lines and fields by their last byte.
use Rattle.std.proofs.Common.{◌≡◌, ℕ, suc, ◌+◌, ◌-◌, ◌<◌, ◌≤◌, true, false, ◌&&◌, List, [], ◌∷◌, ◌++◌, ◌==◌, length, take, drop, get_or, arith, ap, sym, ◌∙◌, inl, inr, refl}
use Rattle.std.specs.List.{slice_split, position_or_len}
use Rattle.std.proofs.lemmas.List.{take_all, take_more, take_rest}
use Rattle.std.proofs.lemmas.List.Splits.{slice_split_first}
use Rattle.std.proofs.lemmas.Bool.{cases_Bool}
use Rattle.std.proofs.lemmas.Slice.Eq.{bytes_eq-Decides}
use Rattle.std.specs.Prelude.{Ok, Err}
use Rattle.std.specs.Str.{bytes_eq}
use Rattle.request_reader.specs.RequestLine.{is_tab, before_fields, without_empty_end, is_fetch, data_flag}
use Rattle.request_reader.specs.declared.cause.Cause.TheVariants.{NotUnderstood}

-- a list is its front and its last byte
pub last_apart : (xs : List ℕ) → 1 ≤ length xs → take (length xs - 1) xs ++ get_or xs (length xs - 1) 0 ∷ [] ≡ xs
last_apart xs some =
    let back : length xs - 1 + 1 ≡ length xs = omega arith in
    sym (take_more xs (length xs - 1) 0 (omega arith)) ∙ ap (λ n. take n xs) back ∙ take_all (length xs) xs (omega arith)

-- the first field, where a TAB ends it, and what follows
pub first_ends : (xs : List ℕ) (n : ℕ) → n ≡ position_or_len is_tab xs → n < length xs → slice_split is_tab xs ≡ take n xs ∷ slice_split is_tab (take (length xs - (n + 1)) (drop (n + 1) xs))
first_ends xs n place less =
    let found : position_or_len is_tab xs < length xs = omega arith in
    slice_split_first is_tab xs 0 found ∙ (rw (take_rest xs (n + 1), place) refl)

-- a line with no TAB is one field
pub one_field : (xs : List ℕ) → length xs ≤ position_or_len is_tab xs → slice_split is_tab xs ≡ xs ∷ []
one_field [] none = refl
one_field (x ∷ xs) none =
    elim (cases_Bool (x == 9)) [
      | inl tab ↦ absurd (let at : suc (length xs) ≤ 0 = rw tab at none in omega arith)
      | inr other ↦ let past : suc (length xs) ≤ 1 + position_or_len is_tab xs = rw other at none in rw (other, one_field xs (omega arith)) refl
    ]

-- a list has a first field
record Fields (xs : List ℕ) : Type 0 where
  pub first : List ℕ
  pub others : List (List ℕ)
  pub is : slice_split is_tab xs ≡ first ∷ others

fields_of : (xs : List ℕ) → Fields xs
fields_of [] = record { first = []; others = []; is = refl }
fields_of (x ∷ xs) =
    let rest = fields_of xs in
    elim (cases_Bool (x == 9)) [
      | inl tab ↦ record { first = []; others = slice_split is_tab xs; is = rw tab refl }
      | inr other ↦ record { first = x ∷ rest.first; others = rest.others; is = rw (other, rest.is) refl }
    ]

tab_ends : (xs : List ℕ) → slice_split is_tab (xs ++ 9 ∷ []) ≡ slice_split is_tab xs ++ [] ∷ []
tab_ends [] = refl
tab_ends (x ∷ xs) =
    let rest = fields_of xs in
    elim (cases_Bool (x == 9)) [
      | inl tab ↦ rw tab (ap (λ l. [] ∷ l) (tab_ends xs))
      | inr other ↦ rw (other, tab_ends xs, rest.is) refl
    ]

empty_goes : (fs : List (List ℕ)) → without_empty_end (fs ++ [] ∷ []) ≡ without_empty_end fs
empty_goes [] = refl
empty_goes (f ∷ fs) = ap (before_fields f) (empty_goes fs)

-- a TAB at the end adds no field
pub tab_goes : (xs : List ℕ) → 1 ≤ length xs → get_or xs (length xs - 1) 0 ≡ 9 → without_empty_end (slice_split is_tab (take (length xs - 1) xs)) ≡ without_empty_end (slice_split is_tab xs)
tab_goes xs some is =
    let apart : take (length xs - 1) xs ++ 9 ∷ [] ≡ xs = ap (λ b. take (length xs - 1) xs ++ b ∷ []) (sym is) ∙ last_apart xs some in
    sym (empty_goes (slice_split is_tab (take (length xs - 1) xs))) ∙ ap without_empty_end (sym (tab_ends (take (length xs - 1) xs)) ∙ ap (slice_split is_tab) apart)

others_stay : (f : List ℕ) (gs fs : List (List ℕ)) → before_fields f gs ≡ f ∷ fs → gs ≡ fs
others_stay [] [] fs e = absurd (cc e)
others_stay [] (g ∷ gs) fs e = cc e
others_stay (b ∷ bs) gs fs e = cc e

all_stay : (xs : List ℕ) (b : ℕ) → (b == 9) ≡ false → without_empty_end (slice_split is_tab (xs ++ b ∷ [])) ≡ slice_split is_tab (xs ++ b ∷ [])
all_stay [] b other = rw other refl
all_stay (x ∷ xs) b other =
    let rest = fields_of (xs ++ b ∷ []) in
    let same = all_stay xs b other in
    let others : without_empty_end rest.others ≡ rest.others = others_stay rest.first (without_empty_end rest.others) rest.others (rw rest.is at same) in
    elim (cases_Bool (x == 9)) [
      | inl tab ↦ rw (tab, same, rest.is) refl
      | inr off ↦ rw (off, rest.is, others) refl
    ]

-- no field at the end is empty where another byte stands there
pub fields_stay : (xs : List ℕ) → 1 ≤ length xs → (get_or xs (length xs - 1) 0 == 9) ≡ false → slice_split is_tab xs ≡ without_empty_end (slice_split is_tab xs)
fields_stay xs some other =
    let apart = last_apart xs some in
    let same = all_stay (take (length xs - 1) xs) (get_or xs (length xs - 1) 0) other in
    ap (slice_split is_tab) (sym apart) ∙ sym same ∙ ap (λ l. without_empty_end (slice_split is_tab l)) apart

-- a line of one field is that field
one_part : (xs f : List ℕ) → slice_split is_tab xs ≡ f ∷ [] → xs ≡ f
one_part [] f is = cc is
one_part (x ∷ xs) f is =
    let rest = fields_of xs in
    elim (cases_Bool (x == 9)) [
      | inl tab ↦ absurd (let k = rw (tab, rest.is) at is in cc k)
      | inr off ↦ (let k = rw (off, rest.is) at is in
          let alone : rest.others ≡ [] = cc k in
          let first : x ∷ rest.first ≡ f = cc k in
          ap (λ l. x ∷ l) (one_part xs rest.first (rest.is ∙ ap (λ l. rest.first ∷ l) alone)) ∙ first)
    ]

pub no_data_flag : (plus flag : List ℕ) → bytes_eq flag (48 ∷ []) ≡ true → Ok false ≡ data_flag plus (slice_split is_tab flag)
no_data_flag plus flag is = rw ((bytes_eq-Decides flag (48 ∷ [])).0 is) refl

pub data_flag_set : (plus flag : List ℕ) → bytes_eq flag (49 ∷ []) ≡ true → is_fetch plus ≡ true → Ok true ≡ data_flag plus (slice_split is_tab flag)
data_flag_set plus flag is fetch = rw ((bytes_eq-Decides flag (49 ∷ [])).0 is, fetch) refl

one_flag : (plus flag f : List ℕ) (others : List (List ℕ)) → slice_split is_tab flag ≡ f ∷ others → bytes_eq flag (48 ∷ []) ≡ false → (bytes_eq flag (49 ∷ []) && is_fetch plus) ≡ false → Err NotUnderstood ≡ data_flag plus (f ∷ others)
one_flag plus flag f [] is none other = let same = one_part flag f is in rw (← same, none, other) refl
one_flag plus flag f (g ∷ gs) is none other = refl

pub other_flag : (plus flag : List ℕ) → bytes_eq flag (48 ∷ []) ≡ false → (bytes_eq flag (49 ∷ []) && is_fetch plus) ≡ false → Err NotUnderstood ≡ data_flag plus (slice_split is_tab flag)
other_flag plus flag none other = let all = fields_of flag in rw all.is (one_flag plus flag all.first all.others all.is none other)
