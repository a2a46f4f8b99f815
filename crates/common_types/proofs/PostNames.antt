-- The bytes of a post's selector.
use Rattle.std.proofs.Common.{◌≡◌, ℕ, ◌+◌, ◌<◌, ◌≤◌, ◌^◌, ◌%◌, Bool, true, false, List, [], ◌∷◌, ◌++◌, length, Ok, Err, refl, ap, ◌∙◌, arith, inl, inr}
use Rattle.std.specs.Prelude.{codes, decimal, not, ◌||◌, IsTrue}
use Rattle.std.specs.List.{list_any}
use Rattle.std.proofs.lemmas.Bool.{cases_lt, le-ltb}
use Rattle.std.proofs.lemmas.Bool.Decides.{nat_tests}
use Rattle.std.proofs.lemmas.Fmt.{decimal_by_steps}
use Rattle.std.proofs.lemmas.List.Folds.{list_any-append}
use Rattle.common_types.specs.Names.{is_forbidden, is_field, name_of, post_selector}
use Rattle.common_types.specs.declared.refused.Refused.{Refused}

no_forbidden_digit : (d : ℕ) → 48 ≤ d → is_forbidden d ≡ false
no_forbidden_digit d h = grind (arith, nat_tests)

no_forbidden_number : (n : ℕ) → n < 2 ^ 64 → list_any is_forbidden (decimal n) ≡ false
no_forbidden_number = decimal_by_steps (λ n ds. list_any is_forbidden ds ≡ false)
    (λ n lt. ap (λ b. b || false) (no_forbidden_digit (48 + n) (omega arith)))
    (λ n ds ge h. list_any-append is_forbidden ds ((48 + n % 10) ∷ []) ∙ rw (h, no_forbidden_digit (48 + n % 10) (omega arith)) refl)

unnot : (b : Bool) → not b ≡ true → b ≡ false
unnot true h = absurd cc
unnot false h = refl

-- a post's selector has no byte that a selector may not have
pub is_field-post_selector : (board : List ℕ) (n : ℕ) → n < 2 ^ 64 → IsTrue (is_field board) → is_field (post_selector board n) ≡ true
is_field-post_selector board n lt h =
    let none : list_any is_forbidden board ≡ false = unnot (list_any is_forbidden board) h in
    rw (list_any-append is_forbidden (codes "post/" ++ board ++ codes "/") (decimal n), list_any-append is_forbidden (codes "post/" ++ board) (codes "/"), list_any-append is_forbidden (codes "post/") board, none, no_forbidden_number n lt) refl

-- a name of the right bytes is refused only where it is too long
pub too_long : (bytes : List ℕ) (e : Refused) → is_field bytes ≡ true → Err e ≡ name_of is_field 255 bytes → 255 < length bytes
too_long bytes e field given =
    elim (cases_lt 255 (length bytes)) [
      | inl lt ↦ lt
      | inr le ↦
          let good : name_of is_field 255 bytes ≡ Ok bytes = rw (le-ltb 255 (length bytes) le, field) refl in
          let no : Err e ≡ Ok bytes = given ∙ good in
          absurd (cc no)
    ]
