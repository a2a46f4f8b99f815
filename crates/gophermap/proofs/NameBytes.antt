-- A name is made of its bytes.
use Rattle.std.proofs.Common.{◌≡◌, ℕ, Bool, List, length, inl, inr}
use Rattle.std.specs.Prelude.{nat_lt, Ok}
use Rattle.std.proofs.lemmas.Bool.{cases_Bool}
use Rattle.common_types.specs.Names.{name_of}

-- what a type takes is the bytes that it was given
pub name_is : (test : List ℕ → Bool) (most : ℕ) (bytes name : List ℕ) → name_of test most bytes ≡ Ok name → bytes ≡ name
name_is test most bytes name is =
    elim (cases_Bool (nat_lt most (length bytes))) [
      | inl long ↦ absurd (let k = rw long at is in cc k)
      | inr short ↦ elim (cases_Bool (test bytes)) [
        | inl good ↦ (let k = rw (short, good) at is in cc k)
        | inr bad ↦ absurd (let k = rw (short, bad) at is in cc k)
      ]
    ]
