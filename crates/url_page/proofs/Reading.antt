-- What was escaped is read back.
use Rattle.std.proofs.Common.{◌≡◌, ℕ, zero, suc, drop, false, List, [], ◌∷◌, ◌++◌, ◌==◌, refl, sym, ap, ◌∙◌, inl, inr, eqb-true, eq-eqb, subst}
use Rattle.std.proofs.lemmas.Bool.{cases_Bool, both_ways}
use Rattle.url_page.specs.Page.{escape, unescape, unescape_after, named, escaped}

-- the same test from the other side
turned : (a b : ℕ) → (b == a) ≡ false → (a == b) ≡ false
turned a b n = elim (cases_Bool (a == b)) [ inl e ↦ absurd (both_ways _ n (eq-eqb b a (sym (eqb-true a b e)))) | inr m ↦ m ]

-- a byte that is no `&` stands for itself
plain_read : (b : ℕ) (rest : List ℕ) → (b == 38) ≡ false → unescape (b ∷ rest) ≡ b ∷ unescape rest
plain_read b rest n = let m = turned 38 b n in rw m refl

-- a byte that has a name is read back from it
named_read : (b : ℕ) (rest : List ℕ) → unescape (escaped b ++ rest) ≡ b ∷ unescape rest
named_read b rest =
    elim (cases_Bool (b == 38)) [
      | inl e ↦ subst (λ b. unescape (escaped b ++ rest) ≡ b ∷ unescape rest) (sym (eqb-true b 38 e)) refl
      | inr n ↦ elim (cases_Bool (b == 60)) [
        | inl e ↦ subst (λ b. unescape (escaped b ++ rest) ≡ b ∷ unescape rest) (sym (eqb-true b 60 e)) refl
        | inr m ↦ elim (cases_Bool (b == 62)) [
          | inl e ↦ subst (λ b. unescape (escaped b ++ rest) ≡ b ∷ unescape rest) (sym (eqb-true b 62 e)) refl
          | inr k ↦ elim (cases_Bool (b == 34)) [
            | inl e ↦ subst (λ b. unescape (escaped b ++ rest) ≡ b ∷ unescape rest) (sym (eqb-true b 34 e)) refl
            | inr j ↦ rw (n, m, k, j) (plain_read b rest n)
          ]
        ]
      ]
    ]

pub reads_back : (url : List ℕ) → unescape (escape url) ≡ url
reads_back [] = refl
reads_back (b ∷ bs) = named_read b (escape bs) ∙ ap (λ read. b ∷ read) (reads_back bs)

-- to pass bytes over is to read what stands behind them
passed : (bytes : List ℕ) (skip : ℕ) → unescape_after bytes skip ≡ unescape (drop skip bytes)
passed [] zero = refl
passed [] (suc skip) = refl
passed (b ∷ bytes) zero = refl
passed (b ∷ bytes) (suc skip) = passed bytes skip

-- one byte is read, and then what stands behind it
pub goes_on : (b : ℕ) (bytes : List ℕ) → unescape (b ∷ bytes) ≡ (named b bytes).byte ∷ unescape (drop (named b bytes).more bytes)
goes_on b bytes = ap (λ read. (named b bytes).byte ∷ read) (passed bytes (named b bytes).more)
