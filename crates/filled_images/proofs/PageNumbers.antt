-- Pages that are numbered one after another.
use Rattle.std.proofs.Common.{◌≡◌, ◌≤◌, ◌<◌, ◌+◌, inl, inr, ℕ, zero, suc, List, [], ◌∷◌, ◌++◌, length, refl, ap, ◌∙◌, arith, ne_eqb}
use Rattle.std.specs.Prelude.{All, if◌then◌else◌}
use Rattle.std.proofs.lemmas.Bool.{cases_eq}
use Rattle.page_store.specs.Flat.{numbers_from}
use Rattle.page_store.specs.Commit.{numbers}
use Rattle.page_store.specs.declared.commit.NewPage.{NewPage}
use Rattle.tree_pages.specs.Reached.{times}
use Rattle.tree_pages.specs.Written.{IsTreePage, AreTreePages}
use Rattle.tree_pages.proofs.Counted.{times_first}

pub numbers_more : (first n : ℕ) → numbers_from first (suc n) ≡ numbers_from first n ++ (first + n) ∷ []
numbers_more first zero = let e : first ≡ first + zero = omega arith in ap (λ (k : ℕ). k ∷ []) e
numbers_more first (suc n) = ap (λ (l : List ℕ). first ∷ l) (numbers_more (suc first) n ∙ (let e : suc first + n ≡ first + suc n = omega arith in ap (λ (k : ℕ). numbers_from (suc first) n ++ k ∷ []) e))

pub so_many : (first n : ℕ) → length (numbers_from first n) ≡ n
so_many first zero = refl
so_many first (suc n) = ap suc (so_many (suc first) n)

not_before : (m first n : ℕ) → m < first → times m (numbers_from first n) ≡ 0
not_before m first zero lt = refl
not_before m first (suc n) lt =
    let other = ap (λ b. (if b then 1 else 0) + times m (numbers_from (suc first) n)) (ne_eqb m first (λ e. omega (arith, e, lt))) in
    let rest = not_before m (suc first) n (omega (arith, lt)) in
    omega (arith, other, rest)

-- no number stands twice
pub numbered_once : (m first n : ℕ) → times m (numbers_from first n) ≤ 1
numbered_once m first zero = omega arith
numbered_once m first (suc n) =
    elim (cases_eq m first) [
      | inl e ↦ let rest = not_before m (suc first) n (omega (arith, e)) in let one = times_first first (numbers_from (suc first) n) in let same = ap (λ (k : ℕ). times k (first ∷ numbers_from (suc first) n)) e in let later = ap (λ (k : ℕ). times k (numbers_from (suc first) n)) e in omega (arith, rest, one, same, later)
      | inr ne ↦ let other = ap (λ b. (if b then 1 else 0) + times m (numbers_from (suc first) n)) (ne_eqb m first ne) in let rest = numbered_once m (suc first) n in omega (arith, other, rest)
    ]

pub all_numbers : (count first n : ℕ) → 2 ≤ first → first + n ≤ count → All (λ k. IsTreePage count k) (numbers_from first n)
all_numbers count first zero low fits i d lt = absurd (omega (arith, lt))
all_numbers count first (suc n) low fits zero d lt = (low, omega (arith, fits))
all_numbers count first (suc n) low fits (suc i) d lt = all_numbers count (suc first) n (omega (arith, low)) (omega (arith, fits)) i d (omega (arith, lt))

-- pages of such numbers are pages of the image, each at its place
pub pages_inside : (count : ℕ) (pages : List NewPage) (first n : ℕ) → numbers pages ≡ numbers_from first n → 2 ≤ first → first + n ≤ count → All (λ (page : NewPage). IsTreePage count page.number) pages
pages_inside count [] first n are low fits i d lt = absurd (omega (arith, lt))
pages_inside count (p ∷ pages) first zero are low fits i d lt = absurd (cc are)
pages_inside count (p ∷ pages) first (suc n) are low fits zero d lt = let e : p.number ≡ first = head_is p.number first (numbers pages) (numbers_from (suc first) n) are in (omega (arith, e, low), omega (arith, e, fits))
  where
    head_is : (a b : ℕ) (xs ys : List ℕ) → a ∷ xs ≡ b ∷ ys → a ≡ b
    head_is a b xs ys e = cc
pages_inside count (p ∷ pages) first (suc n) are low fits (suc i) d lt = pages_inside count pages (suc first) n (tail_is p.number first (numbers pages) (numbers_from (suc first) n) are) (omega (arith, low)) (omega (arith, fits)) i d (omega (arith, lt))
  where
    tail_is : (a b : ℕ) (xs ys : List ℕ) → a ∷ xs ≡ b ∷ ys → xs ≡ ys
    tail_is a b xs ys e = cc

pub tree_pages_inside : (count : ℕ) (pages : List NewPage) → All (λ (page : NewPage). IsTreePage count page.number) pages → AreTreePages count pages
tree_pages_inside count [] all = tt
tree_pages_inside count (p ∷ pages) all = (all 0 p (omega arith), tree_pages_inside count pages (λ i d lt. all (suc i) d (omega (arith, lt))))
