-- The pages that a tree names are kept where all pages that it reaches are.
use Rattle.std.proofs.Common.{◌≡◌, ℕ, zero, suc, ◌≤◌, List, [], ◌∷◌, ◌++◌, Option, Some, ap, arith}
use Rattle.page_store.specs.Reading.{◌>>=◌}
use Rattle.page_store.specs.Pages.{leaf_of, branch_of}
use Rattle.page_store.specs.Content.{Found, Bounds, place_in, fan, walk}
use Rattle.page_store.proofs.Fields.{bind_some}
use Rattle.tree_nodes.specs.Tree.{Tree, Others, page, leaf, branch, none, other, pages_of, row_pages}
use Rattle.tree_nodes.specs.Valid.{IsValid, IsValidRow, others_high}
use Rattle.tree_nodes.specs.Image.{old_of}
use Rattle.tree_nodes.proofs.WalksWithinBounds.{some_is}
use Rattle.tree_pages.specs.Written.{IsTreePage}
use Rattle.tree_pages.specs.Reached.{times, pages_under, all_under, reached, AreKept}
use Rattle.tree_pages.proofs.Counted.{times_joined, times_first, among_some}
use Rattle.tree_pages.proofs.FoundTrees.{under_is}
use Rattle.tree_pages.proofs.LevelsReached.{found_at}

-- a walk finds first the page from which it sets out
pub walk_first : (bytes : ℕ → List ℕ) (bounds : Bounds) (level n : ℕ) (low : List ℕ) (high : Option (List ℕ)) (found : Found) → walk bytes bounds level n low high ≡ Some found → 1 ≤ times n found.pages
walk_first bytes bounds zero n low high found e =
    let f = bind_some (leaf_of (place_in bounds 0 n) low high (bytes n)) (λ pairs. Some (record { pages = n ∷ []; pairs = pairs })) found e in
    let first = times_first n [] in
    let is = ap (λ (x : Found). times n x.pages) (some_is _ found f.2) in
    omega (arith, first, is)
walk_first bytes bounds (suc level) n low high found e =
    let f = bind_some (branch_of (place_in bounds (suc level) n) low high (bytes n)) (λ children. fan (walk bytes bounds level) low high children >>= λ under. Some (record { pages = n ∷ under.pages; pairs = under.pairs })) found e in
    let g = bind_some (fan (walk bytes bounds level) low high f.0) (λ under. Some (record { pages = n ∷ under.pages; pairs = under.pairs })) found f.2 in
    let first = times_first n g.0.pages in
    let is = ap (λ (x : Found). times n x.pages) (some_is _ found g.2) in
    omega (arith, first, is)

-- each of these pages is among those at and under it
abbrev AreThemselves : (ℕ → List ℕ) → Bounds → List ℕ → Type 0
AreThemselves bytes bounds [] = Unit {0}
AreThemselves bytes bounds (n ∷ ns) = (1 ≤ times n (pages_under bytes bounds n)) × AreThemselves bytes bounds ns

both_themselves : (bytes : ℕ → List ℕ) (bounds : Bounds) (xs ys : List ℕ) → AreThemselves bytes bounds xs → AreThemselves bytes bounds ys → AreThemselves bytes bounds (xs ++ ys)
both_themselves bytes bounds [] ys a b = b
both_themselves bytes bounds (x ∷ xs) ys a b = (a.0, both_themselves bytes bounds xs ys a.1 b)

mutual
  named_themselves : (tree : Tree) (bytes : ℕ → List ℕ) (bounds : Bounds) (level : ℕ) (low : List ℕ) (high : Option (List ℕ)) → IsValid (old_of bytes bounds) level tree low high → AreThemselves bytes bounds (pages_of tree)
  named_themselves (page n) bytes bounds level low high v =
      let f = found_at bytes bounds level n low high v in
      let first = walk_first bytes bounds level n low high f.0 f.1 in
      let under = ap (times n) (under_is bytes bounds level n low high f.0 f.1) in
      (omega (arith, first, under), tt)
  named_themselves (leaf pairs) bytes bounds level low high v = tt
  named_themselves (branch tree others) bytes bounds zero low high v = absurd v
  named_themselves (branch tree others) bytes bounds (suc level) low high v =
      both_themselves bytes bounds (pages_of tree) (row_pages others) (named_themselves tree bytes bounds level low (others_high others high) v.0) (row_themselves others bytes bounds level low high v.1)

  row_themselves : (others : Others) (bytes : ℕ → List ℕ) (bounds : Bounds) (level : ℕ) (low : List ℕ) (high : Option (List ℕ)) → IsValidRow (old_of bytes bounds) level others low high → AreThemselves bytes bounds (row_pages others)
  row_themselves none bytes bounds level low high v = tt
  row_themselves (other key tree others) bytes bounds level low high v =
      both_themselves bytes bounds (pages_of tree) (row_pages others) (named_themselves tree bytes bounds level key (others_high others high) v.3) (row_themselves others bytes bounds level key high v.4)

-- each of these pages stands in the image, is no root slot, and has the same bytes still
abbrev AllKept : (ℕ → List ℕ) → (ℕ → List ℕ) → Bounds → List ℕ → Type 0
AllKept bytes now bounds ns = (m : ℕ) → 1 ≤ times m ns → IsTreePage bounds.pages m × (bytes m ≡ now m)

kept_first : (bytes now : ℕ → List ℕ) (bounds : Bounds) (xs ys : List ℕ) → AllKept bytes now bounds (xs ++ ys) → AllKept bytes now bounds xs
kept_first bytes now bounds xs ys h m some = h m (let both = times_joined m xs ys in omega (arith, both, some))

kept_later : (bytes now : ℕ → List ℕ) (bounds : Bounds) (xs ys : List ℕ) → AllKept bytes now bounds (xs ++ ys) → AllKept bytes now bounds ys
kept_later bytes now bounds xs ys h m some = h m (let both = times_joined m xs ys in omega (arith, both, some))

are_kept : (bytes now : ℕ → List ℕ) (bounds : Bounds) (ns : List ℕ) → AreThemselves bytes bounds ns → AllKept bytes now bounds (all_under bytes bounds ns) → AreKept bytes now bounds ns
are_kept bytes now bounds [] a h = tt
are_kept bytes now bounds (n ∷ ns) a h =
    let here = kept_first bytes now bounds (pages_under bytes bounds n) (all_under bytes bounds ns) h in
    let later = kept_later bytes now bounds (pages_under bytes bounds n) (all_under bytes bounds ns) h in
    (((here n a.0).0, λ m among. (here m (among_some m (pages_under bytes bounds n) among)).1), are_kept bytes now bounds ns a.1 later)

pub reached_kept : (bytes now : ℕ → List ℕ) (bounds : Bounds) (level : ℕ) (tree : Tree) (low : List ℕ) (high : Option (List ℕ)) → IsValid (old_of bytes bounds) level tree low high
    → ((m : ℕ) → 1 ≤ times m (reached bytes bounds tree) → IsTreePage bounds.pages m × (bytes m ≡ now m)) → AreKept bytes now bounds (pages_of tree)
reached_kept bytes now bounds level tree low high v h = are_kept bytes now bounds (pages_of tree) (named_themselves tree bytes bounds level low high v) h
