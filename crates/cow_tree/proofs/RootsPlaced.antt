-- Where a written root stands.
use Rattle.std.proofs.Common.{◌≡◌, ◌≤◌, ◌+◌, ◌-◌, ℕ, zero, suc, Bool, List, [], ◌∷◌, ◌++◌, length, take, Some, None, ◌⊎◌, refl, sym, ap, subst, ◌∙◌, arith, inl, inr, ne_eqb}
use Rattle.std.specs.Prelude.{All, if◌then◌else◌}
use Rattle.std.proofs.lemmas.Bool.{cases_eq}
use Rattle.page_store.specs.Commit.{numbers}
use Rattle.page_store.specs.declared.commit.NewPage.{NewPage}
use Rattle.tree_nodes.specs.Tree.{Tree, page, leaf, branch, OldPages}
use Rattle.tree_nodes.specs.Steps.{IsValidRoot}
use Rattle.tree_pages.specs.Reached.{times}
use Rattle.tree_pages.specs.Written.{IsWritten, AddsTree, AllFit, IsTreePage, page_for}
use Rattle.tree_pages.proofs.Counted.{times_joined, numbers_joined, times_first}
use Rattle.tree_pages.proofs.PagesPut.{valid_fits}
use Rattle.cow_tree.specs.Plans.{IsRootInside}

pub valid_root_fits : (old : OldPages) (tree : Tree) (height below : ℕ) → IsValidRoot old (Some tree) height → below ≡ height - 1 → AllFit below tree
valid_root_fits old tree height below v is = subst (λ (n : ℕ). AllFit n tree) (let e = v.1 in omega (arith, e, is)) (valid_fits tree old v.0 [] None v.2)

-- a list's numbers all have what each at its place has
pub all_times : (P : ℕ → Type 0) (n : ℕ) (ns : List ℕ) → All P ns → 1 ≤ times n ns → P n
all_times P n [] all some = absurd (omega (arith, some))
all_times P n (m ∷ ns) all some =
    elim (cases_eq n m) [
      | inl e ↦ subst P (sym e) (all 0 0 (omega arith))
      | inr ne ↦
          let none = ap (λ (b : Bool). (if b then 1 else 0) + times n ns) (ne_eqb n m ne) in
          all_times P n ns (λ i d lt. all (suc i) d (omega (arith, lt))) (omega (arith, some, none))
    ]

times_taken : (n k : ℕ) (ns : List ℕ) → times n (take k ns) ≤ times n ns
times_taken n zero ns = omega arith
times_taken n (suc k) [] = omega arith
times_taken n (suc k) (m ∷ ns) = let more = times_taken n k ns in omega (arith, more)

last_is : (n : ℕ) (pages : List NewPage) (new : NewPage) → new.number ≡ n → 1 ≤ times n (numbers (pages ++ new ∷ []))
last_is n pages new is =
    let joined = ap (times n) (numbers_joined pages (new ∷ [])) ∙ times_joined n (numbers pages) (numbers (new ∷ [])) in
    let one : times n (numbers (new ∷ [])) ≡ 1 = ap (λ (m : ℕ). times n (m ∷ [])) is ∙ times_first n [] in
    omega (arith, joined, one)

-- an owned root is one of the new pages
root_is_new : (tree : Tree) (generation level n : ℕ) (pages : List NewPage) → IsWritten generation level tree n pages → (tree ≡ page n) ⊎ (1 ≤ times n (numbers pages))
root_is_new (page m) generation level n pages w = inl (ap page (sym w.0))
root_is_new (leaf pairs) generation level n pages w = inr (subst (λ (l : List NewPage). 1 ≤ times n (numbers l)) (sym w) (last_is n [] (page_for n generation level (leaf pairs)) refl))
root_is_new (branch first others) generation zero n pages w = absurd w
root_is_new (branch first others) generation (suc level) n pages w = inr (subst (λ (l : List NewPage). 1 ≤ times n (numbers l)) (sym w.6) (last_is n (w.1 ++ w.3) _ refl))

pub root_inside : (count : ℕ) (given : List ℕ) (generation level : ℕ) (new : List NewPage) (tree : Tree) (n : ℕ) → IsRootInside count (Some tree) → All (λ m. IsTreePage count m) given → AddsTree given generation level [] new tree n → IsTreePage count n
root_inside count given generation level new tree n inside all w =
    elim (root_is_new tree generation level n w.0 w.2) [
      | inl e ↦ subst (λ (t : Tree). IsRootInside count (Some t)) e inside
      | inr some ↦
          let numbered = ap (times n) w.1.numbered in
          let taken = times_taken n (length w.0) given in
          all_times (λ m. IsTreePage count m) n given all (omega (arith, some, numbered, taken))
    ]
