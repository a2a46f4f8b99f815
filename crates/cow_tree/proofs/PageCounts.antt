-- How many pages a tree has, and how many of its image it leaves.
use Rattle.std.proofs.Common.{◌≡◌, ◌≤◌, ◌+◌, ℕ, zero, suc, Bool, true, false, List, [], ◌∷◌, length, Some, refl, sym, ap, ◌∙◌, arith, le-leb, eq-eqb, ne_eqb, eqb-true}
use Rattle.std.specs.Prelude.{◌==◌, ◌||◌, ◌&&◌, not, nat_le, if◌then◌else◌}
use Rattle.page_alloc.specs.LedgerState.{count_below}
use Rattle.page_alloc.proofs.Counting.{count_more}
use Rattle.page_store.specs.Sectors.{Image, page_of}
use Rattle.page_store.specs.Content.{tree_found, is_among, are_distinct}
use Rattle.page_store.specs.Commit.{numbers}
use Rattle.page_store.specs.declared.commit.NewPage.{NewPage}
use Rattle.page_store.specs.declared.slot.Slot.{Slot}
use Rattle.tree_nodes.proofs.KeyOrder.{both_true}
use Rattle.tree_pages.specs.Reached.{times}
use Rattle.tree_pages.proofs.Counted.{times_first}
use Rattle.cow_tree.specs.Opening.{bounds_under}
use Rattle.cow_tree.specs.TreeState.{found_under, unreached}
use Rattle.cow_tree.proofs.Reaching.{AreWithin}
use Rattle.cow_tree.proofs.Finding.{tree_inside}
use Rattle.cow_tree.proofs.DraftsBegin.{distinct_found}
use Rattle.cow_tree.proofs.RootWalks.{found_tree}

-- ---- lists that have each number as often are as long

abbrev without_first : ℕ → List ℕ → List ℕ
without_first n [] = []
without_first n (m ∷ ms) = if n == m then ms else m ∷ without_first n ms

one_shorter : (n : ℕ) (ns : List ℕ) → 1 ≤ times n ns → length ns ≡ suc (length (without_first n ns))
one_shorter n [] some = absurd (omega (arith, some))
one_shorter n (m ∷ ms) some = go (n == m) (one_shorter n ms) some
  where
    go : (b : Bool) → (1 ≤ times n ms → length ms ≡ suc (length (without_first n ms))) → 1 ≤ (if b then 1 else 0) + times n ms → length (m ∷ ms) ≡ suc (length (if b then ms else m ∷ without_first n ms))
    go true rest s = refl
    go false rest s = ap suc (rest (omega (arith, s)))

one_fewer : (n k : ℕ) (ns : List ℕ) → 1 ≤ times n ns → times k ns ≡ (if k == n then 1 else 0) + times k (without_first n ns)
one_fewer n k [] some = absurd (omega (arith, some))
one_fewer n k (m ∷ ms) some = go (n == m) refl (one_fewer n k ms) some
  where
    go : (b : Bool) → (n == m) ≡ b → (1 ≤ times n ms → times k ms ≡ (if k == n then 1 else 0) + times k (without_first n ms)) → 1 ≤ (if b then 1 else 0) + times n ms → times k (m ∷ ms) ≡ (if k == n then 1 else 0) + times k (if b then ms else m ∷ without_first n ms)
    go true e rest s = ap (λ (j : ℕ). (if k == j then 1 else 0) + times k ms) (sym (eqb-true n m e))
    go false e rest s = let more = rest (omega (arith, s)) in omega (arith, more)

pub numbers_length : (pages : List NewPage) → length (numbers pages) ≡ length pages
numbers_length [] = refl
numbers_length (new ∷ pages) = ap suc (numbers_length pages)

pub same_length : (xs ys : List ℕ) → ((m : ℕ) → times m xs ≡ times m ys) → length xs ≡ length ys
same_length [] [] same = refl
same_length [] (y ∷ ys) same = let e = same y in let one = times_first y ys in absurd (omega (arith, e, one))
same_length (x ∷ xs) ys same =
    let here = same x in
    let one = times_first x xs in
    let some : 1 ≤ times x ys = omega (arith, here, one) in
    let rest = same_length xs (without_first x ys) (λ m. let e = same m in let f = one_fewer x m ys some in omega (arith, e, f)) in
    ap suc rest ∙ sym (one_shorter x ys some)

-- ---- the pages that are reached and those that are not

abbrev pub leaves : List ℕ → ℕ → Bool
leaves ns n = nat_le 2 n && not (is_among n ns)

all_but_two : (n : ℕ) → count_below (leaves []) (suc (suc n)) ≡ n
all_but_two zero = refl
all_but_two (suc n) = let all = all_but_two n in rw (le-leb 2 (suc (suc n)) (omega arith)) (omega (arith, all))

pub count_left : (pages : ℕ) (ns : List ℕ) → 2 ≤ pages → AreWithin pages ns → are_distinct ns ≡ true → count_below (leaves ns) pages + length ns + 2 ≡ pages
count_left zero [] two within distinct = absurd (omega (arith, two))
count_left (suc zero) [] two within distinct = absurd (omega (arith, two))
count_left (suc (suc n)) [] two within distinct = let all = all_but_two n in omega (arith, all)
count_left pages (n ∷ ns) two within distinct =
    let parts = both_true (not (is_among n ns)) (are_distinct ns) distinct in
    let here : leaves ns n ≡ true = rw (le-leb 2 n within.0, parts.0) refl in
    let gone : leaves (n ∷ ns) n ≡ false = rw (eq-eqb n n refl, le-leb 2 n within.0) refl in
    let less = count_more (leaves ns) (leaves (n ∷ ns)) n pages within.1 here gone (λ m below ne. ap (λ (b : Bool). nat_le 2 m && not (b || is_among m ns)) (sym (ne_eqb m n ne))) in
    let rest = count_left pages ns two within.2 parts.1 in
    omega (arith, less, rest)

-- each page of the image is reached, or left, or is a root slot
pub all_pages : (slot : Slot) (image : Image) → 2 ≤ slot.root.pages → tree_found slot (page_of image) ≡ Some (found_under slot image) → unreached slot [] image + length (found_under slot image).pages + 2 ≡ slot.root.pages
all_pages slot image two is =
    count_left slot.root.pages (found_under slot image).pages two (tree_inside (page_of image) (bounds_under slot) slot.root.height slot.root.tree (found_under slot image) (found_tree slot (page_of image) (found_under slot image) is))
    (distinct_found slot (page_of image) (found_under slot image) is)
