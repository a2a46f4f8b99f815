-- What stands under a slot that names a tree.
use Rattle.std.proofs.Common.{◌≡◌, ℕ, suc, ◌+◌, ◌≤◌, ◌<◌, true, false, List, [], ◌∷◌, length, Some, None, refl, sym, ap, ◌∙◌, arith, eq-eqb, inl, inr}
use Rattle.std.specs.Prelude.{IsTrue, ◌&&◌, ◌==◌}
use Rattle.std.proofs.lemmas.Bool.{cases_Bool, le-leb, lt-ltb}
use Rattle.page_store.specs.Reading.{where_true}
use Rattle.page_store.specs.Pages.{Pair}
use Rattle.page_store.specs.Commit.{numbers}
use Rattle.page_store.specs.Content.{tree_as, is_tree_version, Found, Bounds, walk, tree_of, tree_found, found_as, content_under, are_distinct, is_among}
use Rattle.page_store.specs.declared.commit.NewPage.{NewPage}
use Rattle.page_store.specs.declared.slot.Slot.{Slot}
use Rattle.page_store.proofs.Fields.{bind_again}
use Rattle.tree_nodes.specs.Tree.{Tree, pairs_of}
use Rattle.tree_nodes.specs.Image.{old_of}
use Rattle.tree_pages.specs.Written.{IsTreePage}
use Rattle.tree_pages.specs.Reached.{times, reached, FindsTree, HoldsTree}
use Rattle.tree_pages.proofs.Counted.{one_if, fewer}

-- ---- no page twice

not_among : (n : ℕ) (ns : List ℕ) → times n ns ≤ 0 → is_among n ns ≡ false
not_among n [] h = refl
not_among n (m ∷ ms) h = elim (cases_Bool (n == m)) [ inl here ↦ absurd (one_there here) | inr other ↦ rw other (not_among n ms (omega (arith, h))) ]
  where
    one_there : (n == m) ≡ true → ⊥
    one_there is = let one = ap one_if is in omega (arith, one, h)

pub distinct : (ns : List ℕ) → ((m : ℕ) → times m ns ≤ 1) → are_distinct ns ≡ true
distinct [] h = refl
distinct (n ∷ ns) h =
    let one = ap one_if (eq-eqb n n refl) in
    let here = h n in
    rw (not_among n ns (omega (arith, one, here))) (distinct ns (λ m. fewer (one_if (m == n)) (times m ns) (h m)))

-- ---- the content

tree_under : (slot : Slot) (now : ℕ → List ℕ) (level : ℕ) (found : Found) → slot.root.height ≡ suc level → level ≤ 15 → 2 ≤ slot.root.tree → slot.root.tree < slot.root.pages
    → walk now (record { pages = slot.root.pages; seal = slot.seal }) level slot.root.tree [] None ≡ Some found → are_distinct found.pages ≡ true → (length found.pairs == slot.root.keys) ≡ true → tree_found slot now ≡ Some found
unfolding tree_found
tree_under slot now level found height low first inside walked once many =
    let bounds : Bounds = record { pages = slot.root.pages; seal = slot.seal } in
    let at : tree_of now bounds (suc level) slot.root.tree ≡ Some found = rw (le-leb level 15 low, le-leb 2 slot.root.tree first, lt-ltb slot.root.tree slot.root.pages inside) walked in
    bind_again (tree_of now bounds slot.root.height slot.root.tree) (λ found. where_true (are_distinct found.pages && (length found.pairs == slot.root.keys)) (Some found)) found (Some found)
    (ap (λ (h : ℕ). tree_of now bounds h slot.root.tree) height ∙ at) (rw (once, many) refl)

content_of_tree : (slot : Slot) (now : ℕ → List ℕ) (found : Found) → IsTrue (is_tree_version slot.root.banner.version) → tree_found slot now ≡ Some found → content_under slot now ≡ Some found
unfolding content_under
content_of_tree slot now found version is = tree_as slot.root.banner.version slot now version ∙ is

pub holds_tree : (slot : Slot) (tree : Tree) (old now : ℕ → List ℕ) (bounds : Bounds) (level : ℕ) (pages : List NewPage) → IsTrue (is_tree_version slot.root.banner.version) → slot.root.pages ≡ bounds.pages → slot.root.height ≡ suc level → level ≤ 15
    → IsTreePage bounds.pages slot.root.tree → slot.root.keys ≡ length (pairs_of (old_of old bounds) tree) → FindsTree old now bounds slot.seal level tree [] None slot.root.tree pages
    → ((m : ℕ) → times m (numbers pages) + times m (reached old bounds tree) ≤ 1) → HoldsTree old now bounds slot tree pages
holds_tree slot tree old now bounds level pages version count height low inside keys finds once =
    let walked : walk now (record { pages = slot.root.pages; seal = slot.seal }) level slot.root.tree [] None ≡ Some finds.found =
    ap (λ (n : ℕ). walk now (record { pages = n; seal = slot.seal }) level slot.root.tree [] None) count ∙ finds.walked in
    let twice = distinct finds.found.pages (λ m. let is = finds.reaches m in let most = once m in omega (arith, is, most)) in
    let many : length finds.found.pairs ≡ slot.root.keys = ap (λ (l : List Pair). length l) finds.pairs ∙ sym keys in
    let last = inside.1 in
    record {
      found = finds.found;
      content = content_of_tree slot now finds.found version (tree_under slot now level finds.found height low inside.0 (omega (arith, last, count)) walked twice (eq-eqb (length finds.found.pairs) slot.root.keys many));
      pairs = finds.pairs;
      reaches = finds.reaches;
    }
