-- New pages of different numbers, written one after another; and trees that can be written.
use Rattle.std.proofs.Common.{◌≡◌, ℕ, zero, suc, ◌+◌, ◌≤◌, Bool, true, false, List, [], ◌∷◌, Option, length, take, refl, sym, ap, subst, ◌∙◌, arith, eq-eqb}
use Rattle.std.proofs.Math.Seq.{take-length}
use Rattle.std.specs.Prelude.{◌==◌, if◌then◌else◌}
use Rattle.page_store.specs.Commit.{numbers, put_page, patched}
use Rattle.page_store.specs.declared.commit.NewPage.{NewPage}
use Rattle.tree_nodes.specs.Tree.{Tree, Others, page, leaf, branch, none, other, OldPages}
use Rattle.tree_nodes.specs.Valid.{IsValid, IsValidRow, others_high}
use Rattle.tree_pages.specs.Written.{IsWritten, ArePut, AllFit, RowFits, AddsTree, owned_nodes}
use Rattle.tree_pages.specs.Reached.{times}
use Rattle.tree_pages.proofs.Counted.{one_if, times_first, fewer}
use Rattle.tree_pages.proofs.AddedPages.{written_count}

-- ---- bytes

pub others_stay : (pages : List NewPage) (old : ℕ → List ℕ) (m : ℕ) → times m (numbers pages) ≡ 0 → patched pages old m ≡ old m
others_stay [] old m h = refl
others_stay (new ∷ pages) old m h = others_stay pages (put_page new old) m (omega (arith, h)) ∙ elsewhere (m == new.number) (times m (numbers pages)) h
  where
    elsewhere : (here : Bool) (k : ℕ) → one_if here + k ≡ 0 → (if here then new.bytes else old m) ≡ old m
    elsewhere true k h = absurd (omega (arith, h))
    elsewhere false k h = refl

put_here : (new : NewPage) (old : ℕ → List ℕ) → put_page new old new.number ≡ new.bytes
put_here new old = rw (eq-eqb new.number new.number refl) refl

pub pages_are_put : (pages : List NewPage) (old : ℕ → List ℕ) → ((m : ℕ) → times m (numbers pages) ≤ 1) → ArePut (patched pages old) pages
pages_are_put [] old h = tt
pages_are_put (new ∷ pages) old h = (
  others_stay pages (put_page new old) new.number (let once = h new.number in let first = times_first new.number (numbers pages) in omega (arith, once, first)) ∙ put_here new old,
  pages_are_put pages (put_page new old) (λ m. fewer (one_if (m == new.number)) (times m (numbers pages)) (h m)),
)

-- ---- numbers

pub all_used : (given : List ℕ) (generation level : ℕ) (new : List NewPage) (tree : Tree) (n : ℕ) → length given ≡ owned_nodes tree → AddsTree given generation level [] new tree n → IsWritten generation level tree n new × (numbers new ≡ given)
all_used given generation level new tree n count (more, adds, written) =
    let many : length more ≡ length given = written_count tree generation level n more written ∙ sym count in (
      subst (λ (pages : List NewPage). IsWritten generation level tree n pages) (sym adds.pages) written,
      ap numbers adds.pages ∙ adds.numbered ∙ ap (λ (k : ℕ). take k given) many ∙ take-length given,
    )

-- ---- trees that fit

mutual
  pub valid_fits : (tree : Tree) (old : OldPages) (level : ℕ) (low : List ℕ) (high : Option (List ℕ)) → IsValid old level tree low high → AllFit level tree
  valid_fits (page n) old level low high v = tt
  valid_fits (leaf pairs) old zero low high v = (v.1, v.3)
  valid_fits (leaf pairs) old (suc level) low high v = absurd v
  valid_fits (branch tree others) old zero low high v = absurd v
  valid_fits (branch tree others) old (suc level) low high v = (valid_fits tree old level low (others_high others high) v.0, row_fits others old level low high v.1, v.2)

  row_fits : (others : Others) (old : OldPages) (level : ℕ) (low : List ℕ) (high : Option (List ℕ)) → IsValidRow old level others low high → RowFits level others
  row_fits none old level low high v = tt
  row_fits (other key tree others) old level low high v = (valid_fits tree old level key (others_high others high) v.3, row_fits others old level key high v.4)
