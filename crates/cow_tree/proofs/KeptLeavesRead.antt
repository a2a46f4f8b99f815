-- The leaf that a walk to the next pair ends at.
use Rattle.std.proofs.Common.{◌≡◌, ℕ, true, false, List, [], ◌∷◌, Option, Some, None, refl, sym, ap, subst, ◌∙◌, eq-eqb, ◌⊎◌, inl, inr}
use Rattle.std.proofs.Props.{props}
use mathlib.Core.Logic.{∥∥₁_elim}
use Rattle.std.specs.Option.{option_or, is_some}
use Rattle.page_store.specs.Pages.{Pair, leaf_of}
use Rattle.page_store.specs.Batch.{pair_after, is_map}
use Rattle.page_store.specs.Content.{Found, Bounds, place_in, walk}
use Rattle.tree_nodes.proofs.WalksWithinBounds.{some_is}
use Rattle.cow_tree.specs.KeptLeaves.{IsPart, IsLeaf, IsNextLeaf, IsKeptLeaf, has_next}
use Rattle.cow_tree.specs.Ways.{IsOnWay}
use Rattle.cow_tree.proofs.Runs.{run_again, whole_run}
use Rattle.cow_tree.proofs.RunsTell.{run_tells}

-- a leaf alone is a tree
pub leaf_next : (a : ℕ → List ℕ) (bounds : Bounds) (page : ℕ) (key : List ℕ) (found : Found) (kept leaf : List Pair) → leaf_of (place_in bounds 0 page) [] None (a page) ≡ Some leaf → kept ≡ leaf → walk a bounds 0 page [] None ≡ Some found
    → IsNextLeaf a bounds key found kept
leaf_next a bounds page key found kept leaf e is w =
    let w1 : Some (record { pages = page ∷ []; pairs = leaf }) ≡ Some found = rw e at w in
    subst (λ (l : List Pair). IsNextLeaf a bounds key found l) (sym is)
    (subst (λ (x : Found). IsNextLeaf a bounds key x leaf) (some_is (record { pages = page ∷ []; pairs = leaf }) found w1) (record {
      is_leaf = record { page = page; reached = rw (eq-eqb page page refl) refl; pairs_are = e; run = whole_run leaf };
      after = refl;
    }))

-- a leaf of a part is one of the whole
pub leaf_within : (a : ℕ → List ℕ) (bounds : Bounds) (part whole : Found) (leaf : List Pair) → IsPart part whole → IsLeaf a bounds part leaf → IsLeaf a bounds whole leaf
leaf_within a bounds part whole leaf p l = record {
  page = l.page;
  reached = p.pages l.page l.reached;
  pairs_are = l.pairs_are;
  run = run_again leaf part.pairs whole.pairs l.run p.run;
}

or_first : (o rest : Option Pair) → is_some o ≡ true → option_or o rest ≡ o
or_first None rest h = absurd (cc h)
or_first (Some p) rest h = refl

or_second : (o rest : Option Pair) → is_some o ≡ false → option_or o rest ≡ rest
or_second None rest h = refl
or_second (Some p) rest h = absurd (cc h)

none_is : (o : Option Pair) → is_some o ≡ false → o ≡ None
none_is None h = refl
none_is (Some p) h = absurd (cc h)

module _ (a : ℕ → List ℕ) (bounds : Bounds) (level : ℕ) (key : List ℕ) (whole : Found) (around : ℕ × Option ℕ) (w : IsOnWay a bounds level key whole around) (leaf : List Pair) where
  -- the pair stands under the first page
  pub next_here : IsNextLeaf a bounds key w.here leaf → is_some (pair_after leaf key) ≡ true → IsNextLeaf a bounds key whole leaf
  next_here l some = record {
    is_leaf = leaf_within a bounds w.here whole leaf w.part l.is_leaf;
    after = w.after ∙ or_first (pair_after w.here.pairs key) w.rest (ap is_some l.after ∙ some) ∙ l.after;
  }

  -- there is none
  pub next_nowhere : IsNextLeaf a bounds key w.here leaf → is_some (pair_after leaf key) ≡ false → w.rest ≡ None → IsNextLeaf a bounds key whole leaf
  next_nowhere l none rest = record {
    is_leaf = leaf_within a bounds w.here whole leaf w.part l.is_leaf;
    after = w.after ∙ or_second (pair_after w.here.pairs key) w.rest (ap is_some l.after ∙ none) ∙ rest ∙ sym (none_is (pair_after leaf key) none);
  }

  -- it stands under the second page
  pub next_there : (first : List Pair) (found : Found) → IsNextLeaf a bounds key w.here first → is_some (pair_after first key) ≡ false → IsPart found whole → pair_after found.pairs key ≡ w.rest → IsNextLeaf a bounds key found leaf
      → IsNextLeaf a bounds key whole leaf
  next_there first found f none part rest l = record {
    is_leaf = leaf_within a bounds found whole leaf part l.is_leaf;
    after = w.after ∙ or_second (pair_after w.here.pairs key) w.rest (ap is_some f.after ∙ none) ∙ sym rest ∙ l.after;
  }

-- ---- what is kept

pub nothing_kept : (a : ℕ → List ℕ) (bounds : Bounds) (tree : Found) (kept : List Pair) → kept ≡ [] → IsKeptLeaf a bounds tree kept
nothing_kept a bounds tree kept none = ∣ inl none ∣₁

pub leaf_kept : (a : ℕ → List ℕ) (bounds : Bounds) (tree : Found) (kept : List Pair) → IsLeaf a bounds tree kept → IsKeptLeaf a bounds tree kept
leaf_kept a bounds tree kept leaf = ∣ inr leaf ∣₁

tells : (a : ℕ → List ℕ) (bounds : Bounds) (tree : Found) (kept : List Pair) (key : List ℕ) → is_map tree.pairs ≡ true → has_next kept key ≡ true → (kept ≡ []) ⊎ IsLeaf a bounds tree kept → pair_after tree.pairs key ≡ pair_after kept key
tells a bounds tree kept key rising h (inl none) = let n = ap (λ (l : List Pair). has_next l key) none in absurd (cc (n, h))
tells a bounds tree kept key rising h (inr leaf) = run_tells tree.pairs kept key rising leaf.run h

-- Where the kept leaf of a tree has the pair after a key, it is that of the tree.
pub kept_tells : (a : ℕ → List ℕ) (bounds : Bounds) (tree : Found) (kept : List Pair) (key : List ℕ) → is_map tree.pairs ≡ true → IsKeptLeaf a bounds tree kept → has_next kept key ≡ true → pair_after tree.pairs key ≡ pair_after kept key
kept_tells a bounds tree kept key rising is h =
    let same : IsProp (pair_after tree.pairs key ≡ pair_after kept key) = hlevel props in
    ∥∥₁_elim is same (tells a bounds tree kept key rising h)
