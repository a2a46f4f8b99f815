-- The pair after a key, by what stands under the pages on its way.
use Rattle.std.proofs.Common.{◌≡◌, ℕ, List, Option, Some, None, sym, ap, ◌∙◌}
use Rattle.std.specs.Option.{option_or}
use Rattle.page_store.specs.Pages.{Pair}
use Rattle.page_store.specs.Batch.{pair_after}
use Rattle.page_store.specs.Content.{Found, Bounds}
use Rattle.cow_tree.specs.Ways.{IsOnWay}

abbrev some_pair : Pair → Option Pair
some_pair p = Some p

module _ (a : ℕ → List ℕ) (bounds : Bounds) (level : ℕ) (key : List ℕ) (whole : Found) (around : ℕ × Option ℕ) (w : IsOnWay a bounds level key whole around) where
  -- it stands under the first page
  pub pair_here : (p : Pair) → some_pair p ≡ pair_after w.here.pairs key → some_pair p ≡ pair_after whole.pairs key
  pair_here p e = sym (w.after ∙ ap (λ (o : Option Pair). option_or o w.rest) (sym e))

  -- not there, so that the rest decides
  pub pair_elsewhere : None ≡ pair_after w.here.pairs key → pair_after whole.pairs key ≡ w.rest
  pair_elsewhere e = w.after ∙ ap (λ (o : Option Pair). option_or o w.rest) (sym e)
