-- One page's use after another change of it.
use Rattle.std.proofs.Common.{◌≡◌, ◌<◌, ℕ, Bool, true, false, cond, refl, ap, ◌∙◌, subst, sym}
use Rattle.std.specs.Prelude.{◌==◌}
use Rattle.page_alloc.specs.Runs.{Use, OneChanges}

overwritten : (t : Bool) (a b x : Use) → cond t b (cond t a x) ≡ cond t b x
overwritten true a b x = refl
overwritten false a b x = refl

-- the later change decides
pub changes_twice : (n m page : ℕ) (a b : Use) (old mid new : ℕ → Use) → m ≡ n → OneChanges n page a old mid → OneChanges m page b mid new → OneChanges n page b old new
changes_twice n m page a b old mid new same first second =
    λ p lt. second p (subst (λ k. p < k) (sym same) lt) ∙ ap (λ u. cond (p == page) b u) (first p lt) ∙ overwritten (p == page) a b (old p)
