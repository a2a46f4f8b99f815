use Rattle.std.proofs.Common.{◌≡◌, ◌+◌, ◌++◌, ◌∷◌, [], ℕ, suc, List, sym, ap, ◌∙◌, arith}
use Rattle.page_store.specs.Flat.{numbers_from}
use Rattle.filled_images.proofs.PageNumbers.{numbers_more}
use Rattle.filled_images.proofs.making.page_numbers.Goals as goal

pub loop-n-preserved : goal.loop-n-preserved
loop-n-preserved c =
    let next : suc c.loop-n.n ≡ c.loop-n.n + 1 = omega arith in
    c.in_ok-push.ensures.items ∙ ap (λ (l : List ℕ). l ++ (2 + c.loop-n.n) ∷ []) c.loop-n.invariant ∙ sym (numbers_more 2 c.loop-n.n) ∙ ap (λ (k : ℕ). numbers_from 2 k) next
