use Rattle.std.proofs.Common.{◌≡◌, ℕ, ◌+◌, List, [], ◌∷◌, ◌++◌, take, option_map, arith, sym, subst}
use Rattle.std.proofs.lemmas.Grind.{common_steps}
use Rattle.site_store.specs.Searching.{IsLongest}
use Rattle.site_store.proofs.AskedWords.{next_longest}
use Rattle.site_store.proofs.longest.longest.Goals as goal

pub loop-word-preserved : goal.loop-word-preserved
loop-word-preserved c =
    let i = c.loop-word.word-index in
    let word : List ℕ = c.word-item.result in
    let more : take (i + 1) c.args.words.now ≡ take i c.args.words.now ++ word ∷ [] = grind (arith, common_steps) in
    let next = next_longest (take i c.args.words.now) (option_map (λ w. w.now) c.loop-word.longest) word c.loop-word.invariant in
    subst (λ (l : List (List ℕ)). IsLongest l c.longer.result.now) (sym more) (subst (λ (w : List ℕ). IsLongest (take i c.args.words.now ++ word ∷ []) w) (sym c.longer.ensures) next)
