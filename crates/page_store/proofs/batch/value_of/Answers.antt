use Rattle.std.proofs.Common.{◌≤◌, List, ℕ, length, sym, subst}
use Rattle.page_store.specs.Batch.{is_pair}
use Rattle.page_store.proofs.Places.{all_at}
use Rattle.page_store.proofs.DecodedPages.{pair_sizes}
use Rattle.page_store.proofs.batch.value_of.Goals as goal

pub returns-then-eq-clause-size : goal.returns-then-eq-clause-size
returns-then-eq-clause-size c =
    let sizes = pair_sizes c.pair-item.result (all_at is_pair c.args.pairs.now c.loop-pair.pair-index c.pair-item.result c.requires c.loop-pair-test.true c.pair-item.is) in
    subst (λ (l : List ℕ). length l ≤ 1024) (sym c.value.ensures) sizes.1
