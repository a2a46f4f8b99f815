use Rattle.page_store.specs.Batch.{is_pair}
use Rattle.page_store.proofs.Places.{all_at}
use Rattle.page_store.proofs.DecodedPages.{pair_sizes}
use Rattle.page_store.proofs.batch.next_pair.Goals as goal

pub returns-then-eq-clause-value : goal.returns-then-eq-clause-value
returns-then-eq-clause-value c = (pair_sizes c.pair-item.result (all_at is_pair c.args.pairs.now c.loop-pair.pair-index c.pair-item.result c.requires c.loop-pair-test.true c.pair-item.is)).1

pub returns-then-eq-clause-key : goal.returns-then-eq-clause-key
returns-then-eq-clause-key c = (pair_sizes c.pair-item.result (all_at is_pair c.args.pairs.now c.loop-pair.pair-index c.pair-item.result c.requires c.loop-pair-test.true c.pair-item.is)).0
