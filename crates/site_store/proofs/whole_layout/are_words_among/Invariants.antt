use Rattle.std.proofs.Common.{◌≡◌, [], Some, take}
use Rattle.std.specs.Prelude.{All}
use Rattle.page_store.specs.Batch.{value_at}
use Rattle.site_records.specs.Keys.{word_key}
use Rattle.site_store.proofs.whole_layout.are_words_among.Given as goal

abbrev pub invariant-loop-word : goal.invariant-loop-word
invariant-loop-word l = (l.read ≡ l.fn.read) × All (λ w. value_at l.fn.read.0 (word_key w l.selector) ≡ Some []) (take l.word-index l.words)
