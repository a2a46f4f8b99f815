use Rattle.std.proofs.Common.{◌≡◌, ◌++◌, take}
use Rattle.site_records.specs.Layout.{word_pairs}
use Rattle.site_pairs.proofs.item_pairs.put_words.Given as goal

abbrev pub invariant-loop-word : goal.invariant-loop-word
invariant-loop-word l = l.pairs.items ≡ l.fn.pairs.items ++ word_pairs l.selector (take l.word-index l.words)
