use Rattle.std.proofs.Common.{◌∙◌}
use Rattle.word_search.specs.WordChange.{dropped}
use Rattle.site_pairs.proofs.ShortWords.{short_dropped}
use Rattle.site_pairs.proofs.edits.put_replacement.Goals as goal

pub pairs_with-requires-clause-words : goal.pairs_with-requires-clause-words
pairs_with-requires-clause-words c = short_dropped c.in_ok-words.words.drop c.args.replacement.now.before c.args.replacement.now.after (c.in_ok-words.ensures.drop ∙ (λ i. dropped (c.in_ok-old_words.ensures i) (c.in_ok-new_words.ensures i)))

pub pairs_with-requires-2-clause-words : goal.pairs_with-requires-2-clause-words
pairs_with-requires-2-clause-words c = short_dropped c.in_ok-words.words.add c.args.replacement.now.after c.args.replacement.now.before (c.in_ok-words.ensures.add ∙ (λ i. dropped (c.in_ok-new_words.ensures i) (c.in_ok-old_words.ensures i)))
