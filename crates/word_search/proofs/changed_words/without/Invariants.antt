use Rattle.std.proofs.Common.{◌≡◌, take}
use Rattle.word_search.specs.WordChange.{dropped}
use Rattle.word_search.proofs.changed_words.without.Given as goal

abbrev pub invariant-loop-word : goal.invariant-loop-word
invariant-loop-word l = l.left ≡ dropped (take l.word-index l.words) l.others
