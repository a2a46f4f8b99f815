use Rattle.std.proofs.Common.{◌≡◌, length}
use Rattle.host_types.specs.Words.{words_in}
use Rattle.word_search.specs.Gathered.{gathered}
use Rattle.word_search.proofs.word_list.gather.Given as goal

abbrev pub invariant-loop-left : goal.invariant-loop-left
invariant-loop-left l = gathered l.words (words_in l.left) ≡ gathered l.fn.words (words_in l.bytes)

abbrev pub decreases-loop-left : goal.decreases-loop-left
decreases-loop-left l = length l.left
