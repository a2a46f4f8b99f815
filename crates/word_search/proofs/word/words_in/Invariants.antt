use Rattle.std.proofs.Common.{◌≡◌, ◌++◌, length}
use Rattle.host_types.specs.Words.{words_in}
use Rattle.word_search.proofs.word.words_in.Given as goal

-- what was cut off, and the words of what is left, are those of the bytes
abbrev pub invariant-loop-left : goal.invariant-loop-left
invariant-loop-left l = l.words ++ words_in l.left ≡ words_in l.bytes

abbrev pub decreases-loop-left : goal.decreases-loop-left
decreases-loop-left l = length l.left
