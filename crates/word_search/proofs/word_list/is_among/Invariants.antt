use Rattle.std.proofs.Common.{◌≡◌, take, false}
use Rattle.host_types.specs.Words.{is_among}
use Rattle.word_search.proofs.word_list.is_among.Given as goal

abbrev pub invariant-loop-other : goal.invariant-loop-other
invariant-loop-other l = is_among (take l.other-index l.words) l.word ≡ false
