use Rattle.std.proofs.Common.{◌≡◌, take, true}
use Rattle.std.specs.List.{list_all}
use Rattle.host_types.specs.Words.{is_among}
use Rattle.word_search.proofs.matching.holds.Given as goal

abbrev pub invariant-loop-word : goal.invariant-loop-word
invariant-loop-word l = list_all (is_among l.there) (take l.word-index l.asked) ≡ true
