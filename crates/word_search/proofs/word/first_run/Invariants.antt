use Rattle.std.proofs.Common.{◌≡◌, take, false}
use Rattle.std.specs.List.{list_any}
use Rattle.host_types.specs.Words.{is_gap}
use Rattle.word_search.proofs.word.first_run.Given as goal

abbrev pub invariant-loop-place : goal.invariant-loop-place
invariant-loop-place l = list_any is_gap (take l.place l.bytes) ≡ false
