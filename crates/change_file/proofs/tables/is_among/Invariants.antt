use Rattle.std.proofs.Common.{◌≡◌, take, false, bytes_eq}
use Rattle.std.specs.List.{list_any}
use Rattle.change_file.proofs.tables.is_among.Given as goal

abbrev pub invariant-loop-one : goal.invariant-loop-one
invariant-loop-one l = list_any (λ k. bytes_eq k.now l.key) (take l.one-index l.keys) ≡ false
