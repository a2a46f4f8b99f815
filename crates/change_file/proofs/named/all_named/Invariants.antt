use Rattle.std.proofs.Common.{◌≡◌, Ok}
use Rattle.change_file.specs.Named.{all_named}
use Rattle.change_file.proofs.named.all_named.Given as goal

abbrev pub invariant-loop-one : goal.invariant-loop-one
invariant-loop-one g l = all_named l.yielded ≡ Ok l.all.items
