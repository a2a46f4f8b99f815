use Rattle.std.proofs.Common.{◌≡◌, take, true}
use Rattle.std.specs.List.{list_all}
use Rattle.common_types.specs.Names.{is_visible}
use Rattle.common_types.proofs.names.is_word.Given as goal

abbrev pub invariant-loop-byte : goal.invariant-loop-byte
invariant-loop-byte l = list_all is_visible (take l.byte-index l.bytes) ≡ true
