use Rattle.std.proofs.Common.{◌≡◌, drop}
use Rattle.std.specs.List.{list_all}
use Rattle.page_alloc.specs.LedgerState.{is_some}
use Rattle.page_alloc.proofs.pin.first_unused.Given as goal

abbrev pub invariant-loop-number : goal.invariant-loop-number
invariant-loop-number l = list_all is_some (drop l.number l.pins) ≡ list_all is_some l.pins
