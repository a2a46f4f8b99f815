use Rattle.std.proofs.Common.{◌≡◌, take, true}
use Rattle.std.specs.List.{list_all}
use Rattle.host_types.specs.Items.{is_typed_entry}
use Rattle.host_types.proofs.typed.valid_entries.Given as goal

abbrev pub invariant-loop-entry : goal.invariant-loop-entry
invariant-loop-entry l = list_all is_typed_entry (take l.entry-index l.entries) ≡ true
