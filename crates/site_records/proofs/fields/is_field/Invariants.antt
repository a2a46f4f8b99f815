use Rattle.std.proofs.Common.{◌≡◌, take, false}
use Rattle.std.specs.List.{list_any}
use Rattle.host_types.specs.Names.{is_forbidden}
use Rattle.site_records.proofs.fields.is_field.Given as goal

abbrev pub invariant-loop-byte : goal.invariant-loop-byte
invariant-loop-byte l = list_any is_forbidden (take l.byte-index l.bytes) ≡ false
