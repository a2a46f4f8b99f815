use Rattle.std.proofs.Common.{◌≡◌, drop}
use Rattle.folder_import.specs.Parts.{title_in}
use Rattle.folder_import.proofs.found_parts.title_in.Given as goal

abbrev pub invariant-loop-one : goal.invariant-loop-one
invariant-loop-one l = title_in (drop l.one-index l.titles) l.selector l.name ≡ title_in l.titles l.selector l.name
