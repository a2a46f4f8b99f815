use Rattle.std.proofs.Common.{◌≡◌, drop}
use Rattle.folder_import.specs.Menus.{map_in}
use Rattle.folder_import.proofs.menus.map_in.Given as goal

abbrev pub invariant-loop-one : goal.invariant-loop-one
invariant-loop-one l = map_in (drop l.one-index l.found) ≡ map_in l.found
