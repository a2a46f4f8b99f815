use Rattle.std.proofs.Common.{◌≡◌, ◌++◌, length}
use Rattle.std.specs.Option.{option_copied}
use Rattle.folder_import.specs.Menus.{lines_in, titles_in}
use Rattle.folder_import.proofs.menus.titles_in.Given as goal

abbrev pub invariant-loop-line : goal.invariant-loop-line
invariant-loop-line l = l.titles.items ++ titles_in l.top l.folder l.lines ≡ titles_in l.top l.folder (lines_in (option_copied l.map))

abbrev pub decreases-loop-line : goal.decreases-loop-line
decreases-loop-line l = length l.lines
