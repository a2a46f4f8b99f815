use Rattle.std.proofs.Common.{◌≡◌, ◌+◌, ◌++◌, string_bytes}
use Rattle.std.specs.Option.{option_copied}
use Rattle.folder_import.specs.Menus.{entries_in, lines_in, told_in}
use Rattle.folder_import.proofs.menus.menu_entries.Given as goal

-- what the lines so far gave, and what those behind them give
abbrev pub invariant-loop-number : goal.invariant-loop-number
invariant-loop-number l =
    record {
      entries : l.entries.items ++ entries_in l.top l.folder l.listing.items l.lines ≡ entries_in l.top l.folder l.listing.items (lines_in (option_copied l.map));
      told : string_bytes l.left_out ++ told_in l.top l.folder (l.number + 1) l.lines ≡ string_bytes l.fn.left_out ++ told_in l.top l.folder 1 (lines_in (option_copied l.map));
    }
