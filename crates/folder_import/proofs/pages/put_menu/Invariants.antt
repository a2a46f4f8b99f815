use Rattle.std.proofs.Common.{◌≡◌, ◌++◌, map}
use Rattle.std.specs.List.{range_with_len}
use Rattle.change_file.specs.declared.fault.FileChange.TheVariants.{Change}
use Rattle.folder_import.specs.Pages.{page_change}
use Rattle.folder_import.proofs.pages.put_menu.Given as goal

-- the pages before this one are put
abbrev pub invariant-loop-number : goal.invariant-loop-number
invariant-loop-number l = l.writer ≡ l.fn.writer ++ map (λ c. Change c) (map (page_change l.at l.title l.entries) (range_with_len 0 l.number))
