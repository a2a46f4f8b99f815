use Rattle.std.proofs.Common.{◌≡◌, ◌++◌, List}
use Rattle.folder_import.specs.declared.importing.Import.{Import}
use Rattle.folder_reader.specs.Walked.{IsEmpty, FolderReading}
use Rattle.folder_reader.proofs.Walks.{IsOnTheWay}
use Rattle.folder_reader.proofs.walking.import_all.Given as goal

-- what was read so far is the front of a walk
abbrev pub invariant-loop-turn : goal.invariant-loop-turn
invariant-loop-turn l =
    (start : Import) × (so_far : List FolderReading) × IsEmpty start × (l.log.folders ≡ l.fn.log.folders ++ so_far) × IsOnTheWay l.folder l.top start so_far l.left.items l.out
