-- What can be wrong with the words, and the status of the program then.
use Rattle.std.specs.Prelude.{ℕ}
use Rattle.clap.specs.Words.{kind_of}
use Rattle.clap.specs.declared.error.Error.{Error}
use Rattle.clap.specs.declared.error.kind.ErrorKind.{ErrorKind}
use Rattle.clap.specs.declared.error.kind.ErrorKind.TheVariants as kind
use Rattle.command_words.specs.declared.words.Misread.{Misread}
use Rattle.command_words.specs.declared.words.Misread.TheVariants as misread

-- 0 after a help text or the version, which the user asked for
abbrev pub kind_status : ErrorKind → ℕ
kind_status kind.DisplayHelp = 0
kind_status kind.DisplayVersion = 0
kind_status _ = 2

abbrev pub status_of : Misread → ℕ
status_of (misread.Words error) = kind_status (kind_of error)
status_of misread.NotUnicode = 2
status_of misread.Incomplete = 2
status_of misread.Memory = 1

-- an error of clap's by its kind
abbrev pub misread_by : ErrorKind → Error → Misread
misread_by kind.OutOfMemory error = misread.Memory
misread_by _ error = misread.Words error

abbrev pub misread_of : Error → Misread
misread_of error = misread_by (kind_of error) error
