-- What comes of the words, the first of which is the program's name.
use Rattle.std.specs.Prelude.{◌≡◌, ◌≢◌, false, List, Option, IsSomeAnd, Result, Ok, Err, ⊤}
use Rattle.clap.specs.Words.{Row, Text, kind_of, subcommand_of, takes}
use Rattle.clap.specs.declared.error.kind.ErrorKind.TheVariants.{OutOfMemory}
use Rattle.command_words.specs.CommandLine.{gopher_host}
use Rattle.command_words.specs.Tasks.{AsksFor}
use Rattle.command_words.specs.declared.words.Misread.{Misread}
use Rattle.command_words.specs.declared.words.Misread.TheVariants as misread
use Rattle.command_words.specs.declared.words.Task.{Task}

-- the command that the words name, and what is found behind it
abbrev pub command_in : List Text → Option (Text × List Row)
command_in words = subcommand_of gopher_host words

-- The task that the words ask for. Words are wrong only where the command line doesn't take them, and incomplete only where the command that they name asks for no task.
abbrev pub IsReadAs : List Text → Result Task Misread → Type 0
IsReadAs words (Ok task) = IsSomeAnd (command_in words) (λ found. AsksFor found.0 found.1 task)
IsReadAs words (Err (misread.Words error)) =
    (kind_of error ≢ OutOfMemory) × (takes gopher_host words ≡ false)
IsReadAs words (Err misread.NotUnicode) = ⊥
IsReadAs words (Err misread.Incomplete) =
    IsSomeAnd (command_in words) (λ found. (task : Task) → ¬ (AsksFor found.0 found.1 task))
IsReadAs words (Err misread.Memory) = ⊤
