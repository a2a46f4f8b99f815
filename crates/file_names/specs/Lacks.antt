-- Why a file can't be had, by the kind of the error that the system answers.
use Rattle.std.specs.declared.io.ErrorKind.{ErrorKind}
use Rattle.std.specs.declared.io.ErrorKind.TheVariants as kinds
use Rattle.file_names.specs.declared.lacks.Lack.{Lack}
use Rattle.file_names.specs.declared.lacks.Lack.TheVariants.{Missing, Folder, Denied, Unknown}

-- nothing has a name below what is no folder either
abbrev pub lack_of : ErrorKind → Lack
lack_of kinds.NotFound = Missing
lack_of kinds.NotADirectory = Missing
lack_of kinds.IsADirectory = Folder
lack_of kinds.PermissionDenied = Denied
lack_of kinds.ReadOnlyFilesystem = Denied
lack_of _ = Unknown
