-- What is noted of a folder that was read.
use Rattle.std.specs.Option.{option_map}
use Rattle.folder_reader.specs.Walked.{FolderReading, reading_of}
use Rattle.folder_reader.specs.declared.folder_log.ReadFolder.{ReadFolder}

abbrev pub noted : ReadFolder → FolderReading
noted read = reading_of read.path (option_map (λ all. all.items) read.found)
