-- What the system was asked about names of files, and what it answered.
use Rattle.std.specs.Prelude.{ℕ, Bool, List}
use Rattle.file_names.specs.declared.lacks.Lack.{Lack}
use Rattle.file_names.specs.declared.names.Look.{Look}
use Rattle.file_names.specs.declared.names.NameKind.{NameKind}
use Rattle.file_names.specs.declared.names.NameKind.TheVariants as kinds

-- It was asked whether a file of this name is there; why the file of this name can't be had to read and write; to give the file of this name another one, and did it or didn't; and to make sure of the names in the folder that this file is in, and did or didn't.
pub data NameCall : Type 0 where
  Looked : List ℕ → Look → NameCall
  Lacked : List ℕ → Lack → NameCall
  Renamed : List ℕ → List ℕ → Bool → NameCall
  Synced : List ℕ → Bool → NameCall

-- a call by its kind and the names that it has
abbrev pub call_of : NameKind → List ℕ → List ℕ → NameCall
call_of (kinds.Looked answer) name other = Looked name answer
call_of (kinds.Lacked answer) name other = Lacked name answer
call_of (kinds.Renamed done) name other = Renamed name other done
call_of (kinds.Synced done) name other = Synced name done
