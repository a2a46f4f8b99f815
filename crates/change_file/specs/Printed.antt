-- What is printed of a file of changes, without the LF.
use Rattle.std.specs.Prelude.{ℕ, List, ◌++◌, codes, decimal}
use Rattle.change_file.specs.declared.fault.ChangeFileFault.{ChangeFileFault}
use Rattle.change_file.specs.declared.fault.ChangeFileFault.TheVariants.{NotToml, Table, Memory}

-- so many changes were made
abbrev pub applied_line : ℕ → List ℕ
applied_line count = codes "applied " ++ decimal count

-- a file says no changes
abbrev pub file_line : ChangeFileFault → List ℕ
file_line NotToml = codes "file: not TOML"
file_line (Table number) = codes "file: change " ++ decimal number
file_line Memory = codes "memory"
