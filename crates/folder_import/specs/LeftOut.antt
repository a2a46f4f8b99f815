-- The lines that tell what is left out.
use Rattle.std.specs.Prelude.{ℕ, List, [], ◌∷◌, ◌++◌, codes, decimal}
use Rattle.gophermap.specs.declared.fault.LineFault.{LineFault}
use Rattle.gophermap.specs.declared.fault.LineFault.TheVariants as lines
use Rattle.common_types.specs.PrintedNames.{refused_name}
use Rattle.common_types.specs.Shown.{shown}
use Rattle.folder_import.specs.declared.fault.ImportFault.{ImportFault}
use Rattle.folder_import.specs.declared.fault.ImportFault.TheVariants as faults
use Rattle.folder_import.specs.declared.found.Reason.{Reason}
use Rattle.folder_import.specs.declared.found.Reason.TheVariants as reasons

-- a path, behind it why
abbrev pub left_out : List ℕ → List ℕ → List ℕ
left_out path why = codes "import: " ++ (shown path ++ (codes ": " ++ (why ++ codes "\n")))

-- the path of what is found in a folder
abbrev pub path_of : List ℕ → List ℕ → List ℕ
path_of folder name = folder ++ 47 ∷ name

abbrev pub why_of : Reason → List ℕ
why_of (reasons.Refused refused) = refused_name refused
why_of reasons.Kind = codes "Kind"
why_of reasons.Unread = codes "NoFile"
why_of reasons.Unsaid = codes "not UTF-8"

abbrev pub import_why : ImportFault → List ℕ
import_why (faults.Name refused) = refused_name refused
import_why faults.Place = codes "host without its port"
import_why faults.Unsaid = codes "not UTF-8"
import_why faults.Memory = codes "memory"

-- which field of a line is refused
abbrev pub line_field : LineFault → List ℕ
line_field lines.Order = []
line_field lines.Fields = []
line_field lines.Kind = []
line_field (lines.Title refused) = codes "title: "
line_field (lines.Selector refused) = codes "selector: "
line_field (lines.Link refused) = codes "link: "
line_field (lines.Host refused) = codes "host: "
line_field lines.Port = []

abbrev pub line_name : LineFault → List ℕ
line_name lines.Order = codes "order"
line_name lines.Fields = codes "fields"
line_name lines.Kind = codes "type"
line_name (lines.Title refused) = refused_name refused
line_name (lines.Selector refused) = refused_name refused
line_name (lines.Link refused) = refused_name refused
line_name (lines.Host refused) = refused_name refused
line_name lines.Port = codes "port"

-- of a line by its number
abbrev pub at_line : ℕ → List ℕ → List ℕ
at_line number why = codes "line " ++ (decimal number ++ (codes ": " ++ why))
