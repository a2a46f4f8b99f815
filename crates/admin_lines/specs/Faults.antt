-- What is told of a request that is refused, without the LF.
use Rattle.std.specs.Prelude.{ℕ, List, codes}
use Rattle.admin_lines.specs.declared.fault.RequestFault.{RequestFault}
use Rattle.admin_lines.specs.declared.fault.RequestFault.TheVariants.{LongLine, NoRequest, NoLength, TooMuch, Cut, Late}

abbrev pub request_line : RequestFault → List ℕ
request_line LongLine = codes "request: LongLine"
request_line NoRequest = codes "request: NoRequest"
request_line NoLength = codes "request: NoLength"
request_line TooMuch = codes "request: TooMuch"
request_line Cut = codes "request: Cut"
request_line Late = codes "request: Late"
