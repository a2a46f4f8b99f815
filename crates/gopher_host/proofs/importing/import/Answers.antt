use Rattle.std.proofs.Common.{inl, inr, refl}
use Rattle.gopher_host.specs.Faults.{memory_fault}
use Rattle.gopher_host.proofs.importing.import.Goals as goal

pub returns : goal.returns
returns g c = elim c.print_import.ensures [
  | inl all ↦ inl (c.in_ok-top.top, c.in_ok-read.field-0, c.in_ok-top.ensures.named, c.in_ok-read.ensures.walked, all)
  | inr other ↦ inr (elim other [
    | inl full ↦ inl full
    | inr none ↦ inr (memory_fault, none.0, inl refl, none.1)
  ])
]
