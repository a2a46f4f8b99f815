-- A device stays the same over one call and then another.
use Rattle.std.proofs.Common.{◌∙◌, IsTrue, sym, subst}
use Rattle.sector_device.specs.Device.{State}
use Rattle.sector_device.specs.Effects.{IsSameDevice}

pub same_after : (a b c : State) → IsSameDevice a b → IsSameDevice b c → IsSameDevice a c
same_after a b c first second = record { size = second.size ∙ first.size; honest = second.honest ∙ first.honest }

pub still_honest : (a b : State) → IsSameDevice a b → IsTrue a.honest → IsTrue b.honest
still_honest a b same honest = subst IsTrue (sym same.honest) honest
