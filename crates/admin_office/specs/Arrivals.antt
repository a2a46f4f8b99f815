-- Whether somebody came to a gate.
use Rattle.std.specs.Prelude.{Option, Some, None}
use Rattle.admin_office.specs.declared.gate_log.Arrival.{Arrival}
use Rattle.admin_office.specs.declared.gate_log.Arrival.TheVariants.{Came, Nobody}

abbrev pub arrival_of : {W : Type 0} → Option W → Arrival
arrival_of (Some wire) = Came
arrival_of None = Nobody
