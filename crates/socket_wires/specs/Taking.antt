-- Connections that are taken of a listener.
use Rattle.std.specs.Prelude.{◌≡◌, ◌≢◌, ◌≤◌, ◌<◌, ℕ, List, [], ◌∷◌, ◌++◌, length, map}
use Rattle.std.specs.Duration.{as_nanos}
use Rattle.std.specs.declared.net.socket_addr.SocketAddr.{SocketAddr}
use Rattle.turns.specs.declared.connection.Connection.{Connection}
use Rattle.socket_wires.specs.declared.gate.Taken.{Taken}
use Rattle.socket_wires.specs.declared.gate.Taken.TheVariants.{Had, NotSetUp, NotHad}
use Rattle.socket_wires.specs.declared.serving.ServeFault.{ServeFault}
use Rattle.socket_wires.specs.declared.serving.ServeFault.TheVariants.{Net, Memory, Failed}
use Rattle.socket_wires.specs.declared.socket_wire.SocketWire.{SocketWire}

-- A wire of which no call was made, and on which a read or a write that has waited for 30 seconds fails.
pub record IsFreshWire (wire : SocketWire) : Type 0 where
  pub unused : wire.made.calls ≡ []
  pub reads : as_nanos wire.read_patience ≡ 30_000_000_000
  pub writes : as_nanos wire.write_patience ≡ 30_000_000_000

-- no connection was had, or it could not be set up
abbrev pub IsMissed : Taken → Type 0
IsMissed (Had from) = ⊥
IsMissed (NotSetUp from) = Unit {0}
IsMissed NotHad = Unit {0}

-- how a connection was taken
abbrev pub had : Connection SocketWire → Taken
had connection = Had connection.wire.from

-- Fewer connections were had than so many: the next was missed; or, where memory is lacking, the last that was had found none.
abbrev pub TooFewCame : ℕ → ServeFault → List Taken → Type 0
TooFewCame together Net taken = (before : List SocketAddr) × (last : Taken) × (length before < together) × IsMissed last × (taken ≡ map Had before ++ last ∷ [])
TooFewCame together Memory taken = (before : List SocketAddr) × (length before ≤ together) × (before ≢ []) × (taken ≡ map Had before)
TooFewCame together Failed taken = ⊥
