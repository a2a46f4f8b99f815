use Rattle.std.proofs.Common.{◌≡◌, ◌++◌, map}
use Rattle.socket_wires.specs.Rounds.{IsFresh}
use Rattle.socket_wires.specs.Taking.{had}
use Rattle.socket_wires.proofs.serving.accept.Given as goal

-- as many as were accepted, and no other was
abbrev pub invariant-loop : goal.invariant-loop
invariant-loop l = record {
  fresh : IsFresh l.counter l.connections.items;
  taken : l.gate.taken.calls ≡ l.fn.gate.taken.calls ++ map had l.connections.items;
}
