use Rattle.std.proofs.Common.{◌≡◌, map, take}
use Rattle.gopher_host.specs.Kept.{removal}
use Rattle.gopher_host.proofs.removing.removals.Given as goal

-- the changes of the names so far
abbrev pub invariant-loop-name : goal.invariant-loop-name
invariant-loop-name l = l.changes.items ≡ map (λ name. removal name.now) (take l.name-index l.names)
