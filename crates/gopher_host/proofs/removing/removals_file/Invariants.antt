use Rattle.std.proofs.Common.{◌≡◌, map, take}
use Rattle.gopher_host.specs.Kept.{removal}
use Rattle.gopher_host.proofs.removing.removals_file.Given as goal

-- what removes the items of the names so far
abbrev pub invariant-loop-name : goal.invariant-loop-name
invariant-loop-name l = l.file ≡ map (λ name. removal name.now) (take l.name-index l.names)
