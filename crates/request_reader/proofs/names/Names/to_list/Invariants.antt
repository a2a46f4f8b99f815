use Rattle.std.proofs.Common.{◌≡◌, map, Bor, List, ℕ}
use Rattle.request_reader.specs.RequestLine.{not_empty}
use Rattle.std.specs.Prelude.{filter}
use Rattle.request_reader.proofs.names.Names.to_list.Given as goal

abbrev pub invariant-loop-name : goal.invariant-loop-name
invariant-loop-name l = l.list ≡ filter not_empty (map (λ (x : Bor (List ℕ)). x.now) l.yielded)
