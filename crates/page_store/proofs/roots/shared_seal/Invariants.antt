use Rattle.std.proofs.Common.{◌≡◌, ◌+◌, ◌*◌, ◌<◌, ℕ, Some}
use Rattle.page_store.specs.Sectors.{sector}
use Rattle.page_store.specs.Roots.{seal_of}
use Rattle.page_store.proofs.roots.shared_seal.Given as goal

abbrev pub invariant-loop-k : goal.invariant-loop-k
invariant-loop-k l = (j : ℕ) → j < l.k → seal_of (8 * l.slot + j) (sector l.sectors (8 * l.slot + j)) ≡ Some l.seal
