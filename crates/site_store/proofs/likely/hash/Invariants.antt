use Rattle.std.proofs.Common.{◌≡◌, take}
use Rattle.site_store.specs.LikelyPlaces.{fnv_1a}
use Rattle.site_store.proofs.likely.hash.Given as goal

abbrev pub invariant-loop-byte : goal.invariant-loop-byte
invariant-loop-byte l = l.made ≡ fnv_1a (take l.byte-index l.bytes)
