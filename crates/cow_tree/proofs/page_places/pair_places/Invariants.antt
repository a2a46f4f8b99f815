use Rattle.std.proofs.Common.{◌≡◌, length}
use Rattle.page_store.specs.Pages.{pair_at}
use Rattle.cow_tree.specs.KeptLeaves.{pairs_from}
use Rattle.cow_tree.specs.KeptPlaces.{entry_from, AreFoundSoFar}
use Rattle.cow_tree.proofs.page_places.pair_places.Given as goal

abbrev pub invariant-loop-behind : goal.invariant-loop-behind
invariant-loop-behind l = record {
  long : length l.at ≡ 256;
  places : AreFoundSoFar (entry_from pair_at l.bytes) (pairs_from l.bytes 24 l.count) (pairs_from l.bytes l.place.at l.place.left) l.placed l.at;
}

abbrev pub decreases-loop-behind : goal.decreases-loop-behind
decreases-loop-behind l = l.place.left
