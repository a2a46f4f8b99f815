use Rattle.std.proofs.Common.{◌-◌, ◌≤◌, List, ℕ, IsTrue}
use Rattle.page_store.specs.Keys.{rises}
use Rattle.cow_tree.specs.KeptPlaces.{key_from, AreFoundAt, count_upto}
use Rattle.cow_tree.proofs.page_places.count_upto.Given as goal

abbrev pub invariant-loop-low : goal.invariant-loop-low
invariant-loop-low l = record {
  order : l.low ≤ l.high;
  count : l.high ≤ l.places.count;
  between : (keys : List (List ℕ)) → AreFoundAt (key_from l.level l.bytes) keys l.places.count l.places.at → IsTrue (rises keys) → (l.low ≤ count_upto l.key keys) × (count_upto l.key keys ≤ l.high);
}

abbrev pub decreases-loop-low : goal.decreases-loop-low
decreases-loop-low l = l.high - l.low
