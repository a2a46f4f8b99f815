use Rattle.std.proofs.Common.{◌≡◌, ◌<◌, ℕ, None, length, slice_index_or}
use Rattle.cow_tree.specs.declared.kept_places.PagePlaces.{PagePlaces}
use Rattle.cow_tree.proofs.kept_places.KeptPlaces.clear.Given as goal

abbrev pub invariant-loop-at : goal.invariant-loop-at
invariant-loop-at l = record {
  long : length l.self.pages.items ≡ length l.fn.self.pages.items;
  none : (n : ℕ) (other : PagePlaces) → n < l.at → (slice_index_or l.self.pages.items n other).count ≡ 0;
  tree : l.self.tree ≡ None;
}
