use Rattle.std.proofs.Common.{◌≡◌, ◌<◌, ◌≤◌, ℕ, length, slice_index_or}
use Rattle.page_alloc.specs.declared.life.Life.TheVariants.{Never}
use Rattle.page_alloc.specs.Kept.{SweptSoFar}
use Rattle.page_alloc.specs.Runs.{use_of}
use Rattle.page_alloc.proofs.sweep.sweep.Given as goal

abbrev pub invariant-loop-place : goal.invariant-loop-place
invariant-loop-place l = record {
  size : length l.runs.order.pages.items ≡ length l.fn.runs.order.pages.items;
  left : l.place ≤ l.runs.starts.retired;
  uses : (page : ℕ) → page < length l.lives → SweptSoFar l.pins (slice_index_or l.lives page Never) l.place (slice_index_or l.runs.order.places.items page 0) (use_of l.fn.runs.starts l.fn.runs.order.places.items page) (use_of l.runs.starts l.runs.order.places.items page);
}
