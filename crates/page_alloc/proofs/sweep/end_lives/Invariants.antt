use Rattle.std.proofs.Common.{◌≡◌, ◌<◌, ℕ, length, nat_lt, slice_index_or}
use Rattle.std.specs.Prelude.{nat_le, ◌&&◌, if◌then◌else◌}
use Rattle.page_alloc.specs.declared.life.Life.TheVariants.{Never}
use Rattle.page_alloc.specs.Lives.{ended_at}
use Rattle.page_alloc.specs.Runs.{at}
use Rattle.page_alloc.proofs.sweep.end_lives.Given as goal

abbrev pub invariant-loop-place : goal.invariant-loop-place
invariant-loop-place l =
    (page : ℕ) → page < length l.lives → slice_index_or l.lives page Never ≡ (if nat_le l.runs.starts.retired (at l.runs.order.places.items page) && nat_lt (at l.runs.order.places.items page) l.place then ended_at l.generation (slice_index_or l.fn.lives page Never) else slice_index_or l.fn.lives page Never)
