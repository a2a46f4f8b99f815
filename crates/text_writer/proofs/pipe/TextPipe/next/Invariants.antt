use Rattle.std.proofs.Common.{◌≡◌, ◌-◌, ◌≤◌, ◌⊎◌, List, ℕ, [], length, take}
use Rattle.host_types.specs.SiteState.{IsUnchangedBehind}
use Rattle.text_writer.specs.Pipe.{Piped, PassesText}
use Rattle.text_writer.proofs.pipe.TextPipe.next.Given as goal

-- So many bytes of the chunk were taken and so many given; bytes are ready only where there is no more room.
pub record IsPassing (start now : Piped) (chunk first out : List ℕ) (taken given : ℕ) : Type 0 where
  pub within_chunk : taken ≤ length chunk
  pub within : given ≤ length out
  pub passes : PassesText start chunk taken (take given out) now
  pub behind : IsUnchangedBehind given first out
  pub progress : (now.ready ≡ []) ⊎ (given ≡ length out)

abbrev pub invariant-loop-taken : goal.invariant-loop-taken
invariant-loop-taken l = IsPassing l.fn.self l.self l.chunk l.fn.out l.out l.taken l.given

abbrev pub decreases-loop-taken : goal.decreases-loop-taken
decreases-loop-taken l = length l.chunk - l.taken
