use Rattle.std.proofs.Common.{◌≡◌, ◌-◌, ◌≤◌, ◌++◌, List, ℕ, length, take, drop}
use Rattle.host_types.specs.SiteState.{IsUnchangedBehind}
use Rattle.text_writer.specs.Place.{given_from}
use Rattle.text_writer.specs.declared.place.LinePlace.{LinePlace}
use Rattle.text_writer.proofs.passing.give_lines.Given as goal

-- So many bytes were taken, and what they give stands from one place of the buffer to another.
pub record IsGiving (start now : LinePlace) (rest first out : List ℕ) (at taken end : ℕ) : Type 0 where
  pub within_rest : taken ≤ length rest
  pub onward : at ≤ end
  pub within : end ≤ length out
  pub given : (more : List ℕ) → take end out ++ given_from now (drop taken rest ++ more) ≡ take at first ++ given_from start (rest ++ more)
  pub behind : IsUnchangedBehind end first out

abbrev pub invariant-loop-taken : goal.invariant-loop-taken
invariant-loop-taken l = IsGiving l.fn.start l.place l.rest l.fn.out l.out l.at l.taken l.end

abbrev pub decreases-loop-taken : goal.decreases-loop-taken
decreases-loop-taken l = length l.rest - l.taken
