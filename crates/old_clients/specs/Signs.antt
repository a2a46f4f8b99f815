-- The place of the `$` that is rewritten.
use Rattle.std.specs.Prelude.{◌≡◌, ◌<◌, ℕ, true, false, List, length}
use Rattle.std.specs.List.{slice_set}
use Rattle.host_types.specs.Lines.{without_cr}
use Rattle.old_clients.specs.AdaptedRequest.{adapted_line, is_old}

-- With `+` at this place the line is as it is passed on.
pub record IsSign (line : List ℕ) (at : ℕ) : Type 0 where
  pub within : at < length line
  pub old : is_old (without_cr line) ≡ true
  pub adapted : slice_set line at 43 ≡ adapted_line line

-- the line stays
pub record HasNoSign (line : List ℕ) : Type 0 where
  pub other : is_old (without_cr line) ≡ false
  pub same : adapted_line line ≡ line
