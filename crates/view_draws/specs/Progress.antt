-- What is left of a reply, by how far it is drawn.
use Rattle.std.specs.Prelude.{◌≡◌, ◌≤◌, ◌++◌, ℕ, List, Option, None, Some, length, take, drop}
use Rattle.host_types.specs.SiteState.{IsUnchangedBehind}
use Rattle.text_writer.specs.Pipe.{Piped, will_give}
use Rattle.view_draws.specs.declared.progress.DrawProgress.{DrawProgress}

-- what these bytes give, which are the rest of a view
abbrev pub given_by : Option Piped → List ℕ → List ℕ
given_by None rest = rest
given_by (Some pipe) rest = will_give pipe rest

-- what is left of the view
abbrev pub body_left : DrawProgress → List ℕ → List ℕ
body_left p body = given_by p.pipe (drop p.taken body)

-- what is left of the head and of the view
abbrev pub left_of : List ℕ → DrawProgress → List ℕ → List ℕ
left_of head p body = drop p.head_drawn head ++ body_left p body

-- A buffer is filled from one place up to another; behind that it stays.
pub record FillsUpTo (out_old out_new : List ℕ) (at end : ℕ) : Type 0 where
  pub onward : at ≤ end
  pub within : end ≤ length out_new
  pub behind : IsUnchangedBehind end out_old out_new

-- The bytes of the view that stand in the buffer up to a place and those that are left are what stood up to another and was left.
abbrev pub IsNextOf : List ℕ → DrawProgress → DrawProgress → List ℕ → List ℕ → ℕ → ℕ → Type 0
IsNextOf body old new out_old out_new at end = take end out_new ++ body_left new body ≡ take at out_old ++ body_left old body
