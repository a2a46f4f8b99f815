-- Events that were run over a hub, at moments that a clock gave.
use Rattle.std.specs.Prelude.{◌≡◌, ℕ, List, [], ◌∷◌, ◌++◌, flat_map}
use Rattle.group_world.specs.declared.event.Event.{Event}
use Rattle.group_world.specs.declared.event.Event.TheVariants.{Join, Bytes, End, Draw, Leave, Admin, Flush}
use Rattle.group_world.specs.declared.event.Outcome.{Outcome}

-- the moment of an event, where it has one
abbrev pub moment_of : Event → List ℕ
moment_of Join = []
moment_of (Bytes id piece now) = now ∷ []
moment_of (End id now) = now ∷ []
moment_of (Draw id room) = []
moment_of (Leave id) = []
moment_of (Admin change now) = now ∷ []
moment_of Flush = []

abbrev pub moments : List Event → List ℕ
moments es = flat_map moment_of es

-- Some events led from one hub to another, at the moments that a clock gave meanwhile, and this holds of them and of their outcomes.
pub record HasRun {H : Type 0} (ran : H → List Event → List Outcome → H → Type 0) (old new : H) (told_before told_now : List ℕ) (P : List Event → List Outcome → Type 0) : Type 0 where
  pub events : List Event
  pub outcomes : List Outcome
  pub led : ran old events outcomes new
  pub moments_are : told_now ≡ told_before ++ moments events
  pub holds : P events outcomes
