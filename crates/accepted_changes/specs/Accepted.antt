-- The accepted changes of a run: those of each commit that was acknowledged, and of the one that was in flight when a write or a sync failed.
use Rattle.std.specs.Prelude.{◌≡◌, ◌≤◌, ℕ, List, [], ◌∷◌, ◌++◌, length, take, map, Ok}
use Rattle.host_types.specs.Site.{Site}
use Rattle.host_types.specs.AllChanges.{Changes, all_applied}
use Rattle.group_world.specs.World.{World}
use Rattle.group_world.specs.Continuing.{last_of}
use Rattle.group_world.specs.CrashStates.{CommitOfChanges, Link}

-- the changes of some commits, in their order
abbrev pub changes_of : List CommitOfChanges → Changes
changes_of [] = []
changes_of (c ∷ commits) = c ++ changes_of commits

-- the world behind some calls
abbrev pub world_behind : {D : Type 0} → World → List (Link D) → World
world_behind w links = last_of w (map (λ l. l.world) links)

-- What is left represents a site: that of the changes of the first so many commits, made in turn, of which none is refused. There are at least so many.
pub record HoldsAcknowledged {L : Type 0} (stands : L → Site → Type 0) (first : Site) (commits : List CommitOfChanges) (least : ℕ) (left : L) : Type 0 where
  pub count : ℕ
  pub site : Site
  pub at_least : least ≤ count
  pub at_most : count ≤ length commits
  pub made : all_applied first (changes_of (take count commits)) ≡ Ok site
  pub represented : stands left site
