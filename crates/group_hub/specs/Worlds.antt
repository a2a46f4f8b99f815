-- The world of a keeper and of sessions over its site.
use Rattle.std.specs.Prelude.{◌≡◌, ℕ, Bool, true, not, List, IsTrue}
use Rattle.std.specs.Coded.{Π_prop}
use mathlib.Core.Logic.{∥∥₁_prop}
use Rattle.host_types.specs.Site.{IsSite}
use Rattle.host_types.specs.SiteState.{SiteState}
use Rattle.group_world.specs.World.{World, Phase}

abbrev pub world_at : SiteState → ℕ → Bool → List (ℕ × Phase) → World
world_at h next grouped sessions = record { site = h.site; next = next; failed = not h.usable; grouped = grouped; sessions = sessions }

-- Where posts wait, an honest site is a valid one.
abbrev pub IsValidWhereGrouped : Bool → SiteState → Type 0
IsValidWhereGrouped grouped h = grouped ≡ true → IsTrue h.honest → ∥ IsSite h.site ∥₁

pub IsValidWhereGrouped-prop : (grouped : Bool) (h : SiteState) → IsProp (IsValidWhereGrouped grouped h)
IsValidWhereGrouped-prop grouped h = Π_prop (λ is. Π_prop (λ honest. ∥∥₁_prop))
