-- What a hub is to the world, and whom it has keep its site.
use Rattle.std.specs.Prelude.{ℕ, Bool, List}
use Rattle.host_types.specs.SiteState.{SiteState}
use Rattle.group_world.specs.World.{World, Phase}
use Rattle.group_hub.specs.Sessions.{sessions_of}
use Rattle.group_hub.specs.Worlds.{world_at}
use Rattle.group_hub.specs.declared.hub.Hub.{Hub}

-- the keeper of the site
abbrev pub keeper_of : {S : Type 0} {bound : _} {ghosts : _} → Hub S bound ghosts → S
keeper_of hub = hub.site

abbrev pub sessions_in_hub : {S : Type 0} {bound : _} {ghosts : _} → Hub S bound ghosts → List (ℕ × Phase)
sessions_in_hub {ghosts = ghosts} hub = sessions_of ghosts.pinned (ghosts.site_state hub.site) hub.sessions.items

-- whether posts wait in it to be made together
abbrev pub is_grouped : {S : Type 0} {bound : _} {ghosts : _} → Hub S bound ghosts → Bool
is_grouped hub = hub.grouped

-- the world of a hub
abbrev pub world_of : {S : Type 0} {bound : _} {ghosts : _} → (S → SiteState) → Hub S bound ghosts → World
world_of {ghosts = ghosts} site_state hub = world_at (site_state hub.site) hub.next hub.grouped (sessions_of ghosts.pinned (site_state hub.site) hub.sessions.items)
