-- Rounds of connections over a site that is handed in and back, and over the site of an image; and why nothing is served.
use Rattle.std.specs.Prelude.{◌≡◌, ℕ, true, List, [], Result, IsTrue}
use Rattle.host_types.specs.declared.site_keeper.SiteKeeper.{Ghosts}
use Rattle.sector_device.specs.Device.{State, NothingCounted}
use Rattle.cow_tree.specs.TreeSeen.{device_of}
use Rattle.cow_tree.specs.declared.tree_keeper.TreeKeeper.{TreeKeeper}
use Rattle.site_store.specs.Seen.{keeper_of as keeper_under}
use Rattle.site_store.specs.declared.disk_site.DiskSite.{DiskSite}
use Rattle.group_world.specs.World.{started_as}
use Rattle.group_hub.specs.Hub.{keeper_of, world_of}
use Rattle.group_hub.specs.Calls.{RunsHub}
use Rattle.group_hub.specs.HeldPins.{IsClosed}
use Rattle.group_world.specs.declared.event.Event.{Event}
use Rattle.group_world.specs.declared.event.Outcome.{Outcome}
use Rattle.group_hub.specs.declared.hub.Hub.{Hub}
use Rattle.host_on_disk.specs.ImageSites.{ImageRepresents}
use Rattle.host_on_disk.specs.OpenFaults.{IsOpeningFault}
use Rattle.host_on_disk.specs.declared.open_fault.OpenFault.TheVariants as opening
use Rattle.page_store.specs.declared.fault.KeeperFault.TheVariants as keeper
use Rattle.daily_server.specs.declared.service.DailyFault.{DailyFault}
use Rattle.daily_server.specs.declared.service.DailyFault.TheVariants as daily
use Rattle.image_runs.specs.ImageRuns.{OverSite, OnImage}
use Rattle.turns.specs.Runs.{HasRun}
use Rattle.socket_wires.specs.Rounds.{IsServing}
use Rattle.socket_wires.specs.declared.gate.Taken.{Taken}
use Rattle.socket_wires.specs.declared.serving.ServeFault.{ServeFault}
use Rattle.image_server.specs.declared.serving.ServingFault.{ServingFault}
use Rattle.image_server.specs.declared.serving.ServingFault.TheVariants.{Image, Listener, Net}

-- A site is handed to a hub whose sessions count from 1, rounds are served by it, by these events and of the connections that were taken, and the hub ends: the pins that its sessions still held are given back, and the site is handed back with nothing else changed.
pub record ServesOver {S Pin : Type 0} (k : Ghosts S Pin) (together rounds : ℕ) (result : Result ℕ ServeFault) (taken_before taken_now : List Taken) (old : S) (es : List Event) (os : List Outcome) (new : S) : Type 0 where
  pub first : Hub S Pin k
  pub last : Hub S Pin k
  pub keeper : keeper_of first ≡ old
  pub world : world_of k.site_state first ≡ started_as true (k.site_state old).site 1
  pub serves : IsServing RunsHub (λ hub. (k.site_state (keeper_of hub)).usable) together rounds result taken_before taken_now first es os last
  pub closes : IsClosed k.site_state k.crash_states (keeper_of last) new

-- The same over the site that a device shows, at a listener that was asked for no connection before.
pub record ServesImage {D Pin : Type 0} {dict : _} {tree : _} (k : Ghosts (DiskSite (TreeKeeper D dict) tree) Pin) (together rounds : ℕ) (result : Result ℕ ServeFault) (old : D) (es : List Event) (os : List Outcome) (new : D) : Type 0 where
  pub opened : DiskSite (TreeKeeper D dict) tree
  pub closed : DiskSite (TreeKeeper D dict) tree
  pub shows : IsTrue (dict.state old).honest → ImageRepresents (dict.state old).disk.view (k.site_state opened).site
  pub taken : List Taken
  pub serves : ServesOver k together rounds result [] taken opened es os closed
  pub handed : new ≡ device_of (keeper_under closed)

-- All that was done to a site is a run, by the events of these rounds.
pub record ServedOver {S Pin : Type 0} (k : Ghosts S Pin) (together rounds : ℕ) (result : Result ℕ ServeFault) (taken_before taken_now : List Taken) (old new : S) (told_before told_now : List ℕ) : Type 0 where
  pub run : HasRun (OverSite true k) old new told_before told_now (λ es os. ServesOver k together rounds result taken_before taken_now old es os new)

-- And all that was done to a device.
pub record ServedImage {D Pin : Type 0} {dict : _} {tree : _} (k : Ghosts (DiskSite (TreeKeeper D dict) tree) Pin) (together rounds : ℕ) (result : Result ℕ ServeFault) (old new : D) (told_before told_now : List ℕ) : Type 0 where
  pub run : HasRun (OnImage true k) old new told_before told_now (λ es os. ServesImage k together rounds result old es os new)

-- The image's own fault, by its cause; or an address can't be listened on, and then the image was opened and nothing failed. Waits fail only where clients were served.
abbrev pub IsServingFault : State → State → ServingFault → Type 0
IsServingFault old new (Image fault) = IsOpeningFault old new fault
IsServingFault old new (Listener at cause) = NothingCounted old new
IsServingFault old new Net = ⊥

-- what is known of serving that ended
abbrev pub of_daily : DailyFault → ServingFault
of_daily daily.Net = Net
of_daily daily.Failed = Image (opening.Keeper keeper.Failed)
of_daily daily.Memory = Image opening.Memory
