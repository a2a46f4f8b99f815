-- Clients that are served as they come, over the site of an image; and where connections are listened for, and what is asked of the system.
use Rattle.std.specs.Prelude.{◌≡◌, ◌⊎◌, ℕ, true, List, [], ◌∷◌, ◌++◌, Option, Some, None, Result, IsTrue}
use Rattle.std.specs.Net.Socket.{socket_ip, socket_port}
use Rattle.std.specs.declared.net.ip_addr.IpAddr.TheVariants.{V4}
use Rattle.std.specs.declared.net.socket_addr.SocketAddr.{SocketAddr}
use Rattle.host_types.specs.Address.{Address, address}
use Rattle.host_types.specs.Site.{Site}
use Rattle.host_types.specs.declared.site_keeper.SiteKeeper.{Ghosts}
use Rattle.sector_device.specs.Device.{State}
use Rattle.cow_tree.specs.TreeSeen.{device_of}
use Rattle.cow_tree.specs.declared.tree_keeper.TreeKeeper.{TreeKeeper}
use Rattle.site_store.specs.Seen.{keeper_of}
use Rattle.site_store.specs.declared.disk_site.DiskSite.{DiskSite}
use Rattle.group_world.specs.declared.event.Event.{Event}
use Rattle.group_world.specs.declared.event.Outcome.{Outcome}
use Rattle.turns.specs.Runs.{HasRun}
use Rattle.host_on_disk.specs.ImageSites.{ImageRepresents}
use Rattle.image_runs.specs.ImageRuns.{OverSite, OnImage}
use Rattle.host_on_disk.specs.declared.open_fault.OpenFault.TheVariants as opening
use Rattle.daily_server.specs.Offices.{WorksOf}
use Rattle.daily_server.specs.Rounds.{HasServed, Premises}
use Rattle.daily_server.specs.DailyClients.{IsFreshService}
use Rattle.daily_server.specs.declared.listen_fault.NetCause.{NetCause}
use Rattle.daily_server.specs.declared.pace.Pace.{Pace}
use Rattle.daily_server.specs.declared.service.Service.{Service}
use Rattle.daily_server.specs.declared.stopwatch.Reading.{Reading}
use Rattle.daily_server.specs.declared.terms.Terms.{Terms}
use Rattle.daily_server.specs.declared.service.DailyFault.{DailyFault}
use Rattle.image_server.specs.Starting.{TellsStart}
use Rattle.image_server.specs.declared.serving.ServingFault.{ServingFault}
use Rattle.image_server.specs.declared.serving.ServingFault.TheVariants.{Image, Listener, Net}

-- the address that is given, or else this port on 127.0.0.1
abbrev pub IsGivenOrOwn : Option SocketAddr → ℕ → SocketAddr → Type 0
IsGivenOrOwn (Some address) port at = at ≡ address
IsGivenOrOwn None port at = (socket_ip at ≡ V4 (record { octets = 127 ∷ 0 ∷ 0 ∷ 1 ∷ [] })) × (socket_port at ≡ port)

-- The same with the port of the site that a device shows, if it is honest.
pub record IsPlace (device : State) (address : Option SocketAddr) (at : SocketAddr) : Type 0 where
  pub port : ℕ
  pub is : IsGivenOrOwn address port at
  pub own : IsTrue device.honest → (s : Site) × ImageRepresents device.disk.view s × (port ≡ s.port)

-- A listener was asked for once, and had. It is noted so.
abbrev pub IsListened : {C : Type 0} → (SocketAddr → C) → State → Option SocketAddr → List C → List C → Type 0
IsListened had device address before now = (at : SocketAddr) × IsPlace device address at × (now ≡ before ++ had at ∷ [])

-- A device was opened as the site that it shows, and the log was told where it is served. In a service in which nobody was, clients were served on these terms, by these events, until that ended; and the device was handed back. With the log stand the readings of a watch, and an office.
pub record ServesClients {D Pin Log O X : Type 0} {dict : _} {tree : _} (k : Ghosts (DiskSite (TreeKeeper D dict) tree) Pin) (contents : Log → Option (List ℕ)) (lets_wait : O → Pace) (works : WorksOf O) (terms : Terms) (listen : Option SocketAddr) (old new : D) (before now : Log × List Reading × O) (result : Result X DailyFault) (es : List Event) (os : List Outcome) : Type 0 where
  pub opened : DiskSite (TreeKeeper D dict) tree
  pub closed : DiskSite (TreeKeeper D dict) tree
  pub shows : IsTrue (dict.state old).honest → ImageRepresents (dict.state old).disk.view (k.site_state opened).site
  pub front : Address
  pub named : IsTrue (dict.state old).honest → front ≡ address (k.site_state opened).site
  pub at : SocketAddr
  pub place : IsGivenOrOwn listen front.port at
  pub told : Log
  pub start : TellsStart contents front at before.0 told
  pub first : Service
  pub last : Service
  pub fresh : IsFreshService first
  pub served : HasServed contents lets_wait works terms result (k.site_state closed).usable (first, told, before.1, before.2) es os (last, now.0, now.1, now.2)
  pub handed : new ≡ device_of (keeper_of closed)

-- All that was done to a site is a run, by the events of the clients that were served.
abbrev pub ClientsServedOver : {S Pin Log O X : Type 0} → Ghosts S Pin → (Log → Option (List ℕ)) → (O → Pace) → WorksOf O → Terms → S → Premises Log O → Premises Log O → List ℕ → List ℕ → Result X DailyFault × S → Type 0
ClientsServedOver k contents lets_wait works terms old first last told_before told_now (result, new) =
    HasRun (OverSite true k) old new told_before told_now (λ es os. HasServed contents lets_wait works terms result (k.site_state new).usable first es os last)

-- And all that was done to a device.
abbrev pub ClientsServedOnImage : {D Pin Log O X : Type 0} {dict : _} {tree : _} → Ghosts (DiskSite (TreeKeeper D dict) tree) Pin → (Log → Option (List ℕ)) → (O → Pace) → WorksOf O → Terms → Option SocketAddr → D → Log × List Reading × O → Log × List Reading × O → List ℕ → List ℕ → Result X DailyFault × D → Type 0
ClientsServedOnImage k contents lets_wait works terms listen old before now told_before told_now (result, new) =
    HasRun (OnImage true k) old new told_before told_now (λ es os. ServesClients k contents lets_wait works terms listen old new before now result es os)

-- What was asked of the system where no client is served: `Listener` comes where none was had at that address, for that cause; lack of memory before one was asked for, or behind one that was had; all else before.
abbrev pub IsAskedInVain : {C : Type 0} → (SocketAddr → C) → (SocketAddr → NetCause → C) → State → Option SocketAddr → List C → List C → ServingFault → Type 0
IsAskedInVain had not_had device address before now (Listener at cause) = IsPlace device address at × (now ≡ before ++ not_had at cause ∷ [])
IsAskedInVain had not_had device address before now Net = ⊥
IsAskedInVain had not_had device address before now (Image opening.Memory) = (now ≡ before) ⊎ IsListened had device address before now
IsAskedInVain had not_had device address before now (Image opening.BadRecord) = now ≡ before
IsAskedInVain had not_had device address before now (Image (opening.Keeper fault)) = now ≡ before
