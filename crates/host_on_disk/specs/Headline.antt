-- What a crash at any moment of a run leaves on a disk, and what is found when the disk is opened again.
use Rattle.std.specs.Prelude.{◌≡◌, ◌⊎◌, ℕ, Bool, true, List, [], ◌∷◌, map, IsTrue}
use Rattle.host_types.specs.AllChanges.{Changes}
use Rattle.host_types.specs.Site.{Site}
use Rattle.host_types.specs.SiteState.{SiteState}
use Rattle.host_types.specs.CrashStates.{CrashStates, AddsNone, may_crash_to}
use Rattle.host_types.specs.declared.site_fault.SiteFault.{SiteFault}
use Rattle.sector_device.specs.Device.{State, NothingCounted}
use Rattle.page_store.specs.Sectors.{Image}
use Rattle.group_world.specs.World.{World, started_as}
use Rattle.group_world.specs.Run.{Step}
use Rattle.group_world.specs.CrashStates.{CommitOfChanges, Link, IsStored, HasCrashStates, HoldsCommits, accepted}
use Rattle.group_world.specs.declared.event.Event.{Event}
use Rattle.group_world.specs.declared.event.Outcome.{Outcome}
use Rattle.group_hub.specs.Calls.{Calls, links_of}
use Rattle.group_hub.specs.HeldPins.{IsClosed}
use Rattle.host_on_disk.specs.ImageSites.{ImageRepresents}

-- This is the site after the first so many commits, at least so many.
abbrev pub IsFound : Site → List CommitOfChanges → ℕ → Site → Type 0
IsFound first commits least s = HoldsCommits (λ (t u : Site). t ≡ u) first commits least s

-- ---- a run

-- One call of a run: the event may be answered so, and these commits are what it stored.
pub record IsLink {D : Type 0} (w : World) (e : Event) (o : Outcome) (l : Link D) : Type 0 where
  pub event : l.event ≡ e
  pub outcome : l.outcome ≡ o
  pub step : Step w e o l.world
  pub stored : IsStored (Unit {0}) w e o l.world l.stored

-- These events, with these outcomes, are a run from a world, one call after another.
abbrev pub IsRunFrom : {D : Type 0} → World → List Event → List Outcome → List (Link D) → Type 0
IsRunFrom w [] [] [] = Unit {0}
IsRunFrom w (e ∷ events) (o ∷ outcomes) (l ∷ links) = IsLink w e o l × IsRunFrom l.world events outcomes links
IsRunFrom w events outcomes links = ⊥

-- a call of a site as one of the device that it is on
abbrev pub on_device : {S D : Type 0} → (S → D) → Link S → Link D
on_device device l = record { event = l.event; outcome = l.outcome; stored = l.stored; world = l.world; keeper = device l.keeper }

abbrev pub links_on : {S D : Type 0} → (S → D) → List (Link S) → List (Link D)
links_on device links = map (on_device device) links

-- What reads give at first represents a site. A device is opened, and nothing is written before its first event. All events are a run from that site, in a hub where posts wait or don't. What a crash at any moment of the run leaves represents the site after the first so many of its accepted commits, with each that was acknowledged by then; what a crash left since before the opening is that, or what one might have left before. A device that shows what a crash of the run left, opened again, gives a site that the run allows.
pub record Survives {D : Type 0} (state : D → State) (crash_states : D → CrashStates Image) (old new : D) (grouped : Bool) (first : ℕ) (events : List Event) (outcomes : List Outcome) : Type 0 where
  pub site : Site
  pub stands : ImageRepresents (state old).disk.view site
  pub alone : (s : Site) → ImageRepresents (state old).disk.view s → s ≡ site
  pub opened : D
  pub no_new_crash_state : AddsNone (crash_states old) (crash_states opened)
  pub links : List (Link D)
  pub run : IsRunFrom (started_as grouped site first) events outcomes links
  pub at_crash : HasCrashStates ImageRepresents site (crash_states opened) (crash_states new) links
  pub since : (image : Image) → (crash_states new).possible_since (crash_states old).moment image → may_crash_to (crash_states old) image ⊎ HoldsCommits ImageRepresents site (accepted links) 0 image
  pub again : (image : Image) → (crash_states new).possible_since (crash_states opened).moment image → (s : Site) × ImageRepresents image s × IsFound site (accepted links) 0 s

-- The site is handed in and back: all events are calls, one after another, of one hub over it, which then ends: the pins that its sessions still held are given back, and nothing else changes. Over an honest device a crash at any moment of it leaves the first so many of its commits.
pub record RunsOver {S L : Type 0} (site_state : S → SiteState) (lacks : S → Changes → SiteFault → Type 0) (crash_states : S → CrashStates L) (stands : L → Site → Type 0) (old new : S) (grouped : Bool) (first : ℕ) (events : List Event) (outcomes : List Outcome) : Type 0 where
  pub last : World
  pub before : S
  pub calls : Calls site_state lacks crash_states stands (started_as grouped (site_state old).site first) old events outcomes last before
  pub closes : IsClosed site_state crash_states before new
  pub honest : (site_state new).honest ≡ (site_state old).honest
  pub at_crash : (honest : IsTrue (site_state old).honest) →
      HasCrashStates stands (site_state old).site (crash_states old) (crash_states new) (links_of site_state lacks crash_states stands (started_as grouped (site_state old).site first) old events outcomes last before honest calls)

-- A device is opened as the site that it shows, which counts nothing; that is run over, and handed back: the calls, with their causes, on any device.
pub record RunsOn {D S L : Type 0} (state : D → State) (device : S → D) (site_state : S → SiteState) (lacks : S → Changes → SiteFault → Type 0) (crash_states : S → CrashStates L) (stands : L → Site → Type 0) (old new : D) (grouped : Bool) (first : ℕ) (events : List Event) (outcomes : List Outcome) : Type 0 where
  pub opened : S
  pub closed : S
  pub shows : IsTrue (state old).honest → ImageRepresents (state old).disk.view (site_state opened).site
  pub counted : NothingCounted (state old) (state (device opened))
  pub usable : (site_state opened).usable ≡ true
  pub runs : RunsOver site_state lacks crash_states stands opened closed grouped first events outcomes
  pub handed : new ≡ device closed

-- A device is run over, and what survives a crash of it: both speak of one opening, as one site, and of the same calls.
pub record RunsAndSurvives {D S L : Type 0} (state : D → State) (device : S → D) (site_state : S → SiteState) (lacks : S → Changes → SiteFault → Type 0) (site_crash_states : S → CrashStates L) (stands : L → Site → Type 0) (crash_states : D → CrashStates Image) (old new : D) (grouped : Bool) (first : ℕ) (events : List Event) (outcomes : List Outcome) : Type 0 where
  pub calls : RunsOn state device site_state lacks site_crash_states stands old new grouped first events outcomes
  pub survives : IsTrue (state old).honest → Survives state crash_states old new grouped first events outcomes
  pub opened : (honest : IsTrue (state old).honest) → (survives honest).opened ≡ device calls.opened
  pub site : (honest : IsTrue (state old).honest) → (survives honest).site ≡ (site_state calls.opened).site
  pub links : (honest : IsTrue (state old).honest) (still : IsTrue (site_state calls.opened).honest) →
      (survives honest).links ≡ links_on device (links_of site_state lacks site_crash_states stands (started_as grouped (site_state calls.opened).site first) calls.opened events outcomes calls.runs.last calls.runs.before still calls.runs.calls)
  pub honest : (state new).honest ≡ (state old).honest

-- ---- any number of crashes in turn

-- One run in a row of runs: its device before and after, and the image that a crash of it left.
pub record RunInTurn (D : Type 0) : Type 0 where
  pub old : D
  pub new : D
  pub grouped : Bool
  pub first : ℕ
  pub events : List Event
  pub outcomes : List Outcome
  pub left : Image

-- One run survives, and a crash of it left the image.
pub record IsTurn {D : Type 0} (state : D → State) (crash_states : D → CrashStates Image) (image : Image) (turn : RunInTurn D) : Type 0 where
  pub shows : (state turn.old).disk.view ≡ image
  pub survives : Survives state crash_states turn.old turn.new turn.grouped turn.first turn.events turn.outcomes
  pub left : (crash_states turn.new).possible_since (crash_states survives.opened).moment turn.left

-- Each run is on a device that shows the image which a crash of the run before left.
abbrev pub InTurn : {D : Type 0} → (D → State) → (D → CrashStates Image) → Image → List (RunInTurn D) → Image → Type 0
InTurn state crash_states image [] last = last ≡ image
InTurn state crash_states image (turn ∷ turns) last = IsTurn state crash_states image turn × InTurn state crash_states turn.left turns last

-- Each run in turn starts from a site that the one before allows: some of its accepted commits are made on the site that it starts from.
abbrev pub FoundInTurn : {D : Type 0} → Site → List (RunInTurn D) → Site → Type 0
FoundInTurn s [] t = t ≡ s
FoundInTurn {D = D} s (turn ∷ turns) t = (links : List (Link D)) × (m : Site) × IsRunFrom (started_as turn.grouped s turn.first) turn.events turn.outcomes links × IsFound s (accepted links) 0 m × FoundInTurn m turns t
