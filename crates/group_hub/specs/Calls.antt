-- Calls of a hub and whole runs of them: the world and the keeper before and after.
use Rattle.std.proofs.Common.{◌∙◌}
use Rattle.std.specs.Prelude.{◌≡◌, ℕ, Bool, true, false, not, List, [], ◌∷◌, IsTrue}
use Rattle.host_types.specs.AllChanges.{Changes}
use Rattle.host_types.specs.Site.{Site}
use Rattle.host_types.specs.SiteState.{SiteState}
use Rattle.host_types.specs.CrashStates.{CrashStates, may_crash_to}
use Rattle.host_types.specs.declared.site_fault.SiteFault.{SiteFault}
use Rattle.group_world.specs.World.{World}
use Rattle.group_world.specs.Step.{step}
use Rattle.group_world.specs.Run.{Step, IsAnswer, changes_in, is_there}
use Rattle.group_world.specs.Calls.{MaySplit, IsHeardCause, IsFlushCause}
use Rattle.group_world.specs.CrashStates.{Stored, Link, Leaves, HasCrashStates}
use Rattle.group_world.specs.declared.event.Event.{Event}
use Rattle.group_world.specs.declared.event.Event.TheVariants.{Join, Bytes, End, Draw, Leave, Admin, Flush}
use Rattle.group_world.specs.declared.event.Outcome.{Outcome}
use Rattle.group_world.specs.declared.event.Outcome.TheVariants.{Fault}
use Rattle.group_world.specs.declared.fault.HubFault.{HubFault}
use Rattle.group_world.specs.declared.fault.HubFault.TheVariants.{Failed, Unknown}
use Rattle.group_hub.specs.Counting.{CountsEvent}
use Rattle.group_hub.specs.Causes.{IsAdminCause, IsDrawCause}
use Rattle.group_hub.specs.HeldPins.{MayGiveBack}
use Rattle.group_hub.specs.Hub.{keeper_of, world_of}
use Rattle.group_hub.specs.Sessions.{sessions_of}
use Rattle.group_hub.specs.Worlds.{world_at}
use Rattle.group_hub.specs.declared.session.Session.{Session}
use Rattle.host_types.specs.Pins.{Pinned}
use Rattle.group_hub.specs.declared.hub.Hub.{Hub}

-- the fault, where the outcome is one
abbrev pub IfFault : Outcome → (HubFault → Type 0) → Type 0
IfFault (Fault fault) P = P fault
IfFault outcome P = Unit {0}

-- Why an event was answered so, by what its keeper was and is: a session that joins or leaves is answered as the protocol says, with no other fault; one that leaves may give a pin back.
abbrev pub IsCause : {S : Type 0} → (S → SiteState) → (S → Changes → SiteFault → Type 0) → World → S → Event → Outcome → S → Type 0
IsCause site_state lacks w k (Bytes id piece now) o l = IfFault o (IsHeardCause (lacks k) (changes_in w (Bytes id piece now)) (site_state k) (site_state l))
IsCause site_state lacks w k (End id now) o l = IfFault o (IsHeardCause (lacks k) (changes_in w (End id now)) (site_state k) (site_state l))
IsCause site_state lacks w k (Admin change now) o l = IfFault o (IsAdminCause (lacks k) (changes_in w (Admin change now)) (site_state k) (site_state l))
IsCause site_state lacks w k Flush o l = IfFault o (IsFlushCause (lacks k) (changes_in w Flush) (site_state k) (site_state l))
IsCause site_state lacks w k (Draw id room) o l = IfFault o (IsDrawCause (site_state k) (site_state l))
IsCause site_state lacks w k (Leave id) o l = (o ≡ (step w (Leave id)).outcome) × MayGiveBack (site_state k) (site_state l)
IsCause site_state lacks w k Join o l = (o ≡ (step w Join).outcome) × (l ≡ k)

-- what an event leaves of a keeper that has failed
abbrev pub StaysClosed : {S : Type 0} → (S → SiteState) → S → Event → S → Type 0
StaysClosed site_state k (Leave id) l = MayGiveBack (site_state k) (site_state l)
StaysClosed site_state k e l = l ≡ k

-- A flush that takes posts one at a time may fail behind some of them.
abbrev pub may_fail_behind : Event → HubFault → Bool
may_fail_behind Flush Failed = true
may_fail_behind e fault = false

-- What is known of an answer on any device, one that is not honest too: a hub that has failed stays as it is, but for sessions that leave; `Failed` marks it, and nothing else does; a fault moves no session, but for a flush that fails behind some; and `Unknown` comes only where the session isn't there.
pub record IsSteady {S : Type 0} (site_state : S → SiteState) (w : World) (k : S) (e : Event) (o : Outcome) (v : World) (l : S) : Type 0 where
  pub closed : w.failed ≡ true → IsAnswer w e o v × StaysClosed site_state k e l
  pub shuts : w.failed ≡ false → v.failed ≡ true → o ≡ Fault Failed
  pub failed : o ≡ Fault Failed → v.failed ≡ true
  pub next : (fault : HubFault) → o ≡ Fault fault → v.next ≡ w.next
  pub sessions : (fault : HubFault) → o ≡ Fault fault → may_fail_behind e fault ≡ false → v.sessions ≡ w.sessions
  pub unknown : o ≡ Fault Unknown → is_there w e ≡ false
  pub grouped : v.grouped ≡ w.grouped

-- What an answer that isn't a fault tells: whatever a crash leaves from then on represents the new site.
abbrev pub IsAcknowledged : {S L : Type 0} → (S → CrashStates L) → (L → Site → Type 0) → Outcome → World → S → Type 0
IsAcknowledged crash_states stands (Fault fault) v l = Unit {0}
IsAcknowledged {L = L} crash_states stands o v l = v.failed ≡ false → (c : L) → may_crash_to (crash_states l) c → stands c v.site

-- Why the changes of an event may go one at a time.
abbrev pub Splits : {S : Type 0} → (S → SiteState) → (S → Changes → SiteFault → Type 0) → S → World → Event → Type 0
Splits site_state lacks k w e = MaySplit (lacks k) (site_state k) (changes_in w e)

-- a call as a link of a run
abbrev pub link : {S : Type 0} → Event → Outcome → Stored → World → S → Link S
link e o stored v l = record { event = e; outcome = o; stored = stored; world = v; keeper = l }

-- One call, from a world w and its keeper k to a world v and its keeper l.
pub record CallOverKeeper {S L : Type 0} (site_state : S → SiteState) (lacks : S → Changes → SiteFault → Type 0) (crash_states : S → CrashStates L) (stands : L → Site → Type 0) (w : World) (k : S) (e : Event) (o : Outcome) (v : World) (l : S) : Type 0 where
  pub step : IsTrue (site_state k).honest → Step w e o v
  pub cause : IsCause site_state lacks w k e o l
  pub counts : CountsEvent w e o (site_state k) (site_state l)
  pub honest : (site_state l).honest ≡ (site_state k).honest
  pub site : v.site ≡ (site_state l).site
  pub flag : v.failed ≡ not (site_state l).usable
  pub steady : IsSteady site_state w k e o v l
  pub acknowledged : IsTrue (site_state k).honest → IsAcknowledged crash_states stands o v l
  pub leaves : IsTrue (site_state k).honest → (stored : Stored) × Leaves stands (Splits site_state lacks k w e) w (link e o stored v l) (crash_states k) (crash_states l)

-- one call after another
abbrev pub Calls : {S L : Type 0} → (S → SiteState) → (S → Changes → SiteFault → Type 0) → (S → CrashStates L) → (L → Site → Type 0) → World → S → List Event → List Outcome → World → S → Type 0
Calls site_state lacks crash_states stands w k [] [] v l = (v ≡ w) × (l ≡ k)
Calls site_state lacks crash_states stands w k (e ∷ events) (o ∷ outcomes) v l = (m : World) × (j : _) × CallOverKeeper site_state lacks crash_states stands w k e o m j × Calls site_state lacks crash_states stands m j events outcomes v l
Calls site_state lacks crash_states stands w k [] (o ∷ outcomes) v l = ⊥
Calls site_state lacks crash_states stands w k (e ∷ events) [] v l = ⊥

-- a call of a keeper with sessions over its site, whatever number comes next and whether posts wait
abbrev pub SessionsCall : {S L P : Type 0} → (S → SiteState) → (S → Changes → SiteFault → Type 0) → (S → CrashStates L) → (L → Site → Type 0) → (P → Pinned) → S → List (Session P) → Event → Outcome → S → List (Session P) → Type 0
SessionsCall site_state lacks crash_states stands pinned k olds e o l news = (next : ℕ) (grouped : Bool) →
    CallOverKeeper site_state lacks crash_states stands (world_at (site_state k) next grouped (sessions_of pinned (site_state k) olds)) k e o (world_at (site_state l) next grouped (sessions_of pinned (site_state l) news)) l

-- the same of a hub: its world, and the keeper that it has
abbrev pub HubCall : {S L : Type 0} {bound : _} {ghosts : _} → (S → SiteState) → (S → Changes → SiteFault → Type 0) → (S → CrashStates L) → (L → Site → Type 0) → Hub S bound ghosts → Event → Outcome → Hub S bound ghosts → Type 0
HubCall site_state lacks crash_states stands old e o new = CallOverKeeper site_state lacks crash_states stands (world_of site_state old) (keeper_of old) e o (world_of site_state new) (keeper_of new)

abbrev pub HubCalls : {S L : Type 0} {bound : _} {ghosts : _} → (S → SiteState) → (S → Changes → SiteFault → Type 0) → (S → CrashStates L) → (L → Site → Type 0) → Hub S bound ghosts → List Event → List Outcome → Hub S bound ghosts → Type 0
HubCalls site_state lacks crash_states stands old events outcomes new = Calls site_state lacks crash_states stands (world_of site_state old) (keeper_of old) events outcomes (world_of site_state new) (keeper_of new)

-- a call of a hub over the keeper that it has
abbrev pub CallsHub : {S : Type 0} {bound : _} {ghosts : _} → Hub S bound ghosts → Event → Outcome → Hub S bound ghosts → Type 0
CallsHub {ghosts = ghosts} old e o new = HubCall ghosts.site_state ghosts.lacks ghosts.crash_states ghosts.represents old e o new

-- the links of a run over an honest keeper
abbrev pub links_of : {S L : Type 0} (site_state : S → SiteState) (lacks : S → Changes → SiteFault → Type 0) (crash_states : S → CrashStates L) (stands : L → Site → Type 0) (w : World) (k : S) (events : List Event) (outcomes : List Outcome) (v : World) (l : S) →
    IsTrue (site_state k).honest → Calls site_state lacks crash_states stands w k events outcomes v l → List (Link S)
links_of site_state lacks crash_states stands w k [] [] v l honest calls = []
links_of site_state lacks crash_states stands w k (e ∷ events) (o ∷ outcomes) v l honest calls =
    link e o (calls.2.leaves honest).0 calls.0 calls.1 ∷ links_of site_state lacks crash_states stands calls.0 calls.1 events outcomes v l (calls.2.honest ∙ honest) calls.3
links_of site_state lacks crash_states stands w k [] (o ∷ outcomes) v l honest calls = []
links_of site_state lacks crash_states stands w k (e ∷ events) [] v l honest calls = []

-- A run of a hub: its calls one after another, and what a crash at any moment of it leaves.
pub record HubRun {S L : Type 0} {bound : _} {ghosts : _} (site_state : S → SiteState) (lacks : S → Changes → SiteFault → Type 0) (crash_states : S → CrashStates L) (stands : L → Site → Type 0) (old : Hub S bound ghosts) (events : List Event) (outcomes : List Outcome) (new : Hub S bound ghosts) : Type 0 where
  pub calls : HubCalls site_state lacks crash_states stands old events outcomes new
  pub at_crash : (honest : IsTrue (site_state (keeper_of old)).honest) → (site_state (keeper_of old)).usable ≡ true →
      HasCrashStates stands (world_of site_state old).site (crash_states (keeper_of old)) (crash_states (keeper_of new)) (links_of site_state lacks crash_states stands (world_of site_state old) (keeper_of old) events outcomes (world_of site_state new) (keeper_of new) honest calls)

-- a run of a hub over the keeper that it has
abbrev pub RunsHub : {S : Type 0} {bound : _} {ghosts : _} → Hub S bound ghosts → List Event → List Outcome → Hub S bound ghosts → Type 0
RunsHub {ghosts = ghosts} old events outcomes new = HubRun ghosts.site_state ghosts.lacks ghosts.crash_states ghosts.represents old events outcomes new
