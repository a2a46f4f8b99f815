-- What the sessions that a hub keeps are to the world.
use Rattle.std.specs.Prelude.{◌≡◌, ◌≤◌, ℕ, Bool, true, false, List, [], ◌∷◌, ◌++◌, remove, drop, map, Option, None, Some, IsTrue, IfSome, length, take, refl}
use Rattle.std.specs.Coded.{Π_prop}
use Rattle.std.proofs.Props.{props}
use Rattle.host_types.specs.Card.{chunk_of}
use Rattle.view_draws.specs.Source.{IsViewOf}
use Rattle.view_draws.specs.declared.source.ViewSource.{ViewSource}
use Rattle.host_types.specs.SiteState.{SiteState}
use Rattle.host_types.specs.Pins.{Pinned}
use Rattle.view_draws.specs.ViewDraw.{rest_of, body_at, IsOf}
use Rattle.group_world.specs.World as world
use Rattle.group_world.specs.World.{count_waiting}
use Rattle.request_reader.specs.Verdict.{Verdict, Open, Early as EndedEarly, Whole, Bad}
use Rattle.request_reader.specs.ReceivedInput.{verdict_by}
use Rattle.group_hub.specs.HeldPins.{listed, HoldsAll}
use Rattle.group_hub.specs.declared.session.Session.{Session}
use Rattle.group_hub.specs.declared.session.Phase.{Phase}
use Rattle.group_hub.specs.declared.session.Phase.TheVariants as phases

-- a whole request that waits since a moment; nothing else does
abbrev pub waits_by : Verdict → ℕ → world.Phase
waits_by (Whole request) now = world.Waits request now
waits_by Open now = world.Early
waits_by EndedEarly now = world.Early
waits_by (Bad cause) now = world.Early

-- Where a session is, by what its pin is and by the state of the site: of a view that is drawn so much is left.
abbrev pub phase_of : {P : Type 0} → (P → Pinned) → SiteState → Phase P → world.Phase
phase_of pinned h (phases.Hearing s) = world.Heard s.reader.input.bytes
phase_of pinned h (phases.Waiting w) = waits_by (verdict_by w.reader.input) w.now
phase_of pinned h (phases.Replying r) = world.Reply (drop r.drawn r.bytes)
phase_of pinned h (phases.Drawing d) = world.Reply (rest_of d.view (body_at h (pinned d.pin) d.view))
phase_of pinned h phases.Drawn = world.Reply []
phase_of pinned h phases.Early = world.Early

abbrev pub session_of : {P : Type 0} → (P → Pinned) → SiteState → Session P → ℕ × world.Phase
session_of pinned h s = (s.id, phase_of pinned h s.phase)

abbrev pub sessions_of : {P : Type 0} → (P → Pinned) → SiteState → List (Session P) → List (ℕ × world.Phase)
sessions_of pinned h sessions = map (session_of pinned h) sessions

-- the pin that a session holds
abbrev pub pin_of : {P : Type 0} → (P → Pinned) → Phase P → Option Pinned
pin_of pinned (phases.Hearing s) = None
pin_of pinned (phases.Waiting w) = None
pin_of pinned (phases.Replying r) = None
pin_of pinned (phases.Drawing d) = Some (pinned d.pin)
pin_of pinned phases.Drawn = None
pin_of pinned phases.Early = None

-- all of them, with the one at a place behind the others
abbrev pub moved_last : {P : Type 0} → List (Session P) → ℕ → List (Session P)
moved_last sessions at = remove sessions at ++ take 1 (drop at sessions)

-- it waits with its post
abbrev pub is_waiting : {P : Type 0} → Phase P → Bool
is_waiting (phases.Hearing s) = false
is_waiting (phases.Waiting w) = true
is_waiting (phases.Replying r) = false
is_waiting (phases.Drawing d) = false
is_waiting phases.Drawn = false
is_waiting phases.Early = false

-- the pins of all sessions
abbrev pub pins_of : {P : Type 0} → (P → Pinned) → List (Session P) → List Pinned
pins_of pinned [] = []
pins_of pinned (s ∷ sessions) = listed (pin_of pinned s.phase) ++ pins_of pinned sessions

-- What a session draws is the view that its pin keeps, and some of it is left.
abbrev pub IsSound : {P : Type 0} → (P → Pinned) → SiteState → Phase P → Type 0
IsSound pinned h (phases.Hearing s) = Unit {0}
IsSound pinned h (phases.Waiting w) = Unit {0}
IsSound pinned h (phases.Replying r) = Unit {0}
IsSound pinned h (phases.Drawing d) = IsOf (body_at h (pinned d.pin) d.view) d.view × (rest_of d.view (body_at h (pinned d.pin) d.view) ≡ [] → ⊥)
IsSound pinned h phases.Drawn = Unit {0}
IsSound pinned h phases.Early = Unit {0}

-- Where all is drawn nothing is left, and else what is left is sound.
abbrev pub IsDrawn : {P : Type 0} → (P → Pinned) → SiteState → Bool → Phase P → Type 0
IsDrawn pinned h true phase = phase_of pinned h phase ≡ world.Reply []
IsDrawn pinned h false phase = IsSound pinned h phase

abbrev pub AreSound : {P : Type 0} → (P → Pinned) → SiteState → List (Session P) → Type 0
AreSound pinned h [] = Unit {0}
AreSound pinned h (s ∷ sessions) = IsSound pinned h s.phase × AreSound pinned h sessions

-- Sessions over a site: they hold all pins that are out, and each draws what its pin keeps.
pub record SessionsStand {P : Type 0} (pinned : P → Pinned) (h : SiteState) (items : List (Session P)) : Type 0 where
  pub held : HoldsAll h (pins_of pinned items)
  pub sound : IsTrue h.honest → AreSound pinned h items

-- What a call leaves of sessions over a site: they stand, and no more of them wait than before.
pub record KeepsSessions {P : Type 0} (pinned : P → Pinned) (old new : SiteState) (before after : List (Session P)) : Type 0 where
  pub held : HoldsAll new (pins_of pinned after)
  pub sound : IsTrue new.honest → AreSound pinned new after
  pub fewer : count_waiting (sessions_of pinned new after) ≤ count_waiting (sessions_of pinned old before)

-- ---- it is known or not

chunk_prop : (body : List ℕ) (buffer : List ℕ) (place : Option ℕ) → IsProp (IfSome place (λ k. take (length (chunk_of body k)) buffer ≡ chunk_of body k))
chunk_prop body buffer None x y = refl
chunk_prop body buffer (Some k) x y = let same : IsProp (take (length (chunk_of body k)) buffer ≡ chunk_of body k) = hlevel props in same x y

IsViewOf-prop : (body : List ℕ) (source : ViewSource) → IsProp (IsViewOf body source)
IsViewOf-prop body source x y = λ i. record { size = size_prop x.size y.size i; chunk = chunk_prop body source.buffer source.place x.chunk y.chunk i }
  where
    size_prop : IsProp (length body ≡ source.size)
    size_prop = hlevel props

IsSound-prop : {P : Type 0} (pinned : P → Pinned) (h : SiteState) (phase : Phase P) → IsProp (IsSound pinned h phase)
IsSound-prop pinned h (phases.Hearing s) x y = refl
IsSound-prop pinned h (phases.Waiting w) x y = refl
IsSound-prop pinned h (phases.Replying r) x y = refl
IsSound-prop pinned h (phases.Drawing d) x y = let view = IsViewOf-prop (body_at h (pinned d.pin) d.view) d.view.source in λ i. (view x.0 y.0 i, λ none. absurd_prop (x.1 none) (y.1 none) i)
  where
    absurd_prop : IsProp ⊥
    absurd_prop = hlevel props
IsSound-prop pinned h phases.Drawn x y = refl
IsSound-prop pinned h phases.Early x y = refl

AreSound_prop : {P : Type 0} (pinned : P → Pinned) (h : SiteState) (sessions : List (Session P)) → IsProp (AreSound pinned h sessions)
AreSound_prop pinned h [] x y = refl
AreSound_prop pinned h (s ∷ sessions) x y = λ i. (IsSound-prop pinned h s.phase x.0 y.0 i, AreSound_prop pinned h sessions x.1 y.1 i)

pub AreSound-prop : {P : Type 0} (pinned : P → Pinned) (h : SiteState) (sessions : List (Session P)) → IsProp (IsTrue h.honest → AreSound pinned h sessions)
AreSound-prop pinned h sessions = Π_prop (λ honest. AreSound_prop pinned h sessions)
