-- Rounds of connections.
use Rattle.std.specs.Prelude.{◌≡◌, ◌≤◌, ◌<◌, ℕ, ◌+◌, ◌-◌, ◌^◌, min, Bool, true, false, List, [], ◌++◌, Result, Ok, Err, All, length, map, filter}
use Rattle.host_types.specs.AllChanges.{Changes}
use Rattle.host_types.specs.CrashStates.{CrashStates}
use Rattle.host_types.specs.Site.{Site}
use Rattle.host_types.specs.SiteState.{SiteState}
use Rattle.host_types.specs.declared.site_fault.SiteFault.{SiteFault}
use Rattle.group_hub.specs.Calls.{HubRun}
use Rattle.group_hub.specs.Hub.{keeper_of}
use Rattle.group_world.specs.declared.event.Event.{Event}
use Rattle.group_world.specs.declared.event.Outcome.{Outcome}
use Rattle.group_hub.specs.declared.hub.Hub.{Hub}
use Rattle.turns.specs.Runs.{HasRun}
use Rattle.turns.specs.Turns.{Serves, is_served}
use Rattle.turns.specs.declared.connection.Connection.{Connection}
use Rattle.turns.specs.declared.connection.Stage.TheVariants.{New}
use Rattle.socket_wires.specs.Taking.{IsFreshWire, TooFewCame, had}
use Rattle.socket_wires.specs.declared.gate.Taken.{Taken}
use Rattle.socket_wires.specs.declared.serving.ServeFault.{ServeFault}
use Rattle.socket_wires.specs.declared.serving.ServeFault.TheVariants.{Net, Memory, Failed}
use Rattle.socket_wires.specs.declared.socket_wire.SocketWire.{SocketWire}

-- So many connections, on which nothing was done yet.
pub record IsFresh (together : ℕ) (connections : List (Connection SocketWire)) : Type 0 where
  pub size : length connections ≡ together
  pub are_new : All (λ c. (c.stage ≡ New) × IsFreshWire c.wire) connections

-- One round: fresh connections, which are all that were taken, are served, and those whose replies were written whole are counted.
pub record Round (together before : ℕ) (taken : List Taken) (es : List Event) (os : List Outcome) (after : ℕ) : Type 0 where
  pub old : List (Connection SocketWire)
  pub new : List (Connection SocketWire)
  pub fresh : IsFresh together old
  pub taken_are : taken ≡ map had old
  pub serves : Serves (λ (wire : SocketWire). wire.made.calls) old es os new
  pub counted : after ≡ min (before + length (filter (λ c. is_served c.stage) new)) (2 ^ 64 - 1)

-- Why it ends, by whether the site is usable then, by how many rounds were made, and by what was taken behind the last of them: with the count where all were made and the site is usable; with `Failed` where it is not; else before the last round, for connections that
-- were not had or that found no memory.
abbrev pub EndsRounds : Result ℕ ServeFault → Bool → ℕ → ℕ → ℕ → ℕ → List Taken → Type 0
EndsRounds (Ok served) usable together made rounds count rest = (usable ≡ true) × (made ≡ rounds) × (served ≡ count) × (rest ≡ [])
EndsRounds (Err Failed) usable together made rounds count rest = (usable ≡ false) × (rest ≡ [])
EndsRounds (Err Net) usable together made rounds count rest = (usable ≡ true) × (made < rounds) × TooFewCame together Net rest
EndsRounds (Err Memory) usable together made rounds count rest = (usable ≡ true) × (made < rounds) × TooFewCame together Memory rest

module _ {H : Type 0} (ran : H → List Event → List Outcome → H → Type 0) (usable : H → Bool) (together : ℕ) where
  -- so many rounds, one after another, each on a hub that is usable, by these events and of these connections
  pub data Rounds : ℕ → H → List Taken → List Event → List Outcome → H → ℕ → Type 0 where
    none : (hub : H) → Rounds 0 hub [] [] [] hub 0
    more : (rounds before after : ℕ) (old mid new : H) (ts us : List Taken) (es fs : List Event) (os ps : List Outcome) → Rounds rounds old ts es os mid before → usable mid ≡ true → ran mid fs ps new → Round together before us fs ps after → Rounds (rounds + 1) old (ts ++ us) (es ++ fs) (os ++ ps) new after

  -- Rounds were made by these events, and why it ended; and no other connection was asked for.
  pub record IsServing (rounds : ℕ) (result : Result ℕ ServeFault) (taken_before taken_now : List Taken) (old : H) (es : List Event) (os : List Outcome) (new : H) : Type 0 where
    pub made : ℕ
    pub count : ℕ
    pub taken : List Taken
    pub rest : List Taken
    pub few : made ≤ rounds
    pub are : Rounds made old taken es os new count
    pub taken_are : taken_now ≡ taken_before ++ (taken ++ rest)
    pub ends : EndsRounds result (usable new) together made rounds count rest

-- All that was done to a hub is a run, by the events of these rounds; and all connections that were asked for are those of these rounds.
abbrev pub ServesRounds : {S L : Type 0} {bound : _} {ghosts : _} → (S → SiteState) → (S → Changes → SiteFault → Type 0) → (S → CrashStates L) → (L → Site → Type 0) → ℕ → ℕ → Result ℕ ServeFault → List Taken → List Taken → Hub S bound ghosts → Hub S bound ghosts → List ℕ → List ℕ → Type 0
ServesRounds site_state lacks crash_states stands together rounds result taken_before taken_now old new told_before told_now = HasRun (HubRun site_state lacks crash_states stands) old new told_before told_now (λ es os.
    IsServing (HubRun site_state lacks crash_states stands) (λ hub. (site_state (keeper_of hub)).usable) together rounds result taken_before taken_now old es os new)
