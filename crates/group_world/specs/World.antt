-- The world of a hub: a site, and for each session what it has heard, the post that waits, or what it is yet to be given.
use Rattle.std.specs.Prelude.{ℕ, ◌+◌, Bool, false, List, [], ◌∷◌, ◌++◌, Option, Some, None, if◌then◌else◌, ◌==◌}
use Rattle.host_types.specs.Site.{Site}
use Rattle.request_reader.specs.Request.{Request}

-- A session has heard a part of a request, or its post, asked for at a moment, waits for others, or its reply has so much left, or its input ended too early.
pub data Phase : Type 0 where
  Heard : List ℕ → Phase
  Waits : Request → ℕ → Phase
  Reply : List ℕ → Phase
  Early : Phase

-- The site as it stands, the number of the next session, whether a write or a sync has failed, whether posts wait to be made together, and the sessions with their numbers: those that wait stand in the order in which they came to wait.
pub record World : Type 0 where
  pub site : Site
  pub next : ℕ
  pub failed : Bool
  pub grouped : Bool
  pub sessions : List (ℕ × Phase)

-- before any session: posts are made one by one, or wait to be made together
abbrev pub started_as : Bool → Site → ℕ → World
started_as grouped site first = record { site = site; next = first; failed = false; grouped = grouped; sessions = [] }

abbrev pub phase_in : List (ℕ × Phase) → ℕ → Option Phase
phase_in [] id = None
phase_in (s ∷ sessions) id = if s.0 == id then Some s.1 else phase_in sessions id

abbrev pub phase_of : World → ℕ → Option Phase
phase_of w id = phase_in w.sessions id

abbrev pub moved_in : List (ℕ × Phase) → ℕ → Phase → List (ℕ × Phase)
moved_in [] id phase = []
moved_in (s ∷ sessions) id phase = if s.0 == id then (id, phase) ∷ sessions else s ∷ moved_in sessions id phase

-- the world with a session in another phase
abbrev pub with_phase : World → ℕ → Phase → World
with_phase w id phase = record w { sessions = moved_in w.sessions id phase }

abbrev pub others_in : List (ℕ × Phase) → ℕ → List (ℕ × Phase)
others_in [] id = []
others_in (s ∷ sessions) id = if s.0 == id then sessions else s ∷ others_in sessions id

-- the world without a session
abbrev pub without_session : World → ℕ → World
without_session w id = record w { sessions = others_in w.sessions id }

abbrev pub with_site : World → Site → World
with_site w site = record w { site = site }

-- ---- posts that wait

-- the world with a session whose post waits, behind all others
abbrev pub with_waiting : World → ℕ → Request → ℕ → World
with_waiting w id request now = record w { sessions = others_in w.sessions id ++ (id, Waits request now) ∷ [] }

abbrev pub one_waiting : Phase → ℕ
one_waiting (Waits request now) = 1
one_waiting phase = 0

-- how many posts wait
abbrev pub count_waiting : List (ℕ × Phase) → ℕ
count_waiting [] = 0
count_waiting (s ∷ sessions) = one_waiting s.1 + count_waiting sessions
