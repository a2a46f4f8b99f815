-- What a ledger keeps true of its fields.
use Rattle.std.specs.Prelude.{◌≡◌, ◌⊎◌, ◌<◌, ◌≤◌, ℕ, Bool, true, false, List, Option, Some, None, length, map, slice_index_or, if◌then◌else◌}
use Rattle.std.specs.List.{list_any}
use Rattle.page_alloc.specs.declared.life.Life.{Life}
use Rattle.page_alloc.specs.declared.life.Life.TheVariants.{Never, Since, Between}
use Rattle.page_alloc.specs.declared.ledger.Ledger.TheInside.{Inside}
use Rattle.page_alloc.specs.declared.runs.Starts.{Starts}
use Rattle.page_alloc.specs.Lives.{lives_at, ended_at}
use Rattle.page_alloc.specs.LedgerState.{Mark, Untouched, Taken, Retired, LedgerState, pinned}
use Rattle.page_alloc.specs.Runs.{Use, Root, Waiting, Retired as Leaving, Held, Taken as Coming, Free, use_at, use_of}

-- what the running commit did with a page of a use
abbrev pub mark_at : Use → Mark
mark_at Coming = Taken
mark_at Leaving = Retired
mark_at other = Untouched

abbrev pub marks_of : Starts → List ℕ → List Mark
marks_of starts places = map (λ place. mark_at (use_at starts place)) places

abbrev pub state : Starts → List ℕ → List Life → ℕ → List (Option ℕ) → LedgerState
state starts places lives generation pins = record { lives = lives; marks = marks_of starts places; generation = generation; pins = pins }

abbrev pub state_of : Inside → LedgerState
state_of a = state a.runs.starts a.runs.order.places.items a.lives.items a.generation a.pins

-- some pin that is out keeps the life
abbrev pub is_pinned : List (Option ℕ) → Life → Bool
is_pinned pins life = list_any (λ generation. lives_at generation life) (pinned pins)

-- ended by the generation
abbrev pub HasEnded : ℕ → Life → Type 0
HasEnded generation Never = Unit {0}
HasEnded generation (Since from) = ⊥
HasEnded generation (Between from until) = until ≤ generation

-- goes on at the generation
abbrev pub GoesOn : ℕ → Life → Type 0
GoesOn generation (Since from) = from ≤ generation
GoesOn generation life = ⊥

-- the life of a page of a use
abbrev pub Suits : ℕ → List (Option ℕ) → ℕ → Life → Use → Type 0
Suits generation pins page life Root = (page < 2) × (life ≡ Never)
Suits generation pins page life Waiting = (2 ≤ page) × HasEnded generation life × (is_pinned pins life ≡ true)
Suits generation pins page life Leaving = (2 ≤ page) × GoesOn generation life
Suits generation pins page life Held = (2 ≤ page) × GoesOn generation life
Suits generation pins page life Coming = (2 ≤ page) × HasEnded generation life × (is_pinned pins life ≡ false)
Suits generation pins page life Free = (2 ≤ page) × HasEnded generation life × (is_pinned pins life ≡ false)

abbrev pub AtMost : ℕ → Option ℕ → Type 0
AtMost generation None = Unit {0}
AtMost generation (Some other) = other ≤ generation

pub record KeepsLedger (starts : Starts) (places : List ℕ) (pages : ℕ) (lives : List Life) (generation : ℕ) (pins : List (Option ℕ)) : Type 0 where
  pub size : length lives ≡ pages
  pub pin_count : length pins ≡ 32
  pub suits : (page : ℕ) → page < pages → Suits generation pins page (slice_index_or lives page Never) (use_of starts places page)
  pub past : (number : ℕ) → AtMost generation (slice_index_or pins number None)

abbrev pub IsConsistent : Inside → Type 0
IsConsistent a = KeepsLedger a.runs.starts a.runs.order.places.items (length a.runs.order.pages.items) a.lives.items a.generation a.pins

-- a waiting page is free where no pin keeps it any longer
abbrev pub swept : List (Option ℕ) → Life → Use → Use
swept pins life Waiting = if is_pinned pins life then Waiting else Free
swept pins life other = other

-- from a generation on, where the running commit took the page
abbrev pub begun : ℕ → Life → Use → Life
begun generation life Coming = Since generation
begun generation life other = life

-- before a generation, where the running commit retired the page
abbrev pub ended_if_retired : ℕ → Life → Use → Life
ended_if_retired generation life Leaving = ended_at generation life
ended_if_retired generation life other = life

-- a page is swept already, or still waits at a place below one
abbrev pub SweptSoFar : List (Option ℕ) → Life → ℕ → ℕ → Use → Use → Type 0
SweptSoFar pins life left place old new = (new ≡ swept pins life old) ⊎ ((new ≡ Waiting) × (old ≡ Waiting) × (place < left))
