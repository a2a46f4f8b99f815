-- What the log gets for clients that have gone.
use Rattle.std.specs.Prelude.{◌≡◌, ℕ, Bool, true, false, Option, Some, None, List, [], ◌∷◌, ◌++◌, flat_map, codes}
use Rattle.std.specs.List.{list_any}
use Rattle.std.specs.Io.KnownBytes.{Appends}
use Rattle.turns.specs.WireCalls.{WireCall, HasMade, IsSent}
use Rattle.daily_turns.specs.ReadyConnections.{ending_of}
use Rattle.daily_turns.specs.declared.ready_connection.Ending.{Ending}
use Rattle.daily_turns.specs.declared.ready_connection.Ending.TheVariants.{Crowd}
use Rattle.daily_server.specs.Due.{bytes_by}
use Rattle.daily_server.specs.Lines.{log_line}
use Rattle.daily_server.specs.Origins.{address_text}
use Rattle.daily_server.specs.Sent.{asked_by, taken_by}
use Rattle.daily_server.specs.Stored.{stored_by}
use Rattle.daily_server.specs.DailyClients.{has_gone}
use Rattle.daily_server.specs.declared.crowd.Away.{Away}
use Rattle.daily_server.specs.declared.terms.LogForm.{LogForm}
use Rattle.daily_server.specs.declared.daily_client.DailyClient.{DailyClient}

-- The line of a client whose session ended so: when it had gone, its address, what it asked for, how many bytes it took, and the post that it stored.
abbrev pub line_of : LogForm → ℕ → DailyClient → Ending → List ℕ
line_of form moment client ending = log_line form moment (address_text client.from) (asked_by client.connection.wire.made.calls) ending (taken_by client.connection.wire.made.calls) (stored_by client.connection.wire.made.calls)

-- The line of one who was turned away: nothing was read of its connection.
abbrev pub crowd_line : LogForm → ℕ → Away → List ℕ
crowd_line form moment away = log_line form moment (address_text away.from) [] Crowd away.taken None

-- what stands in its place where there is no memory for it
abbrev pub no_memory_line : List ℕ
no_memory_line = codes "memory"

module _ {L : Type 0} (contents : L → Option (List ℕ)) where
  -- Bytes were written to a log by some writes, each of which was offered all that was left; `whole` says whether all were taken, and else the last write failed or took none. The log has what they took behind what it had, and nothing else. With the log stand its writes.
  pub record IsWritten (old new : L × List WireCall) (bytes : List ℕ) (whole : Bool) : Type 0 where
    pub sent : HasMade old.1 new.1 (λ made. IsSent bytes made whole)
    pub has : HasMade old.1 new.1 (λ made. Appends (contents old.0) (contents new.0) (flat_map bytes_by made))

  -- A line and an LF were written; or, where there was no memory for it, that there was none. The log has a front of that where a write fails or takes none.
  pub data HasLine (line : List ℕ) (old new : L × List WireCall) : Type 0 where
    line_written : (whole : Bool) → IsWritten old new (line ++ 10 ∷ []) whole → HasLine line old new
    no_memory : (whole : Bool) → IsWritten old new (no_memory_line ++ 10 ∷ []) whole → HasLine line old new

  -- what the log gets for a client: nothing while it is in, and else its line
  pub data IsTold (form : LogForm) (moment : ℕ) (client : DailyClient) (old new : L × List WireCall) : Type 0 where
    in_still : has_gone client ≡ false → new ≡ old → IsTold form moment client old new
    told : (ending : Ending) → ending_of client.connection.stage ≡ Some ending → HasLine (line_of form moment client ending) old new → IsTold form moment client old new

  -- and for one who was turned away
  abbrev pub IsToldOff : LogForm → ℕ → Away → L × List WireCall → L × List WireCall → Type 0
  IsToldOff form moment away old new = HasLine (crowd_line form moment away) old new

  -- what it gets for each of some, in order
  abbrev pub AllTold : {X : Type 0} → (X → L × List WireCall → L × List WireCall → Type 0) → List X → L × List WireCall → L × List WireCall → Type 0
  AllTold Tells [] old new = new ≡ old
  AllTold Tells (x ∷ xs) old new = (mid : L × List WireCall) × Tells x old mid × AllTold Tells xs mid new

  abbrev pub AreTold : LogForm → ℕ → List DailyClient → L × List WireCall → L × List WireCall → Type 0
  AreTold form moment clients old new = AllTold (IsTold form moment) clients old new

  abbrev pub AreToldOff : LogForm → ℕ → List Away → L × List WireCall → L × List WireCall → Type 0
  AreToldOff form moment crowd old new = AllTold (IsToldOff form moment) crowd old new

  -- What the log gets where those go out who have gone: nothing where nobody has, or was turned away; else what it gets for each, at one moment that a clock gave.
  pub data IsLogged (form : LogForm) (given_old given_new : List ℕ) (crowd : List Away) (clients : List DailyClient) (old new : L × List WireCall) : Type 0 where
    nobody : crowd ≡ [] → list_any has_gone clients ≡ false → given_new ≡ given_old → new ≡ old → IsLogged form given_old given_new crowd clients old new
    at : (moment : ℕ) (mid : L × List WireCall) → given_new ≡ given_old ++ moment ∷ [] → AreToldOff form moment crowd old mid → AreTold form moment clients mid new → IsLogged form given_old given_new crowd clients old new

-- What writes take of bytes that are sent is a front of them; and all of them, where the last write did not fail and took some.
abbrev pub TakesAFront : Type 0
TakesAFront = (bytes : List ℕ) (made : List WireCall) (whole : Bool) → IsSent bytes made whole → (left : List ℕ) × (bytes ≡ flat_map bytes_by made ++ left) × (whole ≡ true → left ≡ [])
