-- What the hub was told of what a client sent.
use Rattle.std.specs.Prelude.{◌≡◌, ℕ, Bool, true, false, List, [], ◌∷◌, ◌++◌, flat_map}
use Rattle.std.specs.List.{list_any}
use Rattle.group_world.specs.declared.event.Event.{Event}
use Rattle.group_world.specs.declared.event.Event.TheVariants.{Join, Bytes, End, Draw, Leave, Admin, Flush}
use Rattle.group_world.specs.declared.event.Outcome.{Outcome}
use Rattle.old_clients.specs.AdaptedRequest.{adapted_request}
use Rattle.old_clients.specs.Streams.{will_pass}
use Rattle.turns.specs.WireCalls.{WireCall, Read, ReadFailed, ReadWaited, Wrote, WriteFailed, WriteWaited, Closed}
use Rattle.daily_server.specs.Sent.{read_by}
use Rattle.daily_server.specs.DailyClients.{HadTurn, WasTurnedDown, Learned, WasDismissed, IsNew, woken}
use Rattle.daily_server.specs.declared.terms.Terms.{Terms}
use Rattle.daily_server.specs.declared.daily_client.DailyClient.{DailyClient}

-- the bytes that an event tells of
abbrev pub bytes_told : Event → List ℕ
bytes_told Join = []
bytes_told (Bytes id piece now) = piece
bytes_told (End id now) = []
bytes_told (Draw id room) = []
bytes_told (Leave id) = []
bytes_told (Admin change now) = []
bytes_told Flush = []

-- What some events of a client's session tell of. What is told right before a flush is told once more behind it.
abbrev pub all_told : List Event → List ℕ
all_told [] = []
all_told (e ∷ Flush ∷ es) = all_told es
all_told (e ∷ es) = bytes_told e ++ all_told es

-- a read that found the end
abbrev pub is_end : WireCall → Bool
is_end (Read room []) = true
is_end (Read room (b ∷ bytes)) = false
is_end (ReadFailed room) = false
is_end (ReadWaited room) = false
is_end (Wrote bytes taken) = false
is_end (WriteFailed bytes) = false
is_end (WriteWaited bytes) = false
is_end Closed = false

-- what is passed on of what a client sends, by whether it is taken for an old one
abbrev pub passed_on : Bool → List ℕ → List ℕ
passed_on true sent = adapted_request sent
passed_on false sent = sent

-- Until the end is found: whatever is read next, what was told and what the client's adapter will pass on are what is passed on of all that was read.
abbrev pub WasTold : Bool → List ℕ → DailyClient → Type 0
WasTold old_client told client = list_any is_end client.connection.wire.made.calls ≡ false → (rest : List ℕ) → told ++ will_pass client.connection.adapter.asks rest ≡ passed_on old_client (flat_map read_by client.connection.wire.made.calls ++ rest)

-- So it is for who comes in, behind each turn, and behind all else that is done for a client.
pub record TellsWhatIsSent : Type 0 where
  pub at_first : (terms : Terms) (now : ℕ) (outcome : Outcome) (client : DailyClient) → IsNew terms now outcome client → WasTold terms.old_clients [] client
  pub by_turn : (old_client : Bool) (told : List ℕ) (now : ℕ) (old new : DailyClient) (es : List Event) (os : List Outcome) → WasTold old_client told old → HadTurn now old es os new → WasTold old_client (told ++ all_told es) new
  pub by_refusal : (old_client : Bool) (told : List ℕ) (old new : DailyClient) (es : List Event) (os : List Outcome) → WasTold old_client told old → WasTurnedDown old es os new → WasTold old_client (told ++ all_told es) new
  pub by_learning : (old_client : Bool) (told : List ℕ) (old new : DailyClient) (es : List Event) (os : List Outcome) → WasTold old_client told old → Learned old es os new → WasTold old_client (told ++ all_told es) new
  pub by_dismissal : (old_client : Bool) (told : List ℕ) (now : ℕ) (old new : DailyClient) (es : List Event) (os : List Outcome) → WasTold old_client told old → WasDismissed now old es os new → WasTold old_client (told ++ all_told es) new
  pub by_wait : (old_client : Bool) (told : List ℕ) (client : DailyClient) → WasTold old_client told client → WasTold old_client told (woken client)
