-- Adapters that are fed by chunks and give by parts.
use Rattle.std.specs.Prelude.{◌≡◌, ◌≤◌, ℕ, Bool, true, false, List, [], ◌∷◌, ◌++◌, if◌then◌else◌, length, drop, flat_map}
use Rattle.std.specs.List.{list_any}
use Rattle.host_types.specs.Lines.{is_lf}
use Rattle.request_reader.specs.Lines.{longest_line}
use Rattle.old_clients.specs.AdaptedRequest.{adapted_request, is_rewritten}
use Rattle.old_clients.specs.Place.{given_from}
use Rattle.old_clients.specs.declared.place.Place.{Place}
use Rattle.old_clients.specs.declared.place.Place.TheVariants.{Head, Behind}

-- ---- requests

-- What an adapter of requests is seen as: whether the first line has not ended, what came or is passed on of it and was not given, and whether it was rewritten.
pub record Hearing : Type 0 where
  pub hears : Bool
  pub held : List ℕ
  pub rewritten : Bool

-- what it will pass on, where this is the rest of the input
abbrev pub will_pass : Hearing → List ℕ → List ℕ
will_pass adapter rest = if adapter.hears then adapted_request (adapter.held ++ rest) else adapter.held ++ rest

-- whether the first line will have been rewritten
abbrev pub will_rewrite : Hearing → List ℕ → Bool
will_rewrite adapter rest = if adapter.hears then is_rewritten (adapter.held ++ rest) else adapter.rewritten

-- It holds a line back only while the LF has not come, and no more than 1,024 bytes.
abbrev pub IsWaiting : Hearing → Type 0
IsWaiting adapter = adapter.hears ≡ true → (list_any is_lf adapter.held ≡ false) × (length adapter.held ≤ longest_line)

-- the adapter before the input's first byte
abbrev pub fresh_request : Hearing
fresh_request = record { hears = true; held = []; rewritten = false }

-- ---- replies

-- What an adapter of replies is seen as: bytes that are ready to be given, and the place in the reply.
pub record Informing : Type 0 where
  pub ready : List ℕ
  pub place : Place

-- what it will give, where this is the rest of the reply
abbrev pub will_give : Informing → List ℕ → List ℕ
will_give adapter rest = adapter.ready ++ given_from adapter.place rest

-- the adapter before the reply's first byte, told whether the request was rewritten
abbrev pub fresh_reply : Bool → Informing
fresh_reply rewritten = record { ready = []; place = if rewritten then Head 0 else Behind }

-- ---- calls of both

-- So many bytes of the chunk were taken and this part was given: whatever follows the chunk, the part and what the adapter will give are what it was to give.
abbrev pub Passes : {S : Type 0} → (S → List ℕ → List ℕ) → S → List ℕ → ℕ → List ℕ → S → Type 0
Passes gives old chunk taken part new = (more : List ℕ) → part ++ gives new (drop taken chunk ++ more) ≡ gives old (chunk ++ more)

-- The input ended here, and this part was given: the part and what the adapter will give are what it was to give.
abbrev pub Ends : {S : Type 0} → (S → List ℕ → List ℕ) → S → List ℕ → S → Type 0
Ends gives old part new = part ++ gives new [] ≡ gives old []

-- the same is said of what follows the chunk as was of the chunk
abbrev pub Keeps : {S : Type 0} → (S → List ℕ → Bool) → S → List ℕ → ℕ → S → Type 0
Keeps tells old chunk taken new = (more : List ℕ) → tells new (drop taken chunk ++ more) ≡ tells old (chunk ++ more)

-- a call of `next` or of `finish`
pub data Call : Type 0 where
  Next : (chunk : List ℕ) (taken : ℕ) (part : List ℕ) → Call
  Finish : (part : List ℕ) → Call

abbrev pub part_of : Call → List ℕ
part_of (Next chunk taken part) = part
part_of (Finish part) = part

abbrev pub parts_of : List Call → List ℕ
parts_of calls = flat_map part_of calls

-- A call, the adapter before and after it, and the rest of the input then. A chunk is any front of the rest.
abbrev pub HasPassed : Hearing → List ℕ → Call → Hearing → List ℕ → Type 0
HasPassed old rest (Next chunk taken part) new left = (more : List ℕ) × (rest ≡ chunk ++ more) × (left ≡ drop taken chunk ++ more) × Passes will_pass old chunk taken part new × Keeps will_rewrite old chunk taken new
HasPassed old rest (Finish part) new left = (rest ≡ []) × (left ≡ []) × Ends will_pass old part new × (will_rewrite new [] ≡ will_rewrite old [])

abbrev pub HasGiven : Informing → List ℕ → Call → Informing → List ℕ → Type 0
HasGiven old rest (Next chunk taken part) new left = (more : List ℕ) × (rest ≡ chunk ++ more) × (left ≡ drop taken chunk ++ more) × Passes will_give old chunk taken part new
HasGiven old rest (Finish part) new left = (rest ≡ []) × (left ≡ []) × Ends will_give old part new

-- calls in turn
abbrev pub HasAdapted : {S : Type 0} → (S → List ℕ → Call → S → List ℕ → Type 0) → S → List ℕ → List Call → S → List ℕ → Type 0
HasAdapted {S} Called old rest [] new left = (old ≡ new) × (rest ≡ left)
HasAdapted {S} Called old rest (call ∷ calls) new left = (between : S) × (later : List ℕ) × Called old rest call between later × HasAdapted Called between later calls new left
