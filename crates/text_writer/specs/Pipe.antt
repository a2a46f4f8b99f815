-- A text by chunks of its body and by parts of the text.
use Rattle.std.specs.Prelude.{◌≡◌, ℕ, List, [], ◌∷◌, ◌++◌, Option, None, Some, drop, flat_map}
use Rattle.text_writer.specs.Place.{body_start, given_from}
use Rattle.text_writer.specs.declared.place.LinePlace.{LinePlace}

-- What a pipe is seen as: bytes that are ready to be given, and the place in the body, or none once the body has ended.
pub record Piped : Type 0 where
  pub ready : List ℕ
  pub place : Option LinePlace

-- what the rest of the body gives; nothing once the body has ended
abbrev pub given_behind : Option LinePlace → List ℕ → List ℕ
given_behind None rest = []
given_behind (Some place) rest = given_from place rest

-- what the pipe will give, where this is the rest of the body
abbrev pub will_give : Piped → List ℕ → List ℕ
will_give pipe rest = pipe.ready ++ given_behind pipe.place rest

-- the pipe before its body's first byte
abbrev pub fresh : Piped
fresh = record { ready = []; place = Some body_start }

-- So many bytes of the chunk were taken and this part was given: whatever follows the chunk, the part and what the pipe will give are what it was to give.
abbrev pub PassesText : Piped → List ℕ → ℕ → List ℕ → Piped → Type 0
PassesText old chunk taken part new = (more : List ℕ) → part ++ will_give new (drop taken chunk ++ more) ≡ will_give old (chunk ++ more)

-- The body ended here, and this part was given: the part and what is ready are what the pipe was to give.
abbrev pub EndsText : Piped → List ℕ → Piped → Type 0
EndsText old part new = (rest : List ℕ) → part ++ will_give new rest ≡ will_give old []

-- a call of `next` or of `finish`
pub data PipeCall : Type 0 where
  Next : (chunk : List ℕ) (taken : ℕ) (part : List ℕ) → PipeCall
  Finish : (part : List ℕ) → PipeCall

abbrev pub part_of : PipeCall → List ℕ
part_of (Next chunk taken part) = part
part_of (Finish part) = part

-- A call, the pipe before and after it, and the rest of the body then. A chunk is any front of the rest, and a pipe is finished once nothing is left of it.
abbrev pub HasCalled : Piped → List ℕ → PipeCall → Piped → List ℕ → Type 0
HasCalled old rest (Next chunk taken part) new left = (more : List ℕ) × (rest ≡ chunk ++ more) × (left ≡ drop taken chunk ++ more) × PassesText old chunk taken part new
HasCalled old rest (Finish part) new left = (rest ≡ []) × (left ≡ []) × EndsText old part new

-- calls in turn
abbrev pub HasPiped : Piped → List ℕ → List PipeCall → Piped → List ℕ → Type 0
HasPiped old rest [] new left = (old ≡ new) × (rest ≡ left)
HasPiped old rest (call ∷ calls) new left = (between : Piped) × (later : List ℕ) × HasCalled old rest call between later × HasPiped between later calls new left

-- all parts that calls gave
abbrev pub parts_of : List PipeCall → List ℕ
parts_of calls = flat_map part_of calls
