-- What is done on a wire, and how bytes are sent over it.
use Rattle.std.specs.Prelude.{◌≡◌, ◌≢◌, ◌⊎◌, ℕ, Bool, true, false, List, [], ◌∷◌, ◌++◌, Result, Ok, Err, All, length, take}
use Rattle.std.specs.List.{concat}
use Rattle.turns.specs.declared.call_log.WireCallKind.{WireCallKind}
use Rattle.turns.specs.declared.call_log.WireCallKind.TheVariants as kinds

-- A call of a wire, with what it was given and what it gave: a read, by its room and the bytes that were read, none at the end; a write, by the bytes that it was offered
-- and how many of them were taken. One that waited would have had to wait, and did nothing.
pub data WireCall : Type 0 where
  Read : ℕ → List ℕ → WireCall
  ReadFailed : ℕ → WireCall
  ReadWaited : ℕ → WireCall
  Wrote : List ℕ → ℕ → WireCall
  WriteFailed : List ℕ → WireCall
  WriteWaited : List ℕ → WireCall
  Closed : WireCall

-- a call that is noted by its kind and its bytes
abbrev pub call_of : WireCallKind → List ℕ → WireCall
call_of (kinds.Read room) bytes = Read room bytes
call_of (kinds.ReadFailed room) bytes = ReadFailed room
call_of (kinds.ReadWaited room) bytes = ReadWaited room
call_of (kinds.Wrote taken) bytes = Wrote bytes taken
call_of kinds.WriteFailed bytes = WriteFailed bytes
call_of kinds.WriteWaited bytes = WriteWaited bytes
call_of kinds.Closed bytes = Closed

-- a read into a buffer
abbrev pub read_call : {E : Type 0} → Result ℕ E → List ℕ → WireCall
read_call (Ok n) buffer = Read (length buffer) (take n buffer)
read_call (Err _) buffer = ReadFailed (length buffer)

-- a write of some bytes
abbrev pub write_call : {E : Type 0} → Result ℕ E → List ℕ → WireCall
write_call (Ok n) bytes = Wrote bytes n
write_call (Err _) bytes = WriteFailed bytes

-- Some calls were made, and this holds of them.
abbrev pub HasMade : List WireCall → List WireCall → (List WireCall → Type 0) → Type 0
HasMade old new P = (made : List WireCall) × (new ≡ old ++ made) × P made

-- The writes that took these pieces, one after another: each was offered all that was left by then.
abbrev pub writes_of : List (List ℕ) → List ℕ → List WireCall
writes_of [] left = []
writes_of (piece ∷ pieces) left = Wrote (piece ++ (concat pieces ++ left)) (length piece) ∷ writes_of pieces left

-- The last call of a sending: none where all bytes are taken; else a write of all that was left, which failed or took none.
abbrev pub IsLastWrite : Bool → List ℕ → List WireCall → Type 0
IsLastWrite true left last = (left ≡ []) × (last ≡ [])
IsLastWrite false left last = (left ≢ []) × ((last ≡ WriteFailed left ∷ []) ⊎ (last ≡ Wrote left 0 ∷ []))

-- Bytes were sent by some writes, each of which was offered all that was left and took the next of them, and `whole` says whether all were taken.
pub record IsSent (bytes : List ℕ) (made : List WireCall) (whole : Bool) : Type 0 where
  pub taken : List (List ℕ)
  pub left : List ℕ
  pub last : List WireCall
  pub bytes_are : bytes ≡ concat taken ++ left
  pub each : All (λ piece. piece ≢ []) taken
  pub made_are : made ≡ writes_of taken left ++ last
  pub ends : IsLastWrite whole left last
