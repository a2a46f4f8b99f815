-- What was asked of an administrator's office over a wire, and what came back.
use Rattle.std.specs.Prelude.{◌≡◌, ◌⊎◌, ℕ, Bool, true, false, List, [], ◌∷◌, ◌++◌, length, map, IsUtf8}
use Rattle.std.specs.List.{concat}
use Rattle.turns.specs.WireCalls.{WireCall, Read, ReadFailed, IsSent}
use Rattle.admin_lines.specs.Heads.{apply_head}
use Rattle.admin_lines.specs.Replies.{reply}

-- The file was sent behind a head that was taken whole; behind one that wasn't, nothing is.
abbrev pub IsSentBehind : Bool → List ℕ → List WireCall → Type 0
IsSentBehind true file made = (whole : Bool) × IsSent file made whole
IsSentBehind false file made = made ≡ []

-- A file of changes was sent behind its head, as far as the wire took them.
pub record IsRequested (file : List ℕ) (made : List WireCall) : Type 0 where
  pub head : List WireCall
  pub body : List WireCall
  pub whole : Bool
  pub made_are : made ≡ head ++ body
  pub head_sent : IsSent (apply_head (length file)) head whole
  pub body_sent : IsSentBehind whole file body

-- a read of some bytes
abbrev pub piece_read : List ℕ → WireCall
piece_read piece = Read 2048 piece

-- It was read until the connection ended, or a read failed; or there was no end. What came is all that was read.
pub record IsAllHeard (reply : List ℕ) (made : List WireCall) : Type 0 where
  pub pieces : List (List ℕ)
  pub last : List WireCall
  pub reply_is : reply ≡ concat pieces
  pub made_are : made ≡ map piece_read pieces ++ last
  pub ends : (last ≡ Read 2048 [] ∷ []) ⊎ ((last ≡ ReadFailed 2048 ∷ []) ⊎ (last ≡ []))

-- A file was sent, and then what came was read.
pub record IsAsked (file reply : List ℕ) (made : List WireCall) : Type 0 where
  pub first : List WireCall
  pub second : List WireCall
  pub made_are : made ≡ first ++ second
  pub requested : IsRequested file first
  pub heard : IsAllHeard reply second

-- What came is no reply.
abbrev pub IsNoReply : List ℕ → Type 0
IsNoReply bytes = (done : Bool) (text : List ℕ) → IsUtf8 text → bytes ≡ reply done text → ⊥

-- A file was sent, and what came then is no reply.
abbrev pub IsAnsweredInVain : List ℕ → List WireCall → Type 0
IsAnsweredInVain file made = (bytes : List ℕ) × IsAsked file bytes made × IsNoReply bytes
