-- What was asked of an office that is to hold still, and what came back.
use Rattle.std.specs.Prelude.{◌≡◌, ◌≢◌, ℕ, Bool, true, false, List, [], ◌∷◌, ◌++◌, length}
use Rattle.turns.specs.WireCalls.{WireCall, Read, IsSent}
use Rattle.admin_lines.specs.Holds.{hold_line, held_line}
use Rattle.admin_client.specs.Asking.{IsAllHeard, IsNoReply}

-- one read, which gave that line and nothing else, or something else
abbrev pub HearsHeld : List WireCall → Bool → Type 0
HearsHeld made true = made ≡ Read (length held_line) held_line ∷ []
HearsHeld made false = (call : WireCall) × (made ≡ call ∷ []) × (call ≢ Read (length held_line) held_line)

-- by whether the request was taken whole: behind one that wasn't nothing is read
abbrev pub HearsBehind : Bool → List WireCall → Bool → Type 0
HearsBehind true made held = HearsHeld made held
HearsBehind false made held = (made ≡ []) × (held ≡ false)

-- It was asked, and answered that it holds still, or not.
pub record IsHoldAsked (made : List WireCall) (held : Bool) : Type 0 where
  pub first : List WireCall
  pub second : List WireCall
  pub whole : Bool
  pub made_are : made ≡ first ++ second
  pub sent : IsSent hold_line first whole
  pub heard : HearsBehind whole second held

-- It was let go on by an LF, as far as that was taken, and then what came was read.
pub record IsReleased (reply : List ℕ) (made : List WireCall) : Type 0 where
  pub first : List WireCall
  pub second : List WireCall
  pub whole : Bool
  pub made_are : made ≡ first ++ second
  pub sent : IsSent (10 ∷ []) first whole
  pub heard : IsAllHeard reply second

-- and that is no reply
abbrev pub IsReleasedInVain : List WireCall → Type 0
IsReleasedInVain made = (bytes : List ℕ) × IsReleased bytes made × IsNoReply bytes
