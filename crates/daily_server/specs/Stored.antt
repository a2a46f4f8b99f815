-- The post that a line of the log names: a request with data has `1` behind its second tab (the Gopher+ paper, section 2), and the reply is a line of the item that was stored, whose selector stands behind its first tab (RFC 1436, section 3.4).
use Rattle.std.specs.Prelude.{ℕ, ◌+◌, ◌==◌, Bool, ◌&&◌, if◌then◌else◌, nat_eq, List, [], ◌∷◌, ◌++◌, drop, flat_map, take, Option, Some, None, codes, position}
use Rattle.std.specs.List.{starts_with}
use Rattle.turns.specs.WireCalls.{WireCall, Read, ReadFailed, ReadWaited, Wrote, WriteFailed, WriteWaited, Closed}
use Rattle.daily_server.specs.Heads.{selector_in, up_to}
use Rattle.daily_server.specs.Sent.{head_of}

abbrev pub is_tab : ℕ → Bool
is_tab b = b == 9

abbrev pub is_lf : ℕ → Bool
is_lf b = b == 10

abbrev pub behind : Option ℕ → List ℕ → List ℕ
behind (Some place) bytes = drop (place + 1) bytes
behind None bytes = []

abbrev pub behind_tab : List ℕ → List ℕ
behind_tab bytes = behind (position is_tab bytes) bytes

abbrev pub line_in : List ℕ → List ℕ
line_in bytes = up_to (position is_lf bytes) bytes

-- a request with this front has data
abbrev pub has_data : List ℕ → Bool
has_data request = starts_with nat_eq (behind_tab (behind_tab (line_in request))) (codes "1")

-- the head of a reply that ends with a line that is one period
abbrev pub reply_head : List ℕ
reply_head = codes "+-1" ++ 13 ∷ 10 ∷ []

-- the selector in the first line of a reply with this front
abbrev pub named_by : List ℕ → Option (List ℕ)
named_by reply = if starts_with nat_eq reply reply_head then Some (selector_in (behind_tab (drop 5 reply))) else None

-- the bytes that a call offered
abbrev pub offered_by : WireCall → List ℕ
offered_by (Read room bytes) = []
offered_by (ReadFailed room) = []
offered_by (ReadWaited room) = []
offered_by (Wrote bytes taken) = bytes
offered_by (WriteFailed bytes) = bytes
offered_by (WriteWaited bytes) = bytes
offered_by Closed = []

-- the first 256 bytes that were offered: what is offered again stands behind them
abbrev pub told_of : List WireCall → List ℕ
told_of calls = take 256 (flat_map offered_by calls)

-- the post that these calls tell of, where the request had data
abbrev pub stored_by : List WireCall → Option (List ℕ)
stored_by calls = if has_data (head_of calls) then named_by (told_of calls) else None
