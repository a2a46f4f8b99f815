-- What holds of all heads and replies.
use Rattle.std.specs.Prelude.{◌≡◌, ℕ, ◌≤◌, Bool, true, false, Some, Ok, Err, List, ◌++◌, length}
use Rattle.admin_lines.specs.Heads.{most_bytes, apply_head, head_in}
use Rattle.admin_lines.specs.Holds.{is_hold}
use Rattle.admin_lines.specs.Replies.{first_line, reply, reply_in, reply_of}
use Rattle.admin_lines.specs.declared.head.RequestHead.{RequestHead}
use Rattle.admin_lines.specs.declared.fault.RequestFault.{RequestFault}

-- a head for so many bytes that begins the file behind itself
abbrev pub behind : ℕ → RequestHead
behind count = record { start = length (apply_head count); count = count }

-- What a head was written for is read from it, whatever stands behind it.
abbrev pub HeadsAreRead : Type 0
HeadsAreRead = (count : ℕ) (rest : List ℕ) → count ≤ most_bytes → head_in (apply_head count ++ rest) ≡ Ok (Some (behind count))

-- What the first bytes say they say with whatever comes behind them.
pub record WhatIsReadStays : Type 0 where
  pub read : (bytes more : List ℕ) (head : RequestHead) → head_in bytes ≡ Ok (Some head) → head_in (bytes ++ more) ≡ Ok (Some head)
  pub hold : (bytes more : List ℕ) → is_hold bytes ≡ true → is_hold (bytes ++ more) ≡ true
  pub refused : (bytes more : List ℕ) (fault : RequestFault) → head_in bytes ≡ Err fault → head_in (bytes ++ more) ≡ Err fault

-- What a reply was written for is read from it.
abbrev pub RepliesAreRead : Type 0
RepliesAreRead = (done : Bool) (text : List ℕ) → reply_in (reply done text) ≡ Ok (reply_of done (length (first_line done)))
