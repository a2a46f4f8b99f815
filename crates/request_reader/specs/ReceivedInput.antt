-- What a reader has heard, and what it was before the last piece or end, where that was taken.
use Rattle.std.specs.Prelude.{ℕ, Bool, true, false, List, [], ◌++◌, Option, Some, None, unwrap_or, if◌then◌else◌}
use Rattle.request_reader.specs.Verdict.{Verdict, verdict, is_open}

-- The bytes that came, and whether the input ended behind them.
pub record Input : Type 0 where
  pub bytes : List ℕ
  pub ended : Bool

pub record ReceivedInput : Type 0 where
  pub input : Input
  pub before : Option Input

abbrev pub verdict_by : Input → Verdict
verdict_by input = verdict input.bytes input.ended

-- nothing heard
abbrev pub silence : ReceivedInput
silence = record { input = record { bytes = []; ended = false }; before = None }

-- a call that takes nothing
abbrev pub unmarked : ReceivedInput → ReceivedInput
unmarked h = record { input = h.input; before = None }

-- a call that takes something, while nothing is said yet
abbrev pub taken : ReceivedInput → Input → ReceivedInput
taken h input = if is_open (verdict_by h.input) then record { input = input; before = Some h.input } else unmarked h

-- one more piece
abbrev pub fed : ReceivedInput → List ℕ → ReceivedInput
fed h piece = taken h (record { bytes = h.input.bytes ++ piece; ended = h.input.ended })

-- the end of input
abbrev pub finished : ReceivedInput → ReceivedInput
finished h = taken h (record { bytes = h.input.bytes; ended = true })

-- what the call just before took is taken back
abbrev pub undone : ReceivedInput → ReceivedInput
undone h = record { input = unwrap_or h.before h.input; before = None }
