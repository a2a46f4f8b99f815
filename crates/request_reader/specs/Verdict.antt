-- What a stream of bytes says, with a mark whether it ended there. This project's profile.
use Rattle.std.specs.Prelude.{ℕ, Bool, true, false, List, if◌then◌else◌, length, take, map, nat_le, Some, None, Result, Ok, Err}
use Rattle.std.specs.List.{list_any, before_first}
use Rattle.host_types.specs.Lines.{lines}
use Rattle.request_reader.specs.Request.{Request}
use Rattle.request_reader.specs.Lines.{Cut, NotYet, TooLate, Line, first_line, ended_lines}
use Rattle.request_reader.specs.RequestLine.{ParsedRequest, parsed_line}
use Rattle.request_reader.specs.DataHead.{extent_of}
use Rattle.request_reader.specs.DataLines.{is_period, unstuffed, room, is_too_much}
use Rattle.request_reader.specs.declared.data_head.Extent.{Extent}
use Rattle.request_reader.specs.declared.data_head.Extent.TheVariants.{ToPeriod, ToEnd, Count}
use Rattle.request_reader.specs.declared.cause.Cause.{Cause}
use Rattle.request_reader.specs.declared.cause.Cause.TheVariants.{TooLong}

-- More has to come, or the input ended too early, or it is a whole request, or it is none.
pub data Verdict : Type 0 where
  Open : Verdict
  Early : Verdict
  Whole : Request → Verdict
  Bad : Cause → Verdict

-- not whole yet
abbrev pub pending : Bool → Verdict
pending ended = if ended then Early else Open

abbrev pub without_data : ParsedRequest → Request
without_data a = record { selector = a.selector; search = a.search; plus = a.plus; lines = None }

abbrev pub with_data : ParsedRequest → List (List ℕ) → Request
with_data a given = record { selector = a.selector; search = a.search; plus = a.plus; lines = Some given }

-- What the bytes behind the head line of data say.
abbrev pub data_verdict : ParsedRequest → Extent → List ℕ → Bool → Verdict
data_verdict a (Count n) stream ended =
    if nat_le n (length stream) then Whole (with_data a (lines (take n stream))) else pending ended
data_verdict a ToEnd stream ended =
    if is_too_much stream then Bad TooLong
    else if ended then Whole (with_data a (lines stream))
    else Open
data_verdict a ToPeriod stream ended =
    if list_any is_period (ended_lines (room stream)) then Whole (with_data a (map unstuffed (before_first is_period (ended_lines (room stream)))))
    else if is_too_much stream then Bad TooLong
    else pending ended

abbrev pub extent_verdict : ParsedRequest → Result Extent Cause → List ℕ → Bool → Verdict
extent_verdict a (Ok extent) rest ended = data_verdict a extent rest ended
extent_verdict a (Err cause) rest ended = Bad cause

-- What the bytes behind a request line say that data follow.
abbrev pub head_verdict : ParsedRequest → Cut → Bool → Verdict
head_verdict a NotYet ended = pending ended
head_verdict a TooLate ended = Bad TooLong
head_verdict a (Line line rest) ended = extent_verdict a (extent_of line) rest ended

abbrev pub parsed_verdict : Result ParsedRequest Cause → List ℕ → Bool → Verdict
parsed_verdict (Err cause) rest ended = Bad cause
parsed_verdict (Ok a) rest ended = if a.has_data then head_verdict a (first_line rest) ended else Whole (without_data a)

abbrev pub line_verdict : Cut → Bool → Verdict
line_verdict NotYet ended = pending ended
line_verdict TooLate ended = Bad TooLong
line_verdict (Line line rest) ended = parsed_verdict (parsed_line line) rest ended

unfoldable pub verdict : List ℕ → Bool → Verdict
verdict stream ended = line_verdict (first_line stream) ended

abbrev pub is_open : Verdict → Bool
is_open Open = true
is_open Early = false
is_open (Whole request) = false
is_open (Bad cause) = false
