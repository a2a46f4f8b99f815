-- How far the data of a request were scanned, so that no line is scanned twice.
use Rattle.std.specs.Prelude.{◌≡◌, ◌≤◌, ℕ, false, List, ◌++◌, length, take, if◌then◌else◌, Option, Some, None, MatchOption, Result, Ok, Err}
use Rattle.std.specs.List.{list_any}
use Rattle.host_types.specs.Lines.{lines}
use Rattle.request_reader.specs.Lines.{Cut, NotYet, TooLate, Line, first_line, ended_lines}
use Rattle.request_reader.specs.RequestLine.{ParsedRequest, parsed_line}
use Rattle.request_reader.specs.DataHead.{extent_of}
use Rattle.request_reader.specs.DataLines.{is_period, room}
use Rattle.request_reader.specs.declared.cause.Cause.{Cause}
use Rattle.request_reader.specs.declared.data_head.Extent.{Extent}
use Rattle.request_reader.specs.declared.data_head.Extent.TheVariants.{ToPeriod, ToEnd, Count}

abbrev pub of_extent : Result Extent Cause → List ℕ → Option (List ℕ)
of_extent (Ok ToPeriod) rest = Some (room rest)
of_extent (Ok ToEnd) rest = None
of_extent (Ok (Count n)) rest = None
of_extent (Err cause) rest = None

abbrev pub of_head : Cut → Option (List ℕ)
of_head NotYet = None
of_head TooLate = None
of_head (Line line rest) = of_extent (extent_of line) rest

abbrev pub of_asked : Result ParsedRequest Cause → List ℕ → Option (List ℕ)
of_asked (Ok a) rest = if a.has_data then of_head (first_line rest) else None
of_asked (Err cause) rest = None

abbrev pub of_line : Cut → Option (List ℕ)
of_line NotYet = None
of_line TooLate = None
of_line (Line line rest) = of_asked (parsed_line line) rest

-- the data that a line with one period is to end, where their head line has come
unfoldable pub data_to_period : List ℕ → Option (List ℕ)
data_to_period stream = of_line (first_line stream)

-- Bytes up to the end of a line, of which no line is one period.
pub record HasNoPeriod (xs : List ℕ) : Type 0 where
  pub ended : (ys : List ℕ) → ended_lines (xs ++ ys) ≡ ended_lines xs ++ ended_lines ys
  pub whole : (ys : List ℕ) → lines (xs ++ ys) ≡ ended_lines xs ++ lines ys
  pub none : list_any is_period (ended_lines xs) ≡ false

-- The first n bytes are such.
pub record IsScannedTo (bytes : List ℕ) (n : ℕ) : Type 0 where
  pub within : n ≤ length bytes
  pub none : HasNoPeriod (take n bytes)

abbrev pub IsScannedIn : Option (List ℕ) → ℕ → Type 0
IsScannedIn bytes n = MatchOption bytes (n ≡ 0) (λ bs. IsScannedTo bs n)

-- of a stream's data to a period so many bytes were scanned
abbrev pub IsScanned : List ℕ → ℕ → Type 0
IsScanned stream n = IsScannedIn (data_to_period stream) n
