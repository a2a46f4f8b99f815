-- What a lent answer shows.
use Rattle.std.specs.Prelude.{ℕ, List, if◌then◌else◌, map, Option, Result, Ok, Err}
use Rattle.std.specs.Option.{option_copied, option_map}
use Rattle.host_types.specs.Lines.{lines}
use Rattle.request_reader.specs.DataLines.{unstuffed}
use Rattle.request_reader.specs.declared.names.Names.{Names}
use Rattle.request_reader.specs.declared.data.Data.{Data}
use Rattle.request_reader.specs.Request.{RequestedView, Plus, Fetch, Attributes, EntryAttributes, Request}
use Rattle.request_reader.specs.RequestLine.{ParsedRequest, names_of}
use Rattle.request_reader.specs.Lines.{Cut, NotYet, TooLate, Line}
use Rattle.request_reader.specs.declared.cause.Cause.{Cause}
use Rattle.request_reader.specs.declared.line.Cut.{Cut as LentCut}
use Rattle.request_reader.specs.declared.line.Cut.TheVariants as cut
use Rattle.request_reader.specs.declared.parsed.ParsedRequest.{ParsedRequest as LentRequest}
use Rattle.request_reader.specs.Verdict.{Verdict, Open, Early, Whole, Bad}
use Rattle.request_reader.specs.declared.request.RequestedView.{RequestedView as LentRequestedView}
use Rattle.request_reader.specs.declared.request.Plus.{Plus as LentPlus}
use Rattle.request_reader.specs.declared.request.Plus.TheVariants as plus
use Rattle.request_reader.specs.declared.request.Request.{Request as Lent}
use Rattle.request_reader.specs.declared.request.StreamVerdict.{StreamVerdict}
use Rattle.request_reader.specs.declared.request.StreamVerdict.TheVariants as answer

abbrev pub requested_of : LentRequestedView → RequestedView
requested_of w = record { name = w.name.now; language = option_copied w.language }

-- the names that are lent
abbrev pub names_in : Names → List (List ℕ)
names_in n = names_of n.bytes.now

abbrev pub plus_of : LentPlus → Plus
plus_of (plus.Fetch requested) = Fetch (option_map requested_of requested)
plus_of (plus.Attributes names) = Attributes (names_in names)
plus_of (plus.EntryAttributes names) = EntryAttributes (names_in names)

abbrev pub plus_result : Result LentPlus Cause → Result Plus Cause
plus_result (Ok plus) = Ok (plus_of plus)
plus_result (Err cause) = Err cause

abbrev pub requested_result : Result (Option LentRequestedView) Cause → Result (Option RequestedView) Cause
requested_result (Ok requested) = Ok (option_map requested_of requested)
requested_result (Err cause) = Err cause

abbrev pub parsed_of : LentRequest → ParsedRequest
parsed_of a = record { selector = a.selector.now; search = option_copied a.search; plus = option_map plus_of a.plus; has_data = a.has_data }

abbrev pub parsed_result : Result LentRequest Cause → Result ParsedRequest Cause
parsed_result (Ok a) = Ok (parsed_of a)
parsed_result (Err cause) = Err cause

abbrev pub cut_of : LentCut → Cut
cut_of cut.NotYet = NotYet
cut_of cut.TooLate = TooLate
cut_of (cut.Line line rest) = Line line.now rest.now

-- the lines of data that are lent
abbrev pub lines_in : Data → List (List ℕ)
lines_in d = if d.stuffed then map unstuffed (lines d.bytes.now) else lines d.bytes.now

abbrev pub request_of : Lent → Request
request_of r = record { selector = r.selector.now; search = option_copied r.search; plus = option_map plus_of r.plus; lines = option_map lines_in r.data }

abbrev pub seen : StreamVerdict → Verdict
seen answer.More = Open
seen answer.Early = Early
seen (answer.Whole r) = Whole (request_of r)
seen (answer.Bad cause) = Bad cause
