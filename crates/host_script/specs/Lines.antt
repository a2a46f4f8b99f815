-- What a line of a script asks of a hub, and what is printed of it; and a whole script, line by line.
use Rattle.std.specs.Prelude.{◌≡◌, ◌≢◌, ◌⊎◌, ℕ, ◌+◌, ◌-◌, ◌^◌, min, Bool, false, List, [], ◌∷◌, ◌++◌, ◌==◌, Option, Some, None, IfSome, Result, IfOk, IsUtf8, codes, flat_map, All}
use Rattle.std.specs.List.{list_any}
use Rattle.std.specs.Io.KnownBytes.{Appends}
use Rattle.group_world.specs.declared.event.Event.{Event as HubEvent}
use Rattle.group_world.specs.declared.event.Outcome.{Outcome}
use Rattle.host_script.specs.Script.{line_command}
use Rattle.host_script.specs.ParsedLine.{parsed_of}
use Rattle.host_script.specs.Printed.{line_of, refused_line}
use Rattle.host_script.specs.declared.script.Command.{Command}
use Rattle.host_script.specs.declared.fault.ReplayFault.{ReplayFault}
use Rattle.host_script.specs.declared.fault.ReplayFault.TheVariants.{Script, Memory, Output}
use Rattle.host_script.specs.declared.replaying.Place.{Place as Standing}
use Rattle.host_script.specs.declared.asking.ParsedLine.{ParsedLine}
use Rattle.host_script.specs.declared.asking.ParsedLine.TheVariants.{Moment, Event, Refused}

-- ---- one line

-- One event of the hub, and its outcome is printed.
pub record IsAnswered (event : HubEvent) (printed : List ℕ) (events : List HubEvent) (outcomes : List Outcome) : Type 0 where
  pub outcome : Outcome
  pub parsed : events ≡ event ∷ []
  pub fault_text : outcomes ≡ outcome ∷ []
  pub line : printed ≡ line_of outcome

-- Or there was no memory for it, and nothing happened.
abbrev pub IsLineAnswer : HubEvent → List ℕ → List HubEvent → List Outcome → Type 0
IsLineAnswer event printed events outcomes = IsAnswered event printed events outcomes ⊎ ((events ≡ []) × (outcomes ≡ []) × (printed ≡ codes "fault Memory"))

-- What is asked for at a moment, the moment after it, what is printed, and the hub's events with their outcomes.
abbrev pub IsLineDone : ℕ → ℕ → List ℕ → List HubEvent → List Outcome → ParsedLine → Type 0
IsLineDone now after printed events outcomes (Moment stamp) = (events ≡ []) × (outcomes ≡ []) × (after ≡ stamp) × (printed ≡ codes "ok")
IsLineDone now after printed events outcomes (Event event) = (after ≡ now) × IsLineAnswer event printed events outcomes
IsLineDone now after printed events outcomes (Refused refused) = (events ≡ []) × (outcomes ≡ []) × (after ≡ now) × (printed ≡ refused_line refused)

-- A line is a command, and what that asks for is done.
pub record RunsLine (now after : ℕ) (line printed : List ℕ) (events : List HubEvent) (outcomes : List Outcome) : Type 0 where
  pub command : Command
  pub is : line_command line ≡ Some command
  pub done : IsLineDone now after printed events outcomes (parsed_of command now)

-- ---- a whole script

-- one line and then others
pub record RunsFirst (now after : ℕ) (line fault_text : List ℕ) (events : List HubEvent) (outcomes : List Outcome) (Others : ℕ → List HubEvent → List Outcome → Type 0) : Type 0 where
  pub moment : ℕ
  pub first_events : List HubEvent
  pub first_outcomes : List Outcome
  pub later_events : List HubEvent
  pub later_outcomes : List Outcome
  pub first : RunsLine now moment line fault_text first_events first_outcomes
  pub others : Others moment later_events later_outcomes
  pub events_are : events ≡ first_events ++ later_events
  pub outcomes_are : outcomes ≡ first_outcomes ++ later_outcomes

-- one line after another
abbrev pub RunsLines : ℕ → ℕ → List (List ℕ) → List (List ℕ) → List HubEvent → List Outcome → Type 0
RunsLines now after [] [] events outcomes = (after ≡ now) × (events ≡ []) × (outcomes ≡ [])
RunsLines now after (line ∷ lines) (fault_text ∷ printed) events outcomes = RunsFirst now after line fault_text events outcomes (λ moment e o. RunsLines moment after lines printed e o)
RunsLines now after [] (fault_text ∷ printed) events outcomes = ⊥
RunsLines now after (line ∷ lines) [] events outcomes = ⊥

abbrev pub is_lf : ℕ → Bool
is_lf b = b == 10

-- lines, each with its LF
abbrev pub ended : List (List ℕ) → List ℕ
ended lines = flat_map (λ line. line ++ 10 ∷ []) lines

-- The text is these lines, each ended by an LF and without another, and what stands behind the last LF.
pub record IsCutLine (text : List ℕ) (lines : List (List ℕ)) (rest : List ℕ) : Type 0 where
  pub whole : text ≡ ended lines ++ rest
  pub lines_plain : All (λ line. list_any is_lf line ≡ false) lines
  pub rest_plain : list_any is_lf rest ≡ false

-- `ran` says that events with these outcomes led from one hub to another.
abbrev pub Ran : Type 0 → Type 1
Ran H = H → List HubEvent → List Outcome → H → Type 0

-- It was led by events of which this holds.
abbrev pub RanBy : {H : Type 0} → Ran H → H → H → (List HubEvent → List Outcome → Type 0) → Type 0
RanBy ran old new P = (events : List HubEvent) × (outcomes : List Outcome) × P events outcomes × ran old events outcomes new

-- It was led by some events.
abbrev pub RanSo : {H : Type 0} → Ran H → H → H → Type 0
RanSo ran old new = (events : List HubEvent) × (outcomes : List Outcome) × ran old events outcomes new

-- What a call does that runs events of a hub.
pub record Runs {H T E : Type 0} (ran : Ran H) (old new : H) (result : Result T E) (done : Ran H → H → H → T → Type 0) : Type 0 where
  -- where it is done, this holds of the hub before and after it, and of what it answers
  pub holds : IfOk result (done ran old new)
  -- whatever it answers, some events led from the one hub to the other
  pub led : RanSo ran old new

-- Where a script stands: the moment, and the number of the next line.
pub record LinePlace : Type 0 where
  pub moment : ℕ
  pub number : ℕ

abbrev pub place_of : Standing → LinePlace
place_of p = record { moment = p.moment; number = p.number }

abbrev pub place_at : ℕ → ℕ → LinePlace
place_at moment number = record { moment = moment; number = number }

-- before the first line
abbrev pub start : LinePlace
start = place_at 0 1

-- the number after these lines, which stays at the greatest u64
abbrev pub number_after : ℕ → List (List ℕ) → ℕ
number_after n [] = n
number_after n (line ∷ lines) = number_after (min (n + 1) (2 ^ 64 - 1)) lines

-- A text was run as far as its last LF, from one place to another, and a writer was given what was printed, each line with its LF.
pub record RunsTo (from to : LinePlace) (given took : Option (List ℕ)) (text rest : List ℕ) (events : List HubEvent) (outcomes : List Outcome) : Type 0 where
  pub lines : List (List ℕ)
  pub printed : List (List ℕ)
  pub cut : IsCutLine text lines rest
  pub run : RunsLines from.moment to.moment lines printed events outcomes
  pub number : to.number ≡ number_after from.number lines
  pub written : Appends given took (ended printed)

abbrev pub IsRunTo : {H : Type 0} → Ran H → H → H → LinePlace → LinePlace → Option (List ℕ) → Option (List ℕ) → List ℕ → List ℕ → Type 0
IsRunTo ran old new from to given took text rest = RanBy ran old new (RunsTo from to given took text rest)

-- Bytes more were taken behind a line without LF, and the lines that they end were run.
abbrev pub TakesBytes : {H : Type 0} → Ran H → H → H → Standing → Standing → Option (List ℕ) → Option (List ℕ) → List ℕ → Type 0
TakesBytes ran old new from to given took bytes = list_any is_lf from.line.items ≡ false → IsRunTo ran old new (place_of from) (place_of to) given took (from.line.items ++ bytes) to.line.items

-- what stands behind the last LF is a line where it has bytes
abbrev pub last_line : List ℕ → List (List ℕ)
last_line [] = []
last_line (b ∷ bs) = (b ∷ bs) ∷ []

-- What stands behind the last LF was run at a moment.
pub record IsLastRun {H : Type 0} (ran : Ran H) (old new : H) (now : ℕ) (given took : Option (List ℕ)) (rest : List ℕ) : Type 0 where
  pub after : ℕ
  pub printed : List (List ℕ)
  pub events : List HubEvent
  pub outcomes : List Outcome
  pub run : RunsLines now after (last_line rest) printed events outcomes
  pub calls : ran old events outcomes new
  pub written : Appends given took (ended printed)

-- A whole script was run from the moment 0, and a writer was given what was printed.
pub record IsReplayed {H : Type 0} (ran : Ran H) (old new : H) (given took : Option (List ℕ)) (script : List ℕ) : Type 0 where
  pub lines : List (List ℕ)
  pub rest : List ℕ
  pub printed : List (List ℕ)
  pub after : ℕ
  pub events : List HubEvent
  pub outcomes : List Outcome
  pub cut : IsCutLine script lines rest
  pub run : RunsLines 0 after (lines ++ last_line rest) printed events outcomes
  pub calls : ran old events outcomes new
  pub written : Appends given took (ended printed)

-- ---- where a script stops

-- a line that says no command, or is no text
abbrev pub IsNoLine : List ℕ → Type 0
IsNoLine line = IsUtf8 line → line_command line ≡ None

-- A line was run, or nothing was.
abbrev pub MayRun : ℕ → List ℕ → List HubEvent → List Outcome → Type 0
MayRun now line events outcomes = ((events ≡ []) × (outcomes ≡ [])) ⊎ ((after : ℕ) × (printed : List ℕ) × RunsLine now after line printed events outcomes)

-- A writer took a front of a text, and not all of it.
pub record TakesFront (given took : Option (List ℕ)) (text : List ℕ) : Type 0 where
  pub front : List ℕ
  pub left : List ℕ
  pub is : text ≡ front ++ left
  pub some_left : left ≢ []
  pub written : Appends given took front

-- How a line ends a script: it is none, and has this number; or memory is lacking for it, or for its answer, of which nothing is written; or it was run, and the writer did not take all of its answer.
abbrev pub Stops : Option (List ℕ) → Option (List ℕ) → LinePlace → List ℕ → ReplayFault → List HubEvent → List Outcome → Type 0
Stops given took at line (Script n) events outcomes = (n ≡ at.number) × (events ≡ []) × (outcomes ≡ []) × (took ≡ given) × IsNoLine line
Stops given took at line Memory events outcomes = (took ≡ given) × MayRun at.moment line events outcomes
Stops given took at line Output events outcomes = (after : ℕ) × (printed : List ℕ) × RunsLine at.moment after line printed events outcomes × TakesFront given took (printed ++ 10 ∷ [])

-- It comes where an LF stands; for lack of memory it may come at any byte.
abbrev pub LineComesIn : ReplayFault → List ℕ → Type 0
LineComesIn Memory left = left ≢ []
LineComesIn fault left = (more : List ℕ) × (left ≡ 10 ∷ more)

-- A line ends a script within a text of which this is left.
abbrev pub StopsIn : Option (List ℕ) → Option (List ℕ) → LinePlace → List ℕ → List ℕ → ReplayFault → List HubEvent → List Outcome → Type 0
StopsIn given took at line left fault events outcomes = Stops given took at line fault events outcomes × LineComesIn fault left

-- The last line does, which lacks its LF.
abbrev pub StopsAtEnd : Option (List ℕ) → Option (List ℕ) → LinePlace → List ℕ → ReplayFault → List HubEvent → List Outcome → Type 0
StopsAtEnd given took at line fault events outcomes = Stops given took at line fault events outcomes × (line ≢ [])

-- All that was read was run, as far as its last LF, and no more could be read.
pub record IsCutOff (given took unread : Option (List ℕ)) (at : LinePlace) (left : List ℕ) (fault : ReplayFault) (events : List HubEvent) (outcomes : List Outcome) : Type 0 where
  pub fault_is : fault ≡ Script at.number
  pub events_are : events ≡ []
  pub outcomes_are : outcomes ≡ []
  pub kept : took ≡ given
  pub unread_is : unread ≡ Some left

-- A front of a text was run, behind what stood before it, as far as its last LF, and then something else came.
pub record RunsThen (from : LinePlace) (given : Option (List ℕ)) (before text : List ℕ) (Then : LinePlace → Option (List ℕ) → List ℕ → List ℕ → List HubEvent → List Outcome → Type 0) (events : List HubEvent) (outcomes : List Outcome) : Type 0 where
  pub front : List ℕ
  pub left : List ℕ
  pub is : text ≡ front ++ left
  pub to : LinePlace
  pub line : List ℕ
  pub between : Option (List ℕ)
  pub first_events : List HubEvent
  pub first_outcomes : List Outcome
  pub later_events : List HubEvent
  pub later_outcomes : List Outcome
  pub run : RunsTo from to given between (before ++ front) line first_events first_outcomes
  pub later : Then to between line left later_events later_outcomes
  pub events_are : events ≡ first_events ++ later_events
  pub outcomes_are : outcomes ≡ first_outcomes ++ later_outcomes

-- A piece of a script was run as far as some LF, and the line behind it ended the script.
abbrev pub IsScriptStopped : ReplayFault → LinePlace → Option (List ℕ) → Option (List ℕ) → List ℕ → List ℕ → List HubEvent → List Outcome → Type 0
IsScriptStopped fault from given took before piece = RunsThen from given before piece (λ to between line left e o. StopsIn between took to line left fault e o)

-- A whole script was: each line before the one that ended it was run and printed, and nothing more was done than is said of that one; or the script could not be read on.
abbrev pub IsHalted : ReplayFault → Option (List ℕ) → Option (List ℕ) → Option (List ℕ) → List ℕ → List HubEvent → List Outcome → Type 0
IsHalted fault given took unread script = RunsThen start given [] script (λ to between line left e o. StopsIn between took to line left fault e o ⊎ ((left ≡ []) × StopsAtEnd between took to line fault e o) ⊎ IsCutOff between took unread to left fault e o)

-- It was, by some events of a hub.
abbrev pub Halts : {H : Type 0} → Ran H → H → H → Option (List ℕ) → Option (List ℕ) → Option (List ℕ) → Option (List ℕ) → ReplayFault → Type 0
Halts ran old new given took unread script fault = IfSome script (λ text. RanBy ran old new (IsHalted fault given took unread text))
