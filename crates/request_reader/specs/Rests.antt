-- What a reader ends as, once the answer that it lent has ended.
use Rattle.std.specs.Prelude.{◌≡◌, ℕ, List, Result, MatchResult}
use Rattle.std.specs.Borrow.{Fml, MutBor}
use Rattle.std.specs.Io.BufRead.{Rests}
use Rattle.request_reader.specs.ReceivedInput.{ReceivedInput, fed, finished, unmarked}
use Rattle.request_reader.specs.contracts.reader.Reader.{the_row}

-- with the piece taken, or as it was with nothing to take back
abbrev pub RestsFed : {X E : Type 0} → MutBor ReceivedInput → List ℕ → Result X E → Fml
RestsFed r piece result = Rests the_row r (λ new. MatchResult result (λ _. new ≡ fed r.now piece) (λ _. new ≡ unmarked r.now))

-- with the end of input taken
abbrev pub RestsFinished : MutBor ReceivedInput → Fml
RestsFinished r = Rests the_row r (λ new. new ≡ finished r.now)
