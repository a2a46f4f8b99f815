-- What a lent answer shows.
use Rattle.ask_forms.specs.Reading.{AnswerRead}
use Rattle.ask_forms.specs.declared.read.Read.{Read as Lent}

abbrev pub read_of : Lent → AnswerRead
read_of r = record { answer = r.answer; rest = r.rest.now }
