use Rattle.std.proofs.Common.{map, subst, sym}
use Rattle.std.specs.String.{string_bytes}
use Rattle.clap.specs.Words.{found_of, rows_of}
use Rattle.command_words.specs.Reading.{command_in}
use Rattle.command_words.specs.Tasks.{AsksFor, GivesOne}
use Rattle.command_words.proofs.ReadLemmas.{found_command, known, read_error}
use Rattle.command_words.proofs.words.read.Goals as goal

pub returns-in_err-matches : goal.returns-in_err-matches
returns-in_err-matches c =
    read_error c.in_ok-command_line.field-0 (map string_bytes c.args.words.now) c.in_err-matches.field-0.0 c.from_residual-in_err-matches.result c.in_ok-command_line.ensures c.in_err-matches.ensures.passes c.from_residual-in_err-matches.ensures.1

pub returns-in-Some-2 : goal.returns-in-Some-2
returns-in-Some-2 c =
    let words = map string_bytes c.args.words.now in
    let found = found_command c.in_ok-command_line.field-0 words c.in_ok-matches.matches c.in-Some.name.now (rows_of (found_of c.in-Some.matches.now)) c.in_ok-command_line.ensures c.in_ok-matches.ensures.matches (sym c.in-Some.ensures.name) (sym c.in-Some.ensures.rows) in
    known _ (command_in words) _ found (subst (GivesOne (AsksFor c.in-Some.name.now (rows_of (found_of c.in-Some.matches.now)))) c.in-Some-2.is c.in_ok-task.ensures)

pub returns : goal.returns
returns c =
    let words = map string_bytes c.args.words.now in
    let found = found_command c.in_ok-command_line.field-0 words c.in_ok-matches.matches c.in-Some.name.now (rows_of (found_of c.in-Some.matches.now)) c.in_ok-command_line.ensures c.in_ok-matches.ensures.matches (sym c.in-Some.ensures.name) (sym c.in-Some.ensures.rows) in
    known _ (command_in words) _ found (subst (GivesOne (AsksFor c.in-Some.name.now (rows_of (found_of c.in-Some.matches.now)))) c.in-None.is c.in_ok-task.ensures)
