use Rattle.std.proofs.Common.{codes}
use Rattle.clap.specs.Words.{found_of}
use Rattle.command_words.proofs.FoundLemmas.{found_number, found_text, gives_none, no_number, no_text, not_both}
use Rattle.command_words.proofs.tasks.new_site.Goals as goal

pub returns-in_err-get_str : goal.returns-in_err-get_str
returns-in_err-get_str c =
    let none = no_text (found_of c.args.matches.now) (codes "host") c.get_str.result c.get_str.ensures c.in_err-get_str.was in
    gives_none _ _ c.from_residual.ensures (λ site is. not_both _ _ none is.host)

pub returns-in_err-get_one : goal.returns-in_err-get_one
returns-in_err-get_one c =
    let none = no_number 16 (found_of c.args.matches.now) (codes "port") c.get_one.result c.get_one.ensures.value c.in_err-get_one.was in
    gives_none _ _ c.from_residual-in_err-get_one.ensures (λ site is. none _ is.port)

pub returns-in_err-get_str-2 : goal.returns-in_err-get_str-2
returns-in_err-get_str-2 c =
    let none = no_text (found_of c.args.matches.now) (codes "admin") c.get_str-2.result c.get_str-2.ensures c.in_err-get_str-2.was in
    gives_none _ _ c.from_residual-in_err-get_str-2.ensures (λ site is. not_both _ _ none is.admin)

pub returns-in_err-get_str-3 : goal.returns-in_err-get_str-3
returns-in_err-get_str-3 c =
    let none = no_text (found_of c.args.matches.now) (codes "title") c.get_str-3.result c.get_str-3.ensures c.in_err-get_str-3.was in
    gives_none _ _ c.from_residual-in_err-get_str-3.ensures (λ site is. not_both _ _ none is.title)

pub returns : goal.returns
returns c = record {
  host = found_text (found_of c.args.matches.now) (codes "host") c.get_str.result _ c.get_str.ensures c.in_ok-get_str.was;
  port = found_number 16 (found_of c.args.matches.now) (codes "port") c.get_one.result _ c.get_one.ensures.none c.get_one.ensures.value c.in_ok-get_one.was;
  admin = found_text (found_of c.args.matches.now) (codes "admin") c.get_str-2.result _ c.get_str-2.ensures c.in_ok-get_str-2.was;
  title = found_text (found_of c.args.matches.now) (codes "title") c.get_str-3.result _ c.get_str-3.ensures c.in_ok-get_str-3.was;
}
