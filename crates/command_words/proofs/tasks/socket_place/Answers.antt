use Rattle.std.proofs.Common.{codes, refl, sym, subst}
use Rattle.clap.specs.Words.{found_of, rows_of}
use Rattle.command_words.specs.Tasks.{HasPlaceBy}
use Rattle.command_words.specs.declared.words.SocketPlace.TheVariants.{Beside, Named, Nowhere}
use Rattle.command_words.proofs.FoundLemmas.{found_flag, found_text, no_text}
use Rattle.command_words.proofs.tasks.socket_place.Goals as goal

pub returns-then-get_flag : goal.returns-then-get_flag
returns-then-get_flag c =
    let flag = found_flag (found_of c.args.matches.now) (codes "no-admin") c.get_flag.result c.get_flag.ensures.none c.get_flag.ensures.value c.get_flag.ensures.other in
    (c.get_flag.result, flag, subst (λ b. HasPlaceBy b (rows_of (found_of c.args.matches.now)) Nowhere) (sym c.if-get_flag.true) refl)

pub returns-in-Some : goal.returns-in-Some
returns-in-Some c =
    let flag = found_flag (found_of c.args.matches.now) (codes "no-admin") c.get_flag.result c.get_flag.ensures.none c.get_flag.ensures.value c.get_flag.ensures.other in
    let name = found_text (found_of c.args.matches.now) (codes "admin") c.get_str.result _ c.get_str.ensures c.in-Some.is in
    (c.get_flag.result, flag, subst (λ b. HasPlaceBy b (rows_of (found_of c.args.matches.now)) (Named c.in-Some.name)) (sym c.if-get_flag.false) name)

pub returns-in-None : goal.returns-in-None
returns-in-None c =
    let flag = found_flag (found_of c.args.matches.now) (codes "no-admin") c.get_flag.result c.get_flag.ensures.none c.get_flag.ensures.value c.get_flag.ensures.other in
    let none = no_text (found_of c.args.matches.now) (codes "admin") c.get_str.result c.get_str.ensures c.in-None.is in
    (c.get_flag.result, flag, subst (λ b. HasPlaceBy b (rows_of (found_of c.args.matches.now)) Beside) (sym c.if-get_flag.false) none)
