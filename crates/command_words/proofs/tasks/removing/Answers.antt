use Rattle.std.proofs.Common.{◌≡◌, Some, codes, map, refl, rules, subst, sym}
use Rattle.clap.specs.Words.{all_of, found_of, rows_of}
use Rattle.command_words.proofs.FoundLemmas.{found_text, found_texts, no_text, no_texts, not_both}
use Rattle.command_words.proofs.TaskLemmas.{drop_needs, named_view, no_image, two_words}
use Rattle.command_words.proofs.tasks.removing.Goals as goal

pub returns-in_default : goal.returns-in_default
returns-in_default c =
    let none = no_text (found_of c.args.matches.now) (codes "IMAGE") c.get_str.result c.get_str.ensures c.in_default.is in
    no_image (codes "drop") (rows_of (found_of c.args.matches.now)) none (two_words (codes "drop") (codes "drop") (codes "replay") refl refl) (two_words (codes "drop") (codes "drop") (codes "import") refl refl)

pub returns-in_default-get_strs : goal.returns-in_default-get_strs
returns-in_default-get_strs c = λ t asks.
    let needs = drop_needs (codes "drop") (rows_of (found_of c.args.matches.now)) refl t asks in
    let none = no_texts (found_of c.args.matches.now) (codes "SELECTOR") c.get_strs.result c.get_strs.ensures c.in_default-get_strs.is in
    not_both _ needs.0 none needs.1

pub returns : goal.returns
returns c =
    let image = found_text (found_of c.args.matches.now) (codes "IMAGE") c.get_str.result _ c.get_str.ensures c.in-Some.is in
    let texts = found_texts (found_of c.args.matches.now) (codes "SELECTOR") c.get_strs.result c.in-Some-get_strs.found c.get_strs.ensures c.in-Some-get_strs.is in
    let items : c.extend_from_slice.new.self.items ≡ c.in-Some-get_strs.found.now = search rules in
    (refl, image, subst (λ l. all_of (codes "SELECTOR") (rows_of (found_of c.args.matches.now)) ≡ Some (map (λ selector. selector.now) l)) (sym items) texts, named_view (found_of c.args.matches.now) (codes "admin") c.get_str-socket.result c.get_str-socket.ensures)
