use Rattle.std.proofs.Common.{◌≡◌, ◌∙◌, true, [], ◌∷◌, codes, bytes_eq, length, rules}
use Rattle.change_writer.proofs.Lists.{single}
use Rattle.change_writer.proofs.SmallTables.{plain_view}
use Rattle.change_writer.proofs.bodies.plain_text.Goals as goal

pub returns-in-Ok : goal.returns-in-Ok
returns-in-Ok c =
    let one = c.one-item.result in
    let list : c.args.views.now ≡ one ∷ [] = single c.args.views.now one (search rules) (search rules) (search rules) in
    let named : bytes_eq one.name (codes "Text/plain") ≡ true = search rules in
    let none : length one.language ≡ 0 = search rules in
    rw (c.in-Text-len1.is-0, list) (plain_view one c.in-Ok.text.now (c.in-Ok.ensures.cases.0 ∙ c.as_slice-in-Text-len1.ensures) named none)
