use Rattle.std.proofs.Common.{◌≡◌, rules}
use Rattle.std.specs.Prelude.{codes}
use Rattle.mem_site.proofs.CutNames.{plain_view}
use Rattle.mem_site.proofs.valid_site.is_plain_view.Goals as goal

pub returns-then-eq : goal.returns-then-eq
returns-then-eq c =
    let named : c.args.view.now.name ≡ codes "Text/plain" = search rules in
    plain_view c.args.view.now c.is_empty.result named c.is_empty.ensures
