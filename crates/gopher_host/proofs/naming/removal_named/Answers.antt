use Rattle.std.proofs.Common.{◌∙◌, sym, subst, map}
use Rattle.gopher_host.specs.Naming.{TellsItemOf, names_line}
use Rattle.gopher_host.proofs.Named.{has_any}
use Rattle.gopher_host.proofs.naming.removal_named.Goals as goal

pub returns : goal.returns
returns c =
    let names = map (λ name. name.now) c.args.names.now in
    subst (λ r. TellsItemOf (names_line names) r c.args.fault c.with_any.result) (sym c.in-Some.is ∙ c.refusal_of.ensures)
    (has_any (names_line names) c.args.fault c.with_any.result c.in-Some.number c.in-Some.refused c.line_of_names-line.result c.line_of_names-line.ensures c.with_any.ensures)
