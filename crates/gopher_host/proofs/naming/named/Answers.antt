use Rattle.std.proofs.Common.{◌≡◌, ◌∙◌, sym, subst, option_map}
use Rattle.std.specs.Prelude.{IfOk, string_bytes}
use Rattle.change_flaws.specs.Refusals as flaws
use Rattle.gopher_host.specs.Naming.{TellsItemOf, file_line}
use Rattle.gopher_host.proofs.Named.{has_any}
use Rattle.gopher_host.proofs.naming.named.Goals as goal

pub returns : goal.returns
returns c =
    let said = subst (λ file. IfOk c.refusal_line-line.result (λ said. option_map string_bytes said ≡ flaws.refusal_line c.in-Some.number c.in-Some.refused file)) c.in-Ok.ensures.cases.0 c.refusal_line-line.ensures in
    subst (λ r. TellsItemOf (file_line c.args.file.now) r c.args.fault c.with_any.result) (sym c.in-Some.is ∙ c.refusal_of.ensures)
    (has_any (file_line c.args.file.now) c.args.fault c.with_any.result c.in-Some.number c.in-Some.refused c.refusal_line-line.result said c.with_any.ensures)
