use Rattle.std.proofs.Common.{sym, ap, ◌∙◌}
use Rattle.std.specs.Prelude.{Ok}
use Rattle.common_types.specs.Names.{is_url}
use Rattle.gophermap.specs.Line.{named}
use Rattle.gophermap.specs.declared.fault.LineFault.TheVariants as faults
use Rattle.gophermap.proofs.NameBytes.{name_is}
use Rattle.gophermap.proofs.names.url_of.Goals as goal

pub returns-in-Ok : goal.returns-in-Ok
returns-in-Ok c =
    let is = sym c.in-Ok.is ∙ c.new.ensures in
    ap (λ name. Ok name) (name_is is_url 251 c.args.bytes.now c.in-Ok.field-0 (sym is)) ∙ ap (named (λ r. faults.Link r)) is
