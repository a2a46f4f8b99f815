use Rattle.std.proofs.Common.{sym, ◌∙◌, refl, []}
use Rattle.admin_office.proofs.Served.{stayed, went}
use Rattle.admin_office.proofs.turn.dismiss_if_late.Goals as goal

pub returns-then-not-is_late : goal.returns-then-not-is_late
returns-then-not-is_late g c = stayed g.W.ReadyWire.calls (λ stopped. []) c.args.now c.args.request (sym c.is_late.ensures ∙ c.if-not-is_late.true)

pub returns : goal.returns
returns g c = went g.W.ReadyWire.calls (λ stopped. []) c.args.now c.args.request _ (sym c.is_late.ensures ∙ c.if-not-is_late.false) c.close.ensures refl
