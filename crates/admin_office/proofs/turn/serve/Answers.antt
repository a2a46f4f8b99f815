use Rattle.turns.proofs.Runnings.{run_as}
use Rattle.admin_office.proofs.Served.{served}
use Rattle.admin_office.proofs.turn.serve.Goals as goal

pub returns : goal.returns
returns g c = run_as _ _ _ _ _ _ _ c.take_turn-request.ensures
    (λ es os p. served g.W.ReadyWire.calls (g.T.FaultTexts.says c.args.texts.now) c.args.called c.args.now c.args.request c.take_turn-request.result c.dismiss_if_late.result es os p c.dismiss_if_late.ensures)
