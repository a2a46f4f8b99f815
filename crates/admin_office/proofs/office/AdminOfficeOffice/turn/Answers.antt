use Rattle.std.proofs.Common.{refl, sym, ◌∙◌}
use Rattle.turns.proofs.Runnings.{run_none, run_as}
use Rattle.admin_office.proofs.Served.{worked_for, worked_for_nobody}
use Rattle.admin_office.proofs.office.AdminOfficeOffice.turn.Goals as goal

pub returns-in-Some : goal.returns-in-Some
returns-in-Some g c = run_as _ _ _ _ _ _ _ c.serve-request.ensures
    (λ es os p. (worked_for g.W.ReadyWire.calls g.G.AdminGate.answers (g.T.FaultTexts.says c.args.self.now.texts) c.args.called c.args.now c.args.self.now c.args.self.now.request c.in-Some.request c.serve-request.result es os _ (sym c.take.ensures.value ∙ c.in-Some.is) p c.in_still.ensures refl refl, refl))

pub returns-in-None : goal.returns-in-None
returns-in-None g c = run_none _ _ _ _ g.met.S.SiteKeeper.crash_states_represent _ _ _
    (worked_for_nobody g.W.ReadyWire.calls g.G.AdminGate.answers (g.T.FaultTexts.says c.args.self.now.texts) c.args.called c.args.now c.args.self.now c.args.self.now.request _ (sym c.take.ensures.value ∙ c.in-None.is) c.receive.ensures.received, c.receive.ensures.texts)
