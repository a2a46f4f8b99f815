use Rattle.std.proofs.Common.{sym, ◌∙◌}
use Rattle.turns.proofs.Runnings.{run_none, run_as}
use Rattle.admin_office.proofs.Served.{rested, acted}
use Rattle.admin_office.proofs.turn.take_turn.Goals as goal

pub returns-then-is_asleep : goal.returns-then-is_asleep
returns-then-is_asleep g c = run_none _ _ _ _ g.met.S.SiteKeeper.crash_states_represent _ _ _
    (rested g.W.ReadyWire.calls (g.T.FaultTexts.says c.args.texts.now) c.args.called c.args.now c.args.request (sym c.is_asleep.ensures ∙ c.if-is_asleep.true))

pub returns : goal.returns
returns g c = run_as _ _ _ _ _ _ _ c.move_on.ensures.run
    (λ es os made. acted g.W.ReadyWire.calls (g.T.FaultTexts.says c.args.texts.now) c.args.called c.args.now c.args.request c.move_on.result es os (sym c.is_asleep.ensures ∙ c.if-is_asleep.false) c.move_on.ensures.moved made)
