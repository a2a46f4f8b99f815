use Rattle.group_world.specs.Outcomes.{admin_outcome}
use Rattle.group_world.specs.declared.event.Event.TheVariants.{Admin}
use Rattle.turns.proofs.Runnings.{run_one}
use Rattle.admin_office.proofs.Steps.{made_well, made_badly}
use Rattle.std.proofs.Common.{refl}
use Rattle.admin_office.proofs.turn.make.Goals as goal

pub returns-in-Ok : goal.returns-in-Ok
returns-in-Ok g c = run_one _ _ _ _ g.met.S.SiteKeeper.crash_states_represent _ _ (Admin c.args.change c.now.result) (admin_outcome c.admin.result) _ _ _ c.admin.ensures c.now.ensures
    (made_well (g.T.FaultTexts.says c.args.texts.now) c.args.change c.args.making.left.items c.args.making.count c.now.result c.admin.result _ _ c.in-Ok.is refl)

pub returns-in-Err : goal.returns-in-Err
returns-in-Err g c = run_one _ _ _ _ g.met.S.SiteKeeper.crash_states_represent _ _ (Admin c.args.change c.now.result) (admin_outcome c.admin.result) _ _ _ c.admin.ensures c.now.ensures
    (made_badly (g.T.FaultTexts.says c.args.texts.now) c.args.change c.args.making.left.items c.args.making.count c.now.result c.admin.result c.in-Err.fault _ c.in-Err.is (rw (c.number.ensures, c.site_fault.ensures) at c.refuse_change.ensures))
