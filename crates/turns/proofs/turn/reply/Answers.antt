use Rattle.std.proofs.Common.{take, ap, refl}
use Rattle.group_world.specs.Outcomes.{draw_outcome}
use Rattle.group_world.specs.declared.event.Event.TheVariants.{Draw}
use Rattle.turns.proofs.Runnings.{run_one}
use Rattle.turns.proofs.TurnsMade.{replied_drawn, replied_finished, replied_fault, draws_few, drawn_is, finished_is, sent_drawn}
use Rattle.turns.proofs.turn.reply.Goals as goal

pub returns-then-send : goal.returns-then-send
returns-then-send g c = run_one _ _ _ _ g.met.S.SiteKeeper.crash_states_represent _ _ (Draw c.args.id 512) (draw_outcome c.draw.result c.draw.new.out) _ _ _ c.draw.ensures.call refl
    (replied_drawn c.args.id _ _ _ (take c.in-Ok-Bytes.count c.draw.new.out) _ _ (draws_few 512 c.draw.result c.draw.new.out c.draw.auto.out) (drawn_is _ _ c.in-Ok-Bytes.count _ c.in-Ok-Bytes.is c.in-Ok-Bytes.field-0-is) (sent_drawn c.in-Ok-Bytes.count _ c.draw.new.out _ _ _ _ c.min.ensures c.draw.auto.out c.if-send.true c.send.ensures) refl)

pub returns-else-send : goal.returns-else-send
returns-else-send g c = run_one _ _ _ _ g.met.S.SiteKeeper.crash_states_represent _ _ (Draw c.args.id 512) (draw_outcome c.draw.result c.draw.new.out) _ _ _ c.draw.ensures.call refl
    (replied_drawn c.args.id _ _ _ (take c.in-Ok-Bytes.count c.draw.new.out) _ _ (draws_few 512 c.draw.result c.draw.new.out c.draw.auto.out) (drawn_is _ _ c.in-Ok-Bytes.count _ c.in-Ok-Bytes.is c.in-Ok-Bytes.field-0-is) (sent_drawn c.in-Ok-Bytes.count _ c.draw.new.out _ _ _ _ c.min.ensures c.draw.auto.out c.if-send.false c.send.ensures) refl)

pub returns-in-Ok-Finished : goal.returns-in-Ok-Finished
returns-in-Ok-Finished g c = run_one _ _ _ _ g.met.S.SiteKeeper.crash_states_represent _ _ (Draw c.args.id 512) (draw_outcome c.draw.result c.draw.new.out) _ _ _ c.draw.ensures.call refl
    (replied_finished c.args.id _ _ (draws_few 512 c.draw.result c.draw.new.out c.draw.auto.out) (finished_is _ _ _ c.in-Ok-Finished.is c.in-Ok-Finished.field-0-is))

pub returns-in-Err : goal.returns-in-Err
returns-in-Err g c = run_one _ _ _ _ g.met.S.SiteKeeper.crash_states_represent _ _ (Draw c.args.id 512) (draw_outcome c.draw.result c.draw.new.out) _ _ _ c.draw.ensures.call refl
    (replied_fault c.args.id _ _ c.in-Err.field-0 (draws_few 512 c.draw.result c.draw.new.out c.draw.auto.out) (ap (λ r. draw_outcome r c.draw.new.out) c.in-Err.is))
