use Rattle.std.proofs.Common.{refl, sym, ap, ◌∙◌, ◌++◌, append-nil}
use Rattle.group_world.specs.Outcomes.{bytes_outcome, flush_outcome}
use Rattle.group_world.specs.declared.event.Event.TheVariants.{Flush}
use Rattle.turns.specs.Turns.{heard_event}
use Rattle.turns.proofs.Runnings.{run_one, run_both}
use Rattle.turns.proofs.TurnsMade.{heard_moment}
use Rattle.turns.proofs.Telling.{IsOne, AreTwo, one, two, told_well, told_fault, told_again}
use Rattle.turns.proofs.turn.tell.Goals as goal

pub returns-in-Ok : goal.returns-in-Ok
returns-in-Ok g c = run_one _ _ _ _ g.met.S.SiteKeeper.crash_states_represent _ _ (heard_event c.args.id c.args.piece.now c.now.result) (bytes_outcome c.tell_at.result) _ _ _ c.tell_at.ensures
    (c.now.ensures ∙ ap (λ l. g.C.Clock.given c.args.clock.now ++ l) (sym (heard_moment c.args.id c.now.result c.args.piece.now))) (told_well _ _ c.now.result c.tell_at.result _ c.in-Ok.is)

pub returns-in_default : goal.returns-in_default
returns-in_default g c = run_one _ _ _ _ g.met.S.SiteKeeper.crash_states_represent _ _ (heard_event c.args.id c.args.piece.now c.now.result) (bytes_outcome c.tell_at.result) _ _ _ c.tell_at.ensures
    (c.now.ensures ∙ ap (λ l. g.C.Clock.given c.args.clock.now ++ l) (sym (heard_moment c.args.id c.now.result c.args.piece.now))) (told_fault _ _ c.now.result c.tell_at.result _ c.in-Err.is c.in_default.not-Crowded)

pub returns-in-Crowded : goal.returns-in-Crowded
returns-in-Crowded g c =
    let law = g.met.S.SiteKeeper.crash_states_represent in
    let piece = c.args.piece.now in
    let first = heard_event c.args.id piece c.now.result in
    let later = heard_event c.args.id piece c.now-in-Crowded.result in
    run_both _ _ _ _ law c.args.hub.now c.tell_at.new.hub c.tell_at-in-Crowded.new.hub _ _ _ (IsOne first (bytes_outcome c.tell_at.result)) _ _
    (run_one _ _ _ _ law c.args.hub.now c.tell_at.new.hub first (bytes_outcome c.tell_at.result) _ _ _ c.tell_at.ensures (c.now.ensures ∙ ap (λ l. g.C.Clock.given c.args.clock.now ++ l) (sym (heard_moment c.args.id c.now.result piece))) (one _ _))
    (run_both _ _ _ _ law c.tell_at.new.hub c.flush.new.self c.tell_at-in-Crowded.new.hub _ _ _ (IsOne Flush (flush_outcome c.flush.result)) (IsOne later (bytes_outcome c.tell_at-in-Crowded.result)) (AreTwo Flush later (flush_outcome c.flush.result) (bytes_outcome c.tell_at-in-Crowded.result))
    (run_one _ _ _ _ law c.tell_at.new.hub c.flush.new.self Flush (flush_outcome c.flush.result) _ _ _ c.flush.ensures (sym (append-nil _)) (one _ _))
    (run_one _ _ _ _ law c.flush.new.self c.tell_at-in-Crowded.new.hub later (bytes_outcome c.tell_at-in-Crowded.result) _ _ _ c.tell_at-in-Crowded.ensures (c.now-in-Crowded.ensures ∙ ap (λ l. g.C.Clock.given c.now.new.self ++ l) (sym (heard_moment c.args.id c.now-in-Crowded.result piece))) (one _ _))
    (λ es fs os ps p q. two _ _ _ _ es fs os ps p q))
    (λ es fs os ps p q. told_again _ _ c.now.result c.tell_at.result c.now-in-Crowded.result _ _ _ c.in-Err.is c.in-Crowded.is es fs os ps p q)
