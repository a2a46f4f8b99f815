use Rattle.std.proofs.Common.{◌≡◌, refl, sym, subst, [], false}
use Rattle.std.proofs.lemmas.List.{append-nil}
use Rattle.turns.specs.Turns.{trace}
use Rattle.turns.specs.WireCalls.{HasMade}
use Rattle.turns.proofs.Runnings.{run_none, run_as}
use Rattle.admin_office.specs.Requests.{TakesStep, ReadsOnce, HoldsOnce, WritesOnce}
use Rattle.admin_office.specs.Tasks.{task_of, unsent_bytes, Hearing, Holding, Making, Telling, Over}
use Rattle.admin_office.proofs.Steps.{acts_by_wire, held_once, no_calls}
use Rattle.admin_office.proofs.turn.act.Goals as goal

pub returns-in-Hearing : goal.returns-in-Hearing
returns-in-Hearing g c =
    let text = g.T.FaultTexts.says c.args.texts.now in
    run_none _ _ _ _ g.met.S.SiteKeeper.crash_states_represent _ _ _
    (subst (λ s. HasMade (g.W.ReadyWire.calls c.args.wire.now) (g.W.ReadyWire.calls c.listen.new.wire) (λ made. TakesStep text (task_of s) (trace made [] []) (task_of c.listen.result.0) c.listen.result.1)) (sym c.in-Hearing.is)
    (acts_by_wire text (Hearing c.in-Hearing.heard.items) (ReadsOnce c.in-Hearing.heard.items) _ _ _ _ (λ t h. h) c.listen.ensures))

pub returns-in-Holding : goal.returns-in-Holding
returns-in-Holding g c =
    let text = g.T.FaultTexts.says c.args.texts.now in
    run_none _ _ _ _ g.met.S.SiteKeeper.crash_states_represent _ _ _
    (subst (λ s. HasMade (g.W.ReadyWire.calls c.args.wire.now) (g.W.ReadyWire.calls c.hold.new.wire) (λ made. TakesStep text (task_of s) (trace made [] []) (task_of c.hold.result) false)) (sym c.in-Holding.is)
    (acts_by_wire text Holding (λ made task rested. HoldsOnce made task × (rested ≡ false)) _ _ _ _ (λ t h. h) (held_once _ _ _ c.hold.ensures)))

pub returns-in-Telling : goal.returns-in-Telling
returns-in-Telling g c =
    let text = g.T.FaultTexts.says c.args.texts.now in
    run_none _ _ _ _ g.met.S.SiteKeeper.crash_states_represent _ _ _
    (subst (λ s. HasMade (g.W.ReadyWire.calls c.args.wire.now) (g.W.ReadyWire.calls c.tell.new.wire) (λ made. TakesStep text (task_of s) (trace made [] []) (task_of c.tell.result.0) c.tell.result.1)) (sym c.in-Telling.is)
    (acts_by_wire text (Telling (unsent_bytes c.in-Telling.unsent)) (WritesOnce (unsent_bytes c.in-Telling.unsent)) _ _ _ _ (λ t h. h) c.tell.ensures))

pub returns-in-Making : goal.returns-in-Making
returns-in-Making g c =
    let text = g.T.FaultTexts.says c.args.texts.now in
    let making = c.in-Making.making in
    run_as _ _ _ _ _ _ _ c.make_next.ensures
    (λ es os p. subst (λ s. HasMade (g.W.ReadyWire.calls c.args.wire.now) (g.W.ReadyWire.calls c.args.wire.now) (λ made. TakesStep text (task_of s) (trace made es os) (task_of c.make_next.result) false)) (sym c.in-Making.is) (no_calls text (Making making.left.items making.count) _ _ (g.W.ReadyWire.calls c.args.wire.now) es os (p, refl)))

pub returns-in-Closed : goal.returns-in-Closed
returns-in-Closed g c =
    let text = g.T.FaultTexts.says c.args.texts.now in
    run_none _ _ _ _ g.met.S.SiteKeeper.crash_states_represent _ _ _
    (subst (λ s. HasMade (g.W.ReadyWire.calls c.args.wire.now) (g.W.ReadyWire.calls c.args.wire.now) (λ made. TakesStep text (task_of s) (trace made [] []) Over false)) (sym c.in-Closed.is) ([], sym (append-nil _), (refl, refl, refl)))
