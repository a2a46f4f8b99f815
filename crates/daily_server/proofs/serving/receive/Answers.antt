use Rattle.std.proofs.Common.{◌≡◌, ◌<◌, true, false, refl, sym, ap, subst, ◌∙◌, vec_len, []}
use Rattle.std.specs.Prelude.{vec_capacity}
use Rattle.turns.proofs.Runnings.{run_none, run_as}
use Rattle.daily_server.specs.DailyClients.{is_crowded, IsReceivedIf}
use Rattle.daily_server.proofs.serving.receive.Goals as goal

pub returns-then-is_crowded-clause-run : goal.returns-then-is_crowded-clause-run
returns-then-is_crowded-clause-run g c =
    let crowded : is_crowded c.args.terms.most c.args.clients.now.items c.args.next.1 ≡ true = ap (λ v. is_crowded c.args.terms.most v c.args.next.1) (sym c.as_slice.ensures.value) ∙ sym c.is_crowded.ensures ∙ c.if-is_crowded.true in
    run_none _ _ _ _ g.met.S.SiteKeeper.crash_states_represent _ _ _
    (subst (λ b. IsReceivedIf b c.args.terms (vec_len c.args.clients.now < vec_capacity c.args.clients.now) c.args.next.1 c.args.next.2 c.args.now c.args.clients.now.items [] [] c.args.clients.now.items c.args.crowd.now.items c.note_away.new.crowd.items) (sym crowded)
    (record { socket = c.decline-socket.result; declined = c.decline-socket.ensures; no_events = refl; no_outcomes = refl; same = refl; noted = c.note_away.ensures }))

pub returns-else-is_crowded-clause-run : goal.returns-else-is_crowded-clause-run
returns-else-is_crowded-clause-run g c =
    let alone : is_crowded c.args.terms.most c.args.clients.now.items c.args.next.1 ≡ false = ap (λ v. is_crowded c.args.terms.most v c.args.next.1) (sym c.as_slice.ensures.value) ∙ sym c.is_crowded.ensures ∙ c.if-is_crowded.false in
    run_as _ _ _ _ _ _ _ c.enter.ensures.run
    (λ es os p. subst (λ b. IsReceivedIf b c.args.terms (vec_len c.args.clients.now < vec_capacity c.args.clients.now) c.args.next.1 c.args.next.2 c.args.now c.args.clients.now.items es os c.enter.new.clients.items c.args.crowd.now.items c.args.crowd.now.items) (sym alone) (p, refl))
