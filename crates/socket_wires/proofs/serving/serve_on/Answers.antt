use Rattle.std.proofs.Common.{◌≡◌, [], refl, sym, ◌∙◌, arith, rules}
use Rattle.std.proofs.lemmas.List.{append-nil}
use Rattle.turns.proofs.Runnings.{run_none, run_both, run_as}
use Rattle.socket_wires.proofs.RoundsMade.{round_made, run_with, none_made, one_more, ended, not_accepted}
use Rattle.socket_wires.proofs.serving.serve_on.Goals as goal

pub loop-round-init : goal.loop-round-init
loop-round-init g c = run_none _ _ _ _ g.met.S.SiteKeeper.crash_states_represent _ _ _ (none_made _ _ _ _ _)

pub loop-round-preserved : goal.loop-round-preserved
loop-round-preserved g c = run_both _ _ _ _ g.met.S.SiteKeeper.crash_states_represent _ _ _ _ _ _ _ _ _ c.loop-round.invariant (run_with _ _ _ _ _ _ c.take_turns.ensures.serves)
    (λ es fs os ps p q. one_more _ _ _ _ _ _ _ _ _ _ _ _ _ es fs os ps p c.in_ok-connections.ensures.taken (sym c.is_usable.ensures ∙ c.if-not-is_usable.false) q.0
    (round_made c.args.together _ _ _ c.in_ok-connections.connections.items _ c.take_turns.new.connections _ fs ps c.in_ok-connections.ensures.fresh refl c.deref_mut.ensures.value q.1 c.take_turns.ensures.count c.saturating_add-served.ensures))

pub returns-in_err-connections : goal.returns-in_err-connections
returns-in_err-connections g c = run_as _ _ _ _ _ _ _ c.loop-round.invariant
    (λ es os p. not_accepted _ _ _ _ c.loop-round._round _ c.from_residual.result _ _ _ _ _ _ es os c.from_residual.ensures.1 c.in_err-connections.ensures.fault c.loop-round-test.true (sym c.is_usable.ensures ∙ c.if-not-is_usable.false) p)

pub returns-then-not-is_usable : goal.returns-then-not-is_usable
returns-then-not-is_usable g c = run_as _ _ _ _ _ _ _ c.loop-round.invariant
    (λ es os p. ended _ _ _ _ c.loop-round._round _ _ _ _ _ [] _ _ es os (omega (arith, c.loop-round-test.true)) p (sym (append-nil _)) (sym c.is_usable.ensures ∙ c.if-not-is_usable.true, refl))

pub returns-then-is_usable : goal.returns-then-is_usable
returns-then-is_usable g c =
    let all : c.loop-round._round ≡ c.args.rounds = omega (arith, c.loop-round-test.false, c.loop-round.auto._round-end) in
    run_as _ _ _ _ _ _ _ c.loop-round.invariant (λ es os p. ended _ _ _ _ c.loop-round._round _ _ _ _ _ [] _ _ es os (omega (arith, all)) p (sym (append-nil _)) (search rules, all, refl, refl))
