use Rattle.std.proofs.Common.{◌≡◌, ◌+◌, [], ◌∷◌, ◌++◌, map, sym, ap, subst, ◌∙◌, rules}
use Rattle.socket_wires.specs.Rounds.{IsFresh}
use Rattle.socket_wires.specs.Taking.{had, IsFreshWire}
use Rattle.socket_wires.specs.declared.gate.Taken.TheVariants.{Had}
use Rattle.socket_wires.specs.declared.socket_wire.SocketWire.{SocketWire}
use Rattle.socket_wires.proofs.TakenOnes.{fresh_more, had_more, missed_next, found_none}
use Rattle.socket_wires.proofs.serving.accept.Goals as goal

pub returns-in_default-clause-fault : goal.returns-in_default-clause-fault
returns-in_default-clause-fault c =
    let missed = c.in_default.ensures.missed in
    missed_next c.args.together c.loop.counter c.loop.connections.items _ _ _ missed.0 c.loop.invariant.fresh c.loop-test.true c.loop.invariant.taken missed.1 missed.2

pub returns-then-is_err-clause-fault : goal.returns-then-is_err-clause-fault
returns-then-is_err-clause-fault c = found_none c.args.together c.loop.counter c.loop.connections.items _ _ _ c.in-Ok.wire.from c.loop.invariant.fresh c.loop-test.true c.loop.invariant.taken c.in-Ok.ensures.had.1

pub loop-preserved : goal.loop-preserved
loop-preserved c =
    let items : c.push.new.self.items ≡ c.loop.connections.items ++ c.new.result ∷ [] = search rules in
    record {
      fresh = subst (IsFresh (c.loop.counter + 1)) (sym items) (fresh_more c.loop.counter c.loop.connections.items c.new.result c.loop.invariant.fresh c.new.ensures.stage (subst IsFreshWire (sym c.new.ensures.wire) c.in-Ok.ensures.had.0));
      taken = subst (λ cs. c.next.new.self.taken.calls ≡ c.args.gate.now.taken.calls ++ map had cs) (sym items)
          (had_more c.loop.connections.items c.new.result _ _ _ c.loop.invariant.taken (c.in-Ok.ensures.had.1 ∙ ap (λ (w : SocketWire). c.loop.gate.taken.calls ++ Had w.from ∷ []) (sym c.new.ensures.wire)));
    }
