use Rattle.std.proofs.Common.{not, arith, sym, ap, ◌∙◌, ◌-◌}
use Rattle.daily_server.specs.DailyClients.{has_gone}
use Rattle.daily_server.proofs.Sweeping.{one_out}
use Rattle.daily_server.proofs.buffers.sweep_gone.Goals as goal

pub loop-at-preserved-then-is_closed : goal.loop-at-preserved-then-is_closed
loop-at-preserved-then-is_closed c = record {
  clients = one_out (λ client. not (has_gone client)) c.args.clients.now.items c.loop-at.clients.items c.remove-gone.new.self.items c.loop-at.at (c.loop-at.at - 1) c.index.result.now (omega arith) (omega (arith, c.loop-at.auto.at, c.len-at.ensures)) c.loop-at.invariant.clients c.index.ensures (ap not (sym c.is_closed.ensures ∙ c.if-is_closed.true)) c.remove-gone.ensures.items;
  each = omega arith;
}
