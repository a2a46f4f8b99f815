use Rattle.std.proofs.Common.{◌<◌, length, sym, ap, ◌∙◌, arith}
use Rattle.std.proofs.Math.ListN.{set}
use Rattle.std.proofs.lemmas.List.Edits.{map_over_more}
use Rattle.daily_server.specs.DailyClients.{woken}
use Rattle.daily_server.proofs.service.Service.wake_all.Goals as goal

pub loop-client-preserved : goal.loop-client-preserved
loop-client-preserved c =
    let within : c.loop-client.client-index < length c.args.self.now.clients.items = omega arith in
    ap (set c.loop-client.client-items c.loop-client.client-index) (c.wake.ensures ∙ ap woken (sym c.client-item.is)) ∙
    map_over_more woken c.args.self.now.clients.items _ _ c.client-item.result within c.loop-client.invariant c.client-item.is
