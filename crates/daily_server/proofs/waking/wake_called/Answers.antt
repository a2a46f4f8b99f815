use Rattle.std.proofs.Common.{◌<◌, false, length, sym, ap, ◌∙◌, arith}
use Rattle.std.proofs.Math.ListN.{set}
use Rattle.std.proofs.lemmas.List.Edits.{map_over_more}
use Rattle.mio.specs.Events.{items}
use Rattle.daily_server.specs.DailyClients.{woken_by}
use Rattle.daily_server.proofs.waking.wake_called.Goals as goal

pub loop-client-preserved : goal.loop-client-preserved
loop-client-preserved c =
    let events = items c.args.events.now in
    let within : c.loop-client.client-index < length c.args.clients.now = omega arith in
    ap (set c.loop-client.clients c.loop-client.client-index) (c.wake_if_called.ensures ∙ ap (woken_by false events) (sym c.client-item.is)) ∙
    map_over_more (woken_by false events) c.args.clients.now _ _ c.client-item.result within c.loop-client.invariant c.client-item.is
