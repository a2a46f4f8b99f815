use Rattle.std.proofs.Common.{false, ◌≡◌, ◌++◌, map, take, drop}
use Rattle.mio.specs.Events.{items}
use Rattle.daily_server.specs.DailyClients.{woken_by}
use Rattle.daily_server.proofs.waking.wake_called.Given as goal

-- so many of them have their turn again
abbrev pub invariant-loop-client : goal.invariant-loop-client
invariant-loop-client l = l.clients ≡ map (woken_by false (items l.events)) (take l.client-index l.fn.clients) ++ drop l.client-index l.fn.clients
