use Rattle.std.proofs.Common.{◌≡◌, ◌++◌, map, take, drop}
use Rattle.daily_server.specs.DailyClients.{woken}
use Rattle.daily_server.proofs.service.Service.wake_all.Given as goal

-- so many of them have their turn again
abbrev pub invariant-loop-client : goal.invariant-loop-client
invariant-loop-client l = l.client-items ≡ map woken (take l.client-index l.fn.self.clients.items) ++ drop l.client-index l.fn.self.clients.items
