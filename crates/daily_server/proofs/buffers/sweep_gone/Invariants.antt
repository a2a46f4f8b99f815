use Rattle.std.proofs.Common.{◌≡◌, ◌+◌, ◌++◌, filter, not, take, drop, vec_len}
use Rattle.daily_server.specs.DailyClients.{has_gone}
use Rattle.daily_server.proofs.buffers.sweep_gone.Given as goal

-- who of the last ones has gone is in no more, and has left a buffer
abbrev pub invariant-loop-at : goal.invariant-loop-at
invariant-loop-at l = record {
  clients : l.clients.items ≡ take l.at l.fn.clients.items ++ filter (λ client. not (has_gone client)) (drop l.at l.fn.clients.items);
  each : vec_len l.clients + vec_len l.free ≡ vec_len l.fn.clients + vec_len l.fn.free;
}
