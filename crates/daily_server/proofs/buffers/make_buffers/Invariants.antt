use Rattle.std.proofs.Common.{◌≡◌, ◌≤◌, vec_len}
use Rattle.std.specs.Prelude.{vec_capacity}
use Rattle.daily_server.proofs.buffers.make_buffers.Given as goal

-- so many are made, and there is space for all
abbrev pub invariant-loop-client : goal.invariant-loop-client
invariant-loop-client l = record {
  made : vec_len l.free ≡ l._client;
  space : 32 ≤ vec_capacity l.free;
}
