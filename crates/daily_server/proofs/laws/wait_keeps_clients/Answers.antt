use Rattle.std.proofs.Common.{◌≡◌, Bool, true, false, not, ◌&&◌, ◌||◌, refl}
use Rattle.daily_turns.specs.ReadyConnections.{acts}
use Rattle.daily_server.specs.DailyClients.{is_called, woken_where, IsSameClient}
use Rattle.daily_server.specs.declared.daily_client.DailyClient.{DailyClient}
use Rattle.daily_server.proofs.laws.wait_keeps_clients.Goals as goal

later_too : (rests acts : Bool) → (not rests && acts) ≡ true → (not false && acts) ≡ true
later_too true acts had = cc
later_too false acts had = had

kept : (wakes : Bool) (client : DailyClient) → IsSameClient client (woken_where wakes client)
kept true client = record {
  wire = refl;
  stage = refl;
  unsent = refl;
  adapter = refl;
  from = refl;
  token = refl;
  came = refl;
  moved = refl;
  turn = later_too client.connection.waits (acts client.connection.stage);
}
kept false client = record {
  wire = refl;
  stage = refl;
  unsent = refl;
  adapter = refl;
  from = refl;
  token = refl;
  came = refl;
  moved = refl;
  turn = λ had. had;
}

pub returns : goal.returns
returns c = λ all events client. kept (all || is_called events client.token) client
