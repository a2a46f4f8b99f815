use Rattle.std.proofs.Common.{arith}
use Rattle.daily_server.proofs.Spread.{received_spread, turns_spread, rounds_spread}
use Rattle.daily_server.proofs.laws.stays_spread.Goals as goal

pub returns : goal.returns
returns g c = record {
  at_first = λ terms origin. omega arith;
  let_in = λ terms now old new es os crowd had spread. received_spread terms now old.clients.items es os new.clients.items had.calls crowd had.received spread;
  by_turns = turns_spread;
  by_rounds = rounds_spread g.L.Write.contents g.O.Office.lets_wait g.O.Office.works;
}
