use Rattle.std.proofs.Common.{arith}
use Rattle.daily_server.proofs.Sparing.{later_sparing, noted_sparing}
use Rattle.daily_server.proofs.laws.stays_sparing.Goals as goal

pub returns : goal.returns
returns c = record {
  at_first = λ most now origin. omega arith;
  later_on = later_sparing;
  by_post = noted_sparing;
}
