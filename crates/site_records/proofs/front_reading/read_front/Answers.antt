use Rattle.std.proofs.Common.{arith}
use Rattle.site_records.proofs.RecordLaws.{front_found}
use Rattle.site_records.proofs.front_reading.read_front.Goals as goal

pub returns-clause-found : goal.returns-clause-found
returns-clause-found c = front_found c.args.bytes.now c.front_in.result (λ i. omega (arith, c.type_inv.bytes i)) c.front_in.ensures
