use Rattle.std.proofs.Common.{ap, subst, ◌∙◌, arith}
use Rattle.site_records.specs.Reading.{Gives, record_at}
use Rattle.site_records.specs.Limits.{is_record}
use Rattle.site_records.specs.Records.{record_bytes}
use Rattle.site_records.proofs.Loops.{lacks_for}
use Rattle.site_records.proofs.RecordLaws.{record_takes, record_found, record_again, read_fits}
use Rattle.site_records.proofs.record_reading.read_record.Goals as goal

pub returns-clause-found : goal.returns-clause-found
returns-clause-found c = record_found c.args.bytes.now c.whole_record.result (λ i. omega (arith, c.type_inv.bytes i)) c.whole_record.ensures

pub returns-clause-only : goal.returns-clause-only
returns-clause-only c = λ r fits e. subst (λ f. Gives (λ x. x) c.whole_record.result f) (ap record_at e ∙ record_again r fits) c.whole_record.ensures

pub returns-clause-fits : goal.returns-clause-fits
returns-clause-fits c = read_fits c.args.bytes.now c.whole_record.result (λ i. omega (arith, c.type_inv.bytes i)) c.whole_record.ensures

pub returns-clause-memory : goal.returns-clause-memory
returns-clause-memory c = lacks_for is_record record_bytes c.args.bytes.now (record_at c.args.bytes.now) (λ x found. record_takes c.args.bytes.now x (λ i. omega (arith, c.type_inv.bytes i)) found) c.whole_record.result c.whole_record.ensures
