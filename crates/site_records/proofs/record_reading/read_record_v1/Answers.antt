use Rattle.std.proofs.Common.{ap, subst, ◌∙◌, arith}
use Rattle.site_records.specs.Reading.{Gives, record_at_v1}
use Rattle.site_records.specs.Limits.{is_record_v1}
use Rattle.site_records.specs.Records.{record_bytes_v1}
use Rattle.site_records.proofs.Loops.{lacks_for}
use Rattle.site_records.proofs.RecordLaws.{record_takes_v1, record_found_v1, record_again_v1, read_fits_v1}
use Rattle.site_records.proofs.record_reading.read_record_v1.Goals as goal

pub returns-clause-found : goal.returns-clause-found
returns-clause-found c = record_found_v1 c.args.bytes.now c.whole_record_v1.result (λ i. omega (arith, c.type_inv.bytes i)) c.whole_record_v1.ensures

pub returns-clause-only : goal.returns-clause-only
returns-clause-only c = λ r fits e. subst (λ f. Gives (λ x. x) c.whole_record_v1.result f) (ap record_at_v1 e ∙ record_again_v1 r fits) c.whole_record_v1.ensures

pub returns-clause-fits : goal.returns-clause-fits
returns-clause-fits c = read_fits_v1 c.args.bytes.now c.whole_record_v1.result (λ i. omega (arith, c.type_inv.bytes i)) c.whole_record_v1.ensures

pub returns-clause-memory : goal.returns-clause-memory
returns-clause-memory c = lacks_for is_record_v1 record_bytes_v1 c.args.bytes.now (record_at_v1 c.args.bytes.now) (λ x found. record_takes_v1 c.args.bytes.now x (λ i. omega (arith, c.type_inv.bytes i)) found) c.whole_record_v1.result c.whole_record_v1.ensures
