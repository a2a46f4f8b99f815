use Rattle.site_records.proofs.RecordLaws.{same_record}
use Rattle.site_records.proofs.laws.records_tell.Goals as goal

pub returns : goal.returns
returns c = same_record
