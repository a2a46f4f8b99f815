use Rattle.site_records.proofs.Lengths.{recorded_fits}
use Rattle.site_records.proofs.record.Record.of_item.Goals as goal

pub returns-clause-fits : goal.returns-clause-fits
returns-clause-fits c = recorded_fits c.args.item.now c.recorded.result c.requires c.recorded.ensures
