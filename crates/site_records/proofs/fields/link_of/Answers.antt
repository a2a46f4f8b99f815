use Rattle.std.proofs.Common.{refl}
use Rattle.host_types.specs.Names.{is_url}
use Rattle.site_records.specs.Field.{byte, counted}
use Rattle.site_records.proofs.NameTests.{field_found, field_refused}
use Rattle.site_records.proofs.fields.link_of.Goals as goal

pub returns-in-Ok : goal.returns-in-Ok
returns-in-Ok c = field_found is_url 251 (counted byte) c.args.bytes.now c.in_ok-text.text.now c.in_ok-text.rest.now c.in-Ok.url c.in_ok-text.ensures c.in-Ok.ensures

pub returns-in-Err : goal.returns-in-Err
returns-in-Err c = (refl, field_refused is_url 251 (counted byte) c.args.bytes.now c.in_ok-text.text.now c.in_ok-text.rest.now c.in-Err.field-0 c.in_ok-text.ensures c.in-Err.ensures)
