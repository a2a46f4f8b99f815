use Rattle.std.proofs.Common.{sym}
use Rattle.cow_tree.proofs.PlacesFound.{no_key_past}
use Rattle.cow_tree.proofs.page_places.key_from.Goals as goal

pub returns-in_err-entries : goal.returns-in_err-entries
returns-in_err-entries c = rw c.from_residual.ensures (sym (no_key_past c.args.level c.args.bytes.now c.args.place c.in_err-entries.ensures.lookup.0))
