use Rattle.std.proofs.Common.{ap, sym}
use Rattle.std.specs.Prelude.{option_map}
use Rattle.page_store.specs.Pages.{Child}
use Rattle.cow_tree.proofs.PlacesFound.{no_child_past}
use Rattle.cow_tree.proofs.page_places.page_from.Goals as goal

pub returns-in_err-get : goal.returns-in_err-get
returns-in_err-get c = rw c.from_residual.ensures (sym (ap (option_map (λ (x : Child). x.page)) (no_child_past c.args.bytes.now c.args.place c.in_err-get.ensures.lookup.0)))
