use Rattle.std.proofs.Common.{sym}
use Rattle.page_store.specs.Pages.{Pair}
use Rattle.page_store.proofs.DecodedPages.{pair_sizes}
use Rattle.tree_nodes.proofs.SizesRead.{pair_read}
use Rattle.cow_tree.proofs.PlacesFound.{no_pair_past}
use Rattle.cow_tree.proofs.page_places.pair_there.Goals as goal

pub returns-in_err-get-clause-pair : goal.returns-in_err-get-clause-pair
returns-in_err-get-clause-pair c = rw c.from_residual.ensures (sym (no_pair_past c.args.bytes.now c.args.place c.in_err-get.ensures.lookup.0))

pub returns-clause-size : goal.returns-clause-size
returns-clause-size c =
    let pair : Pair = (c.in_ok-pair.pair.0.now, c.in_ok-pair.pair.1.now) in
    (pair_sizes pair (pair_read c.in_ok-get.field-0.now (pair, c.in_ok-pair.field-0-1.now) (sym c.in_ok-pair.ensures)).0).1
