use Rattle.std.proofs.Common.{refl}
use Rattle.page_store.specs.Sectors.{page_of}
use Rattle.cow_tree.specs.TreeState.{found_under}
use Rattle.cow_tree.specs.KeysCounted.{keys_told}
use Rattle.cow_tree.proofs.tree_calls.TreeKeeperKeeper.figures.Goals as goal

pub returns : goal.returns
returns g c =
    let k = c.args.self.now in
    let view = (g.D.Device.state k.device).disk.view in
    record {
      keys = λ keeps. keys_told k.slot (page_of view) (found_under k.slot view) (k.there keeps).found_is;
      counted = refl;
      free = c.free.ensures;
      generation = refl;
    }
