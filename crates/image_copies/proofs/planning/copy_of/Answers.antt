use Rattle.std.proofs.Common.{sym, subst}
use Rattle.image_copies.specs.CopyFaults.{IsNoCopyMade}
use Rattle.image_copies.proofs.Plans.{not_made}
use Rattle.image_copies.proofs.planning.copy_of.Goals as goal

pub returns-in-Ok-clause-copy : goal.returns-in-Ok-clause-copy
returns-in-Ok-clause-copy c = λ s read. record {
  pairs = c.args.read.pairs.items;
  banner = c.args.read.banner;
  shows = read.shows;
  map = c.args.read.map;
  few = c.args.read.few;
  image = c.in-Ok.ensures.made;
  items = read.items;
}

pub returns-in-Err-clause-fault : goal.returns-in-Err-clause-fault
returns-in-Err-clause-fault c = subst (λ f. IsNoCopyMade c.args.count c.args.read.pairs.items f) (sym c.of_new.ensures) (not_made c.args.count c.args.read.pairs.items c.in-Err.fault c.in-Err.ensures.fault)
