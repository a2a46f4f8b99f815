use Rattle.std.proofs.Common.{refl, rules}
use Rattle.cow_tree.specs.TreeSeen.{held}
use Rattle.image_copies.proofs.PairsRead.{not_read}
use Rattle.image_copies.proofs.all_pairs.pair_behind.Goals as goal

pub returns-in-Err-clause-reads : goal.returns-in-Err-clause-reads
returns-in-Err-clause-reads g c = record {
  kept = search rules;
  counts = search rules;
  fault = (refl, not_read (held g.D.Device.state c.args.keeper.now) (held g.D.Device.state c.next.new.self) c.in-Err.field-0 c.requires.usable c.in-Err.ensures.fails.cause);
  at_crash = search rules;
}
