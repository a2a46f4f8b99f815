use Rattle.std.proofs.Common.{rules}
use Rattle.page_store.specs.Sectors.{page_of}
use Rattle.cow_tree.proofs.kept_reads.get_in_leaf.Goals as goal

pub returns-in-Some-clause-found : goal.returns-in-Some-clause-found
returns-in-Some-clause-found g c = record {
  within = c.copy_lent_value.ensures.within;
  value = λ keeps found walked. c.copy_lent_value.ensures.value (page_of (g.D.Device.state c.args.device.now).disk.view) found (c.in-Some.ensures keeps) (c.requires.kept keeps) walked;
  buffer = c.copy_lent_value.ensures.buffer;
  reads = search rules;
}
