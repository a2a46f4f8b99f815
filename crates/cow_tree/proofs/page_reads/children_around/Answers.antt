use Rattle.std.proofs.Common.{arith}
use Rattle.page_store.specs.Sectors.{page_of}
use Rattle.tree_nodes.specs.PageViews.{bounds_of}
use Rattle.cow_tree.proofs.PagesTold.{around_answered}
use Rattle.cow_tree.proofs.page_reads.children_around.Goals as goal

pub returns-in-Some-clause-way : goal.returns-in-Some-clause-way
returns-in-Some-clause-way g c = λ keeps found walked.
    around_answered (page_of (g.D.Device.state c.args.device.now).disk.view) (bounds_of c.args.bounds) c.args.page found c.args.level c.requires.level walked c.args.key.now c.in-Some.lent.now
    (c.in-Some.ensures keeps) (let long = c.around_in.ensures.long in omega (arith, long)) c.around_in.result c.around_in.ensures.around c.around_in.ensures.fault
