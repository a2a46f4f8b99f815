use Rattle.std.proofs.Common.{arith}
use Rattle.page_store.specs.Sectors.{page_of}
use Rattle.tree_nodes.specs.PageViews.{bounds_of}
use Rattle.cow_tree.proofs.PagesTold.{around_answered}
use Rattle.cow_tree.proofs.page_reads.read_around.Goals as goal

pub returns-clause-way : goal.returns-clause-way
returns-clause-way g c = λ keeps found walked.
    around_answered (page_of (g.D.Device.state c.args.device.now).disk.view) (bounds_of c.args.bounds) c.args.page found c.args.level c.requires.level walked c.args.key.now c.load_page.new.bytes
    (c.in_ok-load_page.ensures.page keeps) (let long = c.load_page.array_long in omega (arith, long)) c.around_in.result c.around_in.ensures.around c.around_in.ensures.fault
