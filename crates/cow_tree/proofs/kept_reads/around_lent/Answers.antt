use Rattle.std.proofs.Common.{arith}
use Rattle.tree_nodes.specs.PageViews.{bounds_of}
use Rattle.page_store.specs.Content.{place_in}
use Rattle.cow_tree.proofs.PagesTold.{around_answered, head_shown}
use Rattle.cow_tree.proofs.kept_reads.around_lent.Goals as goal

pub returns-clause-way : goal.returns-clause-way
returns-clause-way c = λ view found is are walked.
    around_answered view (bounds_of c.args.bounds) c.args.page found c.args.level c.requires walked c.args.key.now c.args.bytes.now is (let long = c.told-bytes in omega (arith, long)) c.around_in.result c.around_in.ensures.around c.around_in.ensures.fault

pub returns-clause-head : goal.returns-clause-head
returns-clause-head c = head_shown (place_in (bounds_of c.args.bounds) c.args.level c.args.page) c.args.key.now c.args.bytes.now c.around_in.result c.around_in.ensures.around
