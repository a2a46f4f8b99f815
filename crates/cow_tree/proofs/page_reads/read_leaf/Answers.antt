use Rattle.std.proofs.Common.{rules}
use Rattle.std.proofs.lemmas.Result.{err_from_is_err_and}
use Rattle.page_store.specs.Sectors.{page_of}
use Rattle.tree_nodes.specs.PageViews.{bounds_of}
use Rattle.cow_tree.proofs.AnswersGiven.{answer_err}
use Rattle.cow_tree.proofs.KeptLeavesRead.{leaf_next}
use Rattle.cow_tree.proofs.PagesTold.{leaf_walked}
use Rattle.cow_tree.proofs.page_reads.read_leaf.Goals as goal

pub returns : goal.returns
returns g c =
    let a = page_of (g.D.Device.state c.args.device.now).disk.view in
    let bounds = bounds_of c.args.bounds in
    let read = c.in_ok-read.ensures in
    record {
      next = record {
        leaf = λ keeps found walked.
            let leaf = leaf_walked a bounds c.args.page found walked in
            leaf_next a bounds c.args.page c.args.after.now found c.read.new.self leaf.0 leaf.1 (read.pairs keeps leaf.0 leaf.1) walked;
        there = c.has_above.ensures;
        some = read.some;
        reads = record { device = read.reads.device; reads = read.reads.reads };
      };
      work = read.work;
    }

pub returns-in_err-read : goal.returns-in_err-read
returns-in_err-read g c =
    let p = err_from_is_err_and c.from_residual.result c.from_residual.ensures.1 in
    record {
      next = record {
        leaf = λ keeps found walked.
            let leaf = leaf_walked (page_of (g.D.Device.state c.args.device.now).disk.view) (bounds_of c.args.bounds) c.args.page found walked in
            answer_err c.from_residual.result c.in_err-read.field-0.0 p.0 _ _ p.1 p.2 (c.in_err-read.ensures.pairs keeps leaf.0 leaf.1);
        there = search rules;
        some = search rules;
        reads = search rules;
      };
      work = c.read.ensures.work;
    }
