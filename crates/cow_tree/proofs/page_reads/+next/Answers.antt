use Rattle.std.proofs.Common.{◌≡◌, ◌-◌, ℕ, Bool, [], Option, Some, None, sym, subst, ◌∙◌, arith, rules}
use Rattle.std.proofs.lemmas.Result.{err_from_is_err_and}
use Rattle.sector_device.specs.Disk.{Disk}
use Rattle.sector_device.proofs.Works.{most_then, no_more_than}
use Rattle.page_store.specs.Sectors.{page_of}
use Rattle.page_store.specs.Content.{walk}
use Rattle.page_store.proofs.DeviceSequences.{still_honest}
use Rattle.tree_nodes.specs.PageViews.{bounds_of}
use Rattle.cow_tree.specs.KeptLeaves.{IsNextLeaf}
use Rattle.cow_tree.specs.Ways.{IsNext}
use Rattle.cow_tree.proofs.AnswersGiven.{answer_err, answer_then}
use Rattle.cow_tree.proofs.KeptLeavesRead.{next_here, next_nowhere, next_there}
use Rattle.cow_tree.proofs.WorkDone.{tried_under}
use Rattle.cow_tree.proofs.page_reads.+next.Goals as goal

pub leaf_after-returns-in_err-child : goal.leaf_after-returns-in_err-child
leaf_after-returns-in_err-child g t c =
    let p = err_from_is_err_and c.from_residual.result c.from_residual.ensures.1 in
    record {
      next = record {
        leaf = λ keeps found walked. answer_err c.from_residual.result c.in_err-child.field-0.0 p.0 _ _ p.1 p.2 (c.in_err-child.ensures.way keeps found walked);
        there = search rules;
        some = search rules;
        reads = search rules;
      };
      work = let ne = c.if-level-eq0.false in let tried = tried_under c.args.level ne in no_more_than c.children_around.ensures.work (omega (arith, tried)) (omega arith) (omega arith);
    }

pub leaf_after-returns-in_err-leaf_after : goal.leaf_after-returns-in_err-leaf_after
leaf_after-returns-in_err-leaf_after g t c =
    let d = g.D.Device in
    let p = err_from_is_err_and c.from_residual-in_err-leaf_after.result c.from_residual-in_err-leaf_after.ensures.1 in
    let read = c.in_ok-child.ensures.reads in
    let under = c.in_err-leaf_after.ensures.next in
    record {
      next = record {
        leaf = λ keeps found walked.
            let w = c.in_ok-child.ensures.way keeps found walked in
            let keeps1 = still_honest (d.state c.args.device.now) (d.state c.children_around.new.device) read.device.only.same keeps in
            let here = subst (λ (x : Disk). walk (page_of x.view) (bounds_of c.args.bounds) (c.args.level - 1) c.in_ok-child.child [] None ≡ Some w.here) (sym (read.device.only.disk keeps)) w.here_is in
            answer_err c.from_residual-in_err-leaf_after.result c.in_err-leaf_after.field-0.0 p.0 _ _ p.1 p.2 (under.leaf keeps1 w.here here);
        there = search rules;
        some = search rules;
        reads = search rules;
      };
      work = let ne = c.if-level-eq0.false in let tried = tried_under c.args.level ne in no_more_than (most_then c.in_ok-child.ensures.work c.leaf_after.ensures.work) (omega (arith, tried)) (omega arith) (omega arith);
    }

pub leaf_after-returns-then-branch : goal.leaf_after-returns-then-branch
leaf_after-returns-then-branch g t c =
    let d = g.D.Device in
    let a = page_of (d.state c.args.device.now).disk.view in
    let b = bounds_of c.args.bounds in
    let read = c.in_ok-child.ensures.reads in
    let under = c.in_ok-leaf_after.ensures.next in
    let some = sym under.there ∙ c.if-branch.true in
    record {
      next = record {
        leaf = λ keeps found walked.
            let w = c.in_ok-child.ensures.way keeps found walked in
            let keeps1 = still_honest (d.state c.args.device.now) (d.state c.children_around.new.device) read.device.only.same keeps in
            let here = subst (λ (x : Disk). walk (page_of x.view) b (c.args.level - 1) c.in_ok-child.child [] None ≡ Some w.here) (sym (read.device.only.disk keeps)) w.here_is in
            let leaf = subst (λ (x : Disk). IsNextLeaf (page_of x.view) b c.args.after.now w.here c.leaf_after.new.kept) (read.device.only.disk keeps) (under.leaf keeps1 w.here here) in
            next_here a b (c.args.level - 1) c.args.after.now found (c.in_ok-child.child, c.in_ok-child.sibling) w c.leaf_after.new.kept leaf some;
        there = sym some;
        some = under.some;
        reads = search rules;
      };
      work = let ne = c.if-level-eq0.false in let tried = tried_under c.args.level ne in no_more_than (most_then c.in_ok-child.ensures.work c.leaf_after.ensures.work) (omega (arith, tried)) (omega arith) (omega arith);
    }

pub leaf_after-returns-in-Some : goal.leaf_after-returns-in-Some
leaf_after-returns-in-Some g t c =
    let d = g.D.Device in
    let a = page_of (d.state c.args.device.now).disk.view in
    let b = bounds_of c.args.bounds in
    let key = c.args.after.now in
    let read = c.in_ok-child.ensures.reads in
    let under = c.in_ok-leaf_after.ensures.next in
    let beside = c.leaf_in_sibling.ensures.next in
    record {
      next = record {
        leaf = λ keeps found walked.
            let w = c.in_ok-child.ensures.way keeps found walked in
            let keeps1 = still_honest (d.state c.args.device.now) (d.state c.children_around.new.device) read.device.only.same keeps in
            let here = subst (λ (x : Disk). walk (page_of x.view) b (c.args.level - 1) c.in_ok-child.child [] None ≡ Some w.here) (sym (read.device.only.disk keeps)) w.here_is in
            let first = subst (λ (x : Disk). IsNextLeaf (page_of x.view) b key w.here c.leaf_after.new.kept) (read.device.only.disk keeps) (under.leaf keeps1 w.here here) in
            let none = sym under.there ∙ c.if-branch.false in
            let again = under.reads.device in
            let keeps2 = still_honest (d.state c.children_around.new.device) (d.state c.leaf_after.new.device) again.only.same keeps1 in
            let disk = again.only.disk keeps1 ∙ read.device.only.disk keeps in
            let n = subst (λ (s : Option ℕ). IsNext a b (c.args.level - 1) key s found w.rest) c.in-Some.is w.next in
            let there = subst (λ (x : Disk). walk (page_of x.view) b (c.args.level - 1) c.in-Some.next [] None ≡ Some n.0) (sym disk) n.1 in
            answer_then c.leaf_in_sibling.result (λ (x : Bool). IsNextLeaf (page_of (d.state c.leaf_after.new.device).disk.view) b key n.0 c.leaf_in_sibling.new.kept) (λ (x : Bool). IsNextLeaf a b key found c.leaf_in_sibling.new.kept)
            (λ x leaf. next_there a b (c.args.level - 1) key found (c.in_ok-child.child, c.in_ok-child.sibling) w c.leaf_in_sibling.new.kept c.leaf_after.new.kept n.0 first none n.2 n.3
            (subst (λ (y : Disk). IsNextLeaf (page_of y.view) b key n.0 c.leaf_in_sibling.new.kept) disk leaf))
            (beside.leaf keeps2 n.0 (there, λ nothing. n.4 (sym n.3 ∙ nothing)));
        there = beside.there;
        some = beside.some;
        reads = search rules;
      };
      work = let ne = c.if-level-eq0.false in let tried = tried_under c.args.level ne in no_more_than (most_then (most_then c.in_ok-child.ensures.work c.leaf_after.ensures.work) c.leaf_in_sibling.ensures.work) (omega (arith, tried)) (omega arith) (omega arith);
    }

pub leaf_after-returns-in-None : goal.leaf_after-returns-in-None
leaf_after-returns-in-None g t c =
    let d = g.D.Device in
    let a = page_of (d.state c.args.device.now).disk.view in
    let b = bounds_of c.args.bounds in
    let key = c.args.after.now in
    let read = c.in_ok-child.ensures.reads in
    let under = c.in_ok-leaf_after.ensures.next in
    let none = sym under.there ∙ c.if-branch.false in
    record {
      next = record {
        leaf = λ keeps found walked.
            let w = c.in_ok-child.ensures.way keeps found walked in
            let keeps1 = still_honest (d.state c.args.device.now) (d.state c.children_around.new.device) read.device.only.same keeps in
            let here = subst (λ (x : Disk). walk (page_of x.view) b (c.args.level - 1) c.in_ok-child.child [] None ≡ Some w.here) (sym (read.device.only.disk keeps)) w.here_is in
            let leaf = subst (λ (x : Disk). IsNextLeaf (page_of x.view) b key w.here c.leaf_after.new.kept) (read.device.only.disk keeps) (under.leaf keeps1 w.here here) in
            let rest = subst (λ (s : Option ℕ). IsNext a b (c.args.level - 1) key s found w.rest) c.in-None.is w.next in
            next_nowhere a b (c.args.level - 1) key found (c.in_ok-child.child, c.in_ok-child.sibling) w c.leaf_after.new.kept leaf none rest;
        there = sym none;
        some = under.some;
        reads = search rules;
      };
      work = let ne = c.if-level-eq0.false in let tried = tried_under c.args.level ne in no_more_than (most_then c.in_ok-child.ensures.work c.leaf_after.ensures.work) (omega (arith, tried)) (omega arith) (omega arith);
    }
