use Rattle.std.proofs.Common.{◌≡◌, ◌-◌, ℕ, [], Option, Some, None, Ok, Result, sym, subst, ◌∙◌, arith, rules}
use Rattle.std.specs.Prelude.{option_map, take}
use Rattle.std.proofs.lemmas.Result.{err_from_is_err_and}
use Rattle.sector_device.specs.Disk.{Disk}
use Rattle.sector_device.proofs.Works.{most_then, no_more_than}
use Rattle.page_store.specs.Sectors.{page_of}
use Rattle.page_store.specs.Batch.{pair_after}
use Rattle.page_store.specs.Content.{walk}
use Rattle.page_store.proofs.DeviceSequences.{still_honest}
use Rattle.tree_nodes.specs.PageViews.{bounds_of}
use Rattle.cow_tree.specs.Ways.{IsNext, AnswersBy}
use Rattle.cow_tree.specs.declared.page_fault.PageFault.{PageFault}
use Rattle.cow_tree.proofs.AnswersGiven.{answer_err, answer_is}
use Rattle.cow_tree.proofs.NextPairs.{pair_here, pair_elsewhere}
use Rattle.cow_tree.proofs.WorkDone.{tried_under}
use Rattle.cow_tree.proofs.next_reads.+next.Goals as goal

abbrev ok_of : Option (ℕ × ℕ) → Result (Option (ℕ × ℕ)) PageFault
ok_of o = Ok o

pub next_in_sibling-returns-in-Some-clause-next : goal.next_in_sibling-returns-in-Some-clause-next
next_in_sibling-returns-in-Some-clause-next g t c =
    let under = c.in_ok-sizes.ensures.next in
    record {
      within = search rules;
      pair = λ keeps found walked.
          subst (λ (o : Option (ℕ × ℕ)). AnswersBy (ok_of o) (λ sizes. option_map (λ (n : ℕ × ℕ). (take n.0 c.next_under.new.key, take n.1 c.next_under.new.value)) sizes ≡ pair_after found.pairs c.args.after.now)) c.in-Some.is (under.pair keeps found walked.0);
      key = search rules;
      value = search rules;
      reads = search rules;
    }

pub next_under-returns-in_err-child-clause-next : goal.next_under-returns-in_err-child-clause-next
next_under-returns-in_err-child-clause-next g t c =
    let p = err_from_is_err_and c.from_residual.result c.from_residual.ensures.1 in
    record {
      within = search rules;
      pair = λ keeps found walked. answer_err c.from_residual.result c.in_err-child.field-0.0 p.0 _ _ p.1 p.2 (c.in_err-child.ensures.way keeps found walked);
      key = search rules;
      value = search rules;
      reads = search rules;
    }

pub next_under-returns-in_err-child-clause-work : goal.next_under-returns-in_err-child-clause-work
next_under-returns-in_err-child-clause-work g t c = let ne = c.if-level-eq0.false in let tried = tried_under c.args.level ne in no_more_than c.children_around.ensures.work (omega (arith, tried)) (omega arith) (omega arith)

pub next_under-returns-in_err-sizes-clause-next : goal.next_under-returns-in_err-sizes-clause-next
next_under-returns-in_err-sizes-clause-next g t c =
    let d = g.D.Device in
    let p = err_from_is_err_and c.from_residual-in_err-sizes.result c.from_residual-in_err-sizes.ensures.1 in
    let read = c.in_ok-child.ensures.reads in
    let under = c.in_err-sizes.ensures.next in
    record {
      within = search rules;
      pair = λ keeps found walked.
          let w = c.in_ok-child.ensures.way keeps found walked in
          let keeps1 = still_honest (d.state c.args.device.now) (d.state c.children_around.new.device) read.device.only.same keeps in
          let here = subst (λ (x : Disk). walk (page_of x.view) (bounds_of c.args.bounds) (c.args.level - 1) c.in_ok-child.child [] None ≡ Some w.here) (sym (read.device.only.disk keeps)) w.here_is in
          answer_err c.from_residual-in_err-sizes.result c.in_err-sizes.field-0.0 p.0 _ _ p.1 p.2 (under.pair keeps1 w.here here);
      key = search rules;
      value = search rules;
      reads = search rules;
    }

pub next_under-returns-in_err-sizes-clause-work : goal.next_under-returns-in_err-sizes-clause-work
next_under-returns-in_err-sizes-clause-work g t c =
    let ne = c.if-level-eq0.false in
    let tried = tried_under c.args.level ne in
    no_more_than (most_then c.in_ok-child.ensures.work c.next_under.ensures.work) (omega (arith, tried)) (omega arith) (omega arith)

pub next_under-returns-in-Some-clause-next : goal.next_under-returns-in-Some-clause-next
next_under-returns-in-Some-clause-next g t c =
    let d = g.D.Device in
    let a = page_of (d.state c.args.device.now).disk.view in
    let b = bounds_of c.args.bounds in
    let key = c.args.after.now in
    let read = c.in_ok-child.ensures.reads in
    let under = c.in_ok-sizes.ensures.next in
    record {
      within = search rules;
      pair = λ keeps found walked.
          let w = c.in_ok-child.ensures.way keeps found walked in
          let keeps1 = still_honest (d.state c.args.device.now) (d.state c.children_around.new.device) read.device.only.same keeps in
          let here = subst (λ (x : Disk). walk (page_of x.view) b (c.args.level - 1) c.in_ok-child.child [] None ≡ Some w.here) (sym (read.device.only.disk keeps)) w.here_is in
          let shown = λ (o : Option (ℕ × ℕ)). option_map (λ (n : ℕ × ℕ). (take n.0 c.next_under.new.key, take n.1 c.next_under.new.value)) o in
          let first = subst (λ (o : Option (ℕ × ℕ)). shown o ≡ pair_after w.here.pairs key) c.in-Some.is (under.pair keeps1 w.here here) in
          pair_here a b (c.args.level - 1) key found (c.in_ok-child.child, c.in_ok-child.sibling) w (take c.in-Some.sizes.0 c.next_under.new.key, take c.in-Some.sizes.1 c.next_under.new.value) first;
      key = search rules;
      value = search rules;
      reads = search rules;
    }

pub next_under-returns-in-Some-clause-work : goal.next_under-returns-in-Some-clause-work
next_under-returns-in-Some-clause-work g t c =
    let ne = c.if-level-eq0.false in
    let tried = tried_under c.args.level ne in
    no_more_than (most_then c.in_ok-child.ensures.work c.next_under.ensures.work) (omega (arith, tried)) (omega arith) (omega arith)

pub next_under-returns-in-Some-sibling-clause-next : goal.next_under-returns-in-Some-sibling-clause-next
next_under-returns-in-Some-sibling-clause-next g t c =
    let d = g.D.Device in
    let a = page_of (d.state c.args.device.now).disk.view in
    let b = bounds_of c.args.bounds in
    let key = c.args.after.now in
    let read = c.in_ok-child.ensures.reads in
    let under = c.in_ok-sizes.ensures.next in
    let beside = c.next_in_sibling.ensures.next in
    record {
      within = search rules;
      pair = λ keeps found walked.
          let w = c.in_ok-child.ensures.way keeps found walked in
          let keeps1 = still_honest (d.state c.args.device.now) (d.state c.children_around.new.device) read.device.only.same keeps in
          let here = subst (λ (x : Disk). walk (page_of x.view) b (c.args.level - 1) c.in_ok-child.child [] None ≡ Some w.here) (sym (read.device.only.disk keeps)) w.here_is in
          let shown = λ (o : Option (ℕ × ℕ)). option_map (λ (n : ℕ × ℕ). (take n.0 c.next_under.new.key, take n.1 c.next_under.new.value)) o in
          let none = subst (λ (o : Option (ℕ × ℕ)). shown o ≡ pair_after w.here.pairs key) c.in_default.is (under.pair keeps1 w.here here) in
          let rest = pair_elsewhere a b (c.args.level - 1) key found (c.in_ok-child.child, c.in_ok-child.sibling) w none in
          let again = under.reads.device in
          let keeps2 = still_honest (d.state c.children_around.new.device) (d.state c.next_under.new.device) again.only.same keeps1 in
          let disk = again.only.disk keeps1 ∙ read.device.only.disk keeps in
          let n = subst (λ (s : Option ℕ). IsNext a b (c.args.level - 1) key s found w.rest) c.in-Some-sibling.is w.next in
          let there = subst (λ (x : Disk). walk (page_of x.view) b (c.args.level - 1) c.in-Some-sibling.page [] None ≡ Some n.0) (sym disk) n.1 in
          answer_is c.next_in_sibling.result (λ (o : Option (ℕ × ℕ)). option_map (λ (m : ℕ × ℕ). (take m.0 c.next_in_sibling.new.key, take m.1 c.next_in_sibling.new.value)) o) (pair_after n.0.pairs key) (pair_after found.pairs key) (n.3 ∙ sym rest)
          (beside.pair keeps2 n.0 (there, λ nothing. n.4 (sym n.3 ∙ nothing)));
      key = search rules;
      value = search rules;
      reads = search rules;
    }

pub next_under-returns-in-Some-sibling-clause-work : goal.next_under-returns-in-Some-sibling-clause-work
next_under-returns-in-Some-sibling-clause-work g t c =
    let ne = c.if-level-eq0.false in
    let tried = tried_under c.args.level ne in
    no_more_than (most_then (most_then c.in_ok-child.ensures.work c.next_under.ensures.work) c.next_in_sibling.ensures.work) (omega (arith, tried)) (omega arith) (omega arith)

pub next_under-returns-in-None-clause-next : goal.next_under-returns-in-None-clause-next
next_under-returns-in-None-clause-next g t c =
    let d = g.D.Device in
    let a = page_of (d.state c.args.device.now).disk.view in
    let b = bounds_of c.args.bounds in
    let key = c.args.after.now in
    let read = c.in_ok-child.ensures.reads in
    let under = c.in_ok-sizes.ensures.next in
    record {
      within = search rules;
      pair = λ keeps found walked.
          let w = c.in_ok-child.ensures.way keeps found walked in
          let keeps1 = still_honest (d.state c.args.device.now) (d.state c.children_around.new.device) read.device.only.same keeps in
          let here = subst (λ (x : Disk). walk (page_of x.view) b (c.args.level - 1) c.in_ok-child.child [] None ≡ Some w.here) (sym (read.device.only.disk keeps)) w.here_is in
          let shown = λ (o : Option (ℕ × ℕ)). option_map (λ (n : ℕ × ℕ). (take n.0 c.next_under.new.key, take n.1 c.next_under.new.value)) o in
          let none = subst (λ (o : Option (ℕ × ℕ)). shown o ≡ pair_after w.here.pairs key) c.in_default.is (under.pair keeps1 w.here here) in
          let rest = pair_elsewhere a b (c.args.level - 1) key found (c.in_ok-child.child, c.in_ok-child.sibling) w none in
          let nowhere = subst (λ (s : Option ℕ). IsNext a b (c.args.level - 1) key s found w.rest) c.in-None.is w.next in
          sym (rest ∙ nowhere);
      key = search rules;
      value = search rules;
      reads = search rules;
    }

pub next_under-returns-in-None-clause-work : goal.next_under-returns-in-None-clause-work
next_under-returns-in-None-clause-work g t c =
    let ne = c.if-level-eq0.false in
    let tried = tried_under c.args.level ne in
    no_more_than (most_then c.in_ok-child.ensures.work c.next_under.ensures.work) (omega (arith, tried)) (omega arith) (omega arith)
