use Rattle.std.proofs.Common.{length, ◌≡◌, ◌∙◌, ◌-◌, ap, sym, subst, arith, List, ℕ, Bool, true, false, None, IsTrue, refl, rules}
use Rattle.std.specs.Prelude.{not, option_copied, if◌then◌else◌, Result, Ok, Err, OnOk}
use Rattle.std.specs.List.{list_all}
use Rattle.std.proofs.lemmas.Result.{err_from_is_err_and}
use Rattle.sector_device.specs.Disk.{Disk}
use Rattle.page_alloc.specs.LedgerState.{LedgerState, is_free}
use Rattle.page_alloc.specs.Calls.{holding}
use Rattle.sector_device.proofs.Works.{at_most}
use Rattle.page_store.specs.Sectors.{Image, page_of}
use Rattle.page_store.specs.Pages.{Child, is_inside, branch_of}
use Rattle.page_store.specs.Heads.{seen_child}
use Rattle.page_store.specs.Content.{walk, fan, low_of, high_of, place_in}
use Rattle.page_store.proofs.DeviceSequences.{still_honest}
use Rattle.tree_nodes.specs.PageViews.{bounds_of, children_in}
use Rattle.tree_nodes.proofs.KeyOrder.{both_true}
use Rattle.cow_tree.specs.NamedWalks.{walk_or_name, fan_or_name}
use Rattle.cow_tree.specs.Walks.{TellsWalk, IsWalked, IsWalkedTo, NamesAfter, HoldsWhole, CountsPages}
use Rattle.cow_tree.specs.declared.page_fault.PageFault.{PageFault}
use Rattle.cow_tree.proofs.Reaching.{holds_again, holds_none, holds_read, wholes_again}
use Rattle.cow_tree.proofs.ReadsInTurn.{reads_again}
use Rattle.cow_tree.proofs.DamageNamed.{no_branch_named, child_names, others_name, names_again, under_names, at_named_child}
use Rattle.cow_tree.proofs.Walking.{start, go_on, breaks_off, tells_branch, no_branch, at_child}
use Rattle.cow_tree.proofs.WorkDone.{no_pages, one_page, pages_then, one_less}
use Rattle.cow_tree.proofs.opening_walk.+walks.Goals as goal

not_true : (b : Bool) → not b ≡ true → b ≡ false
not_true true e = absurd (cc e)
not_true false e = refl

-- once a page was reached
reached : (b : Bool) (free : Bool) (now old : LedgerState) (page : ℕ) → b ≡ free → now ≡ (if b then holding page old else old) → b ≡ true → (free ≡ true) × (now ≡ holding page old)
reached true free now old page is held t = (sym is, held)
reached false free now old page is held t = absurd (cc t)

pub walk_children-loop-key-init : goal.walk_children-loop-key-init
walk_children-loop-key-init g t c =
    let d = g.D.Device in
    let children = children_in c.args.branch.now.count c.args.branch.now.entries.now in
    record {
      ledger = record { pages = refl; marks = refl; generation = refl; pins = refl };
      inside = c.requires.inside;
      device = search rules;
      reads = refl;
      work = no_pages _ _ _ (omega arith);
      whole = λ keeps. holds_none (d.state c.args.device.now).disk.view c.args.ledger.now;
      so_far = λ keeps. start (walk (page_of (d.state c.args.device.now).disk.view) (bounds_of c.args.bounds) c.args.level) c.args.low.now (option_copied c.args.high) children c.args.ledger.now;
      names = λ keeps wrong h. h;
    }

pub walk_children-returns-in_err-more-clause-answered : goal.walk_children-returns-in_err-more-clause-answered
walk_children-returns-in_err-more-clause-answered g t c = λ keeps.
    let d = g.D.Device in
    let v = page_of (d.state c.args.device.now).disk.view in
    let i = c.loop-key.invariant in
    let p = err_from_is_err_and c.from_residual.result c.from_residual.ensures.1 in
    let others = children_in c.in-Some.others.count c.in-Some.others.entries.now in
    let child : Child = seen_child c.in-Some.key.now c.in-Some.page in
    let under = walk v (bounds_of c.args.bounds) c.args.level in
    let children = children_in c.args.branch.now.count c.args.branch.now.entries.now in
    let keeps1 = still_honest (d.state c.args.device.now) (d.state c.loop-key.device) i.device.only.same keeps in
    let so_far = subst (λ (cs : List Child). IsWalkedTo (fan under c.args.low.now (option_copied c.args.high)) children cs c.args.ledger.now c.loop-key.ledger c.loop-key.count) c.in-Some.ensures.children (i.so_far keeps) in
    let one = at_child (λ x. TellsWalk x c.loop-key.ledger c.walk_tree.new.ledger (Err c.in_err-more.field-0.0)) (page_of (d.state c.loop-key.device).disk.view) v (bounds_of c.args.bounds) c.args.level c.in-Some.page c.lower-from.result.now (low_of c.args.low.now c.in-Some.key.now)
    (option_copied c.upper-to.result) (high_of others (option_copied c.args.high)) (ap (λ (x : Disk). page_of x.view) (i.device.only.disk keeps)) c.lower-from.ensures c.upper-to.ensures (c.in_err-more.ensures.answered keeps1) in
    subst (λ (r : Result ℕ PageFault). TellsWalk (fan under c.args.low.now (option_copied c.args.high) children) c.args.ledger.now c.walk_tree.new.ledger r) (sym (p.1 ∙ ap (λ (e : PageFault). err e) p.2))
    (breaks_off under c.args.low.now (option_copied c.args.high) children c.args.ledger.now c.in_err-more.field-0.0 c.loop-key.count c.loop-key.ledger c.walk_tree.new.ledger c.walk_tree.new.ledger child others so_far one)
  where
    err : PageFault → Result ℕ PageFault
    err e = Err e

pub walk_children-loop-key-preserved : goal.walk_children-loop-key-preserved
walk_children-loop-key-preserved g t c =
    let d = g.D.Device in
    let v = page_of (d.state c.args.device.now).disk.view in
    let i = c.loop-key.invariant in
    let others = children_in c.in-Some.others.count c.in-Some.others.entries.now in
    let child : Child = seen_child c.in-Some.key.now c.in-Some.page in
    let under = walk v (bounds_of c.args.bounds) c.args.level in
    let children = children_in c.args.branch.now.count c.args.branch.now.entries.now in
    let inside = subst (λ (cs : List Child). list_all (is_inside c.args.bounds.pages) cs ≡ true) c.in-Some.ensures.children i.inside in
    record {
      ledger = holds_again c.loop-key.invariant.ledger c.in_ok-more.ensures.walks.ledger;
      inside = (both_true (is_inside c.args.bounds.pages child) (list_all (is_inside c.args.bounds.pages) others) inside).1;
      device = reads_again i.device c.in_ok-more.ensures.walks.reads.device;
      reads = c.in_ok-more.ensures.walks.reads.reads ∙ i.reads;
      work = pages_then i.work c.in_ok-more.ensures.work;
      whole = λ keeps.
          let keeps1 = still_honest (d.state c.args.device.now) (d.state c.loop-key.device) i.device.only.same keeps in
          let more = subst (λ (x : Disk). HoldsWhole x.view c.loop-key.ledger c.walk_tree.new.ledger) (i.device.only.disk keeps) (c.in_ok-more.ensures.walks.whole keeps1) in
          wholes_again (i.whole keeps) more;
      so_far = λ keeps.
          let keeps1 = still_honest (d.state c.args.device.now) (d.state c.loop-key.device) i.device.only.same keeps in
          let so_far = subst (λ (cs : List Child). IsWalkedTo (fan under c.args.low.now (option_copied c.args.high)) children cs c.args.ledger.now c.loop-key.ledger c.loop-key.count) c.in-Some.ensures.children (i.so_far keeps) in
          let one = at_child (λ x. IsWalked x c.loop-key.ledger c.walk_tree.new.ledger c.in_ok-more.more) (page_of (d.state c.loop-key.device).disk.view) v (bounds_of c.args.bounds) c.args.level c.in-Some.page c.lower-from.result.now (low_of c.args.low.now c.in-Some.key.now)
          (option_copied c.upper-to.result) (high_of others (option_copied c.args.high)) (ap (λ (x : Disk). page_of x.view) (i.device.only.disk keeps)) c.lower-from.ensures c.upper-to.ensures (c.in_ok-more.ensures.answered keeps1) in
          subst (λ (n : ℕ). IsWalkedTo (fan under c.args.low.now (option_copied c.args.high)) children others c.args.ledger.now c.walk_tree.new.ledger n) (sym c.saturating_add-count.ensures)
          (go_on under c.args.low.now (option_copied c.args.high) children c.args.ledger.now c.loop-key.count c.in_ok-more.more c.loop-key.ledger c.walk_tree.new.ledger child others so_far one);
      names = λ keeps.
          let keeps1 = still_honest (d.state c.args.device.now) (d.state c.loop-key.device) i.device.only.same keeps in
          let names = subst (λ (cs : List Child). NamesAfter (fan_or_name (walk_or_name v (bounds_of c.args.bounds) c.args.level) c.args.low.now (option_copied c.args.high)) children cs c.args.ledger.now c.loop-key.ledger) c.in-Some.ensures.children (i.names keeps) in
          let one = at_child (λ x. IsWalked x c.loop-key.ledger c.walk_tree.new.ledger c.in_ok-more.more) (page_of (d.state c.loop-key.device).disk.view) v (bounds_of c.args.bounds) c.args.level c.in-Some.page c.lower-from.result.now (low_of c.args.low.now c.in-Some.key.now)
          (option_copied c.upper-to.result) (high_of others (option_copied c.args.high)) (ap (λ (x : Disk). page_of x.view) (i.device.only.disk keeps)) c.lower-from.ensures c.upper-to.ensures (c.in_ok-more.ensures.answered keeps1) in
          others_name v (bounds_of c.args.bounds) c.args.level c.args.low.now (option_copied c.args.high) children child others c.args.ledger.now c.loop-key.ledger names c.walk_tree.new.ledger c.in_ok-more.more one;
    }

pub walk_children-returns-in_err-more-clause-named : goal.walk_children-returns-in_err-more-clause-named
walk_children-returns-in_err-more-clause-named g t c =
    let d = g.D.Device in
    let old = d.state c.args.device.now in
    let v = page_of old.disk.view in
    let i = c.loop-key.invariant in
    let p = err_from_is_err_and c.from_residual.result c.from_residual.ensures.1 in
    let others = children_in c.in-Some.others.count c.in-Some.others.entries.now in
    let child : Child = seen_child c.in-Some.key.now c.in-Some.page in
    let children = children_in c.args.branch.now.count c.args.branch.now.entries.now in
    let bounds = bounds_of c.args.bounds in
    let low = c.args.low.now in
    let high = option_copied c.args.high in
    let names = λ (keeps : IsTrue old.honest). subst (λ (cs : List Child). NamesAfter (fan_or_name (walk_or_name v bounds c.args.level) low high) children cs c.args.ledger.now c.loop-key.ledger) c.in-Some.ensures.children (i.names keeps) in
    rw (p.1, p.2)
    (names_again old (d.state c.loop-key.device) (λ bytes. fan_or_name (walk_or_name bytes bounds c.args.level) low high children) (λ bytes. walk_or_name bytes bounds c.args.level c.in-Some.page c.lower-from.result.now (option_copied c.upper-to.result)) c.args.ledger.now c.loop-key.ledger c.in_err-more.field-0.0
    (still_honest old (d.state c.loop-key.device) i.device.only.same) i.device.only.disk
    (λ wrong keeps h. child_names v bounds c.args.level low high children child others c.args.ledger.now c.loop-key.ledger (names keeps) wrong
    (at_named_child v bounds c.args.level c.in-Some.page c.lower-from.result.now (low_of low c.in-Some.key.now) (option_copied c.upper-to.result) (high_of others high) c.loop-key.ledger wrong c.lower-from.ensures c.upper-to.ensures h)) c.in_err-more.ensures.named)

pub walk_tree-returns-in_err-branch-clause-answered : goal.walk_tree-returns-in_err-branch-clause-answered
walk_tree-returns-in_err-branch-clause-answered g t c = λ keeps.
    let d = g.D.Device in
    let v = page_of (d.state c.args.device.now).disk.view in
    let p = err_from_is_err_and c.from_residual-in_err-branch.result c.from_residual-in_err-branch.ensures.1 in
    let none : branch_of (place_in (bounds_of c.args.bounds) c.args.level c.args.page) c.args.low.now (option_copied c.args.high) (v c.args.page) ≡ None =
    ap (branch_of (place_in (bounds_of c.args.bounds) c.args.level c.args.page) c.args.low.now (option_copied c.args.high)) (c.in_ok-load_page.ensures.page keeps) ∙ c.in_err-branch.ensures.fault.1 in
    rw (p.1, p.2, c.in_err-branch.ensures.fault.0) (no_branch v (bounds_of c.args.bounds) c.args.level c.args.page c.args.low.now (option_copied c.args.high) c.args.ledger.now c.if-level-eq0.false none)

pub walk_tree-returns-clause-answered : goal.walk_tree-returns-clause-answered
walk_tree-returns-clause-answered g t c = λ keeps.
    let d = g.D.Device in
    let v = page_of (d.state c.args.device.now).disk.view in
    let bounds = bounds_of c.args.bounds in
    let high = option_copied c.args.high in
    let r = reached c.reach.result (is_free c.args.ledger.now c.args.page) c.reach.new.ledger c.args.ledger.now c.args.page c.reach.ensures.is c.reach.ensures.held c.if-not-reach.false in
    let keeps1 = still_honest (d.state c.args.device.now) (d.state c.load_page.new.device) c.in_ok-load_page.ensures.reads.device.only.same keeps in
    let children = children_in c.in_ok-branch.branch.count c.in_ok-branch.branch.entries.now in
    let answered = subst (λ (x : Disk). TellsWalk (fan (walk (page_of x.view) bounds (c.args.level - 1)) c.args.low.now high children) c.reach.new.ledger c.walk_children.new.ledger c.walk_children.result) (c.in_ok-load_page.ensures.reads.device.only.disk keeps) (c.walk_children.ensures.answered keeps1) in
    tells_branch c.walk_children.result v bounds c.args.level c.args.page c.args.low.now high c.args.ledger.now c.reach.new.ledger c.walk_children.new.ledger children c.if-level-eq0.false r.0 r.1
    (ap (branch_of (place_in bounds c.args.level c.args.page) c.args.low.now high) (c.in_ok-load_page.ensures.page keeps) ∙ c.in_ok-branch.ensures.children) answered

whole_after : (image : Image) (a b c : LedgerState) (r : Result ℕ PageFault) → HoldsWhole image a b → OnOk r (HoldsWhole image b c) → OnOk r (HoldsWhole image a c)
whole_after image a b c (Ok x) first second = wholes_again first second
whole_after image a b c (Err e) first second = tt

-- the page that was reached and read
page_whole : (image : Image) (b free : Bool) (old now : LedgerState) (page : ℕ) (bytes : List ℕ) → b ≡ free → now ≡ (if b then holding page old else old) → b ≡ true → page_of image page ≡ bytes → length bytes ≡ 4096 → HoldsWhole image old now
page_whole image b free old now page bytes is held t read long = holds_read image old now page (reached b free now old page is held t).1 (ap (λ (l : List ℕ). length l) read ∙ long)

pub walk_tree-returns-clause-walks : goal.walk_tree-returns-clause-walks
walk_tree-returns-clause-walks g t c =
    let d = g.D.Device in
    let old = d.state c.args.device.now in
    let loaded = c.in_ok-load_page.ensures.reads in
    let under = c.walk_children.ensures.walks in
    record {
      whole = λ keeps.
          let keeps1 = still_honest old (d.state c.load_page.new.device) loaded.device.only.same keeps in
          let here = page_whole old.disk.view c.reach.result (is_free c.args.ledger.now c.args.page) c.args.ledger.now c.reach.new.ledger c.args.page c.load_page.new.bytes c.reach.ensures.is c.reach.ensures.held c.if-not-reach.false (c.in_ok-load_page.ensures.page keeps) c.load_page.array_long in
          whole_after old.disk.view c.args.ledger.now c.reach.new.ledger c.walk_children.new.ledger c.walk_children.result here
          (subst (λ (x : Disk). OnOk c.walk_children.result (HoldsWhole x.view c.reach.new.ledger c.walk_children.new.ledger)) (loaded.device.only.disk keeps) (under.whole keeps1));
      ledger = holds_again c.reach.ensures.only under.ledger;
      named = under.named;
      reads = record {
        device = reads_again loaded.device under.reads.device;
        reads = subst (λ (n : ℕ). CountsPages c.walk_children.result n (d.state c.walk_children.new.device).failed_reads) loaded.reads under.reads.reads;
      };
    }

pub walk_tree-returns-in_err-branch-clause-named : goal.walk_tree-returns-in_err-branch-clause-named
walk_tree-returns-in_err-branch-clause-named g t c =
    let v = page_of (g.D.Device.state c.args.device.now).disk.view in
    let place = place_in (bounds_of c.args.bounds) c.args.level c.args.page in
    let high = option_copied c.args.high in
    let p = err_from_is_err_and c.from_residual-in_err-branch.result c.from_residual-in_err-branch.ensures.1 in
    rw (p.1, p.2, c.in_err-branch.ensures.fault.0)
    (λ keeps. no_branch_named v (bounds_of c.args.bounds) c.args.level c.args.page c.args.low.now high c.args.ledger.now c.if-level-eq0.false (ap (branch_of place c.args.low.now high) (c.in_ok-load_page.ensures.page keeps) ∙ c.in_err-branch.ensures.fault.1))

pub walk_tree-returns-clause-named : goal.walk_tree-returns-clause-named
walk_tree-returns-clause-named g t c =
    let d = g.D.Device in
    let old = d.state c.args.device.now in
    let bounds = bounds_of c.args.bounds in
    let low = c.args.low.now in
    let high = option_copied c.args.high in
    let loaded = c.in_ok-load_page.ensures.reads.device.only in
    let r = reached c.reach.result (is_free c.args.ledger.now c.args.page) c.reach.new.ledger c.args.ledger.now c.args.page c.reach.ensures.is c.reach.ensures.held c.if-not-reach.false in
    let children = children_in c.in_ok-branch.branch.count c.in_ok-branch.branch.entries.now in
    under_names old (d.state c.load_page.new.device) bounds c.args.level c.args.page low high c.args.ledger.now c.reach.new.ledger children c.walk_children.result (still_honest old (d.state c.load_page.new.device) loaded.same) loaded.disk c.if-level-eq0.false r.0 r.1
    (λ keeps. ap (branch_of (place_in bounds c.args.level c.args.page) low high) (c.in_ok-load_page.ensures.page keeps) ∙ c.in_ok-branch.ensures.children) c.walk_children.ensures.named

pub walk_children-returns-in_err-more-clause-work : goal.walk_children-returns-in_err-more-clause-work
walk_children-returns-in_err-more-clause-work g t c = pages_then c.loop-key.invariant.work c.walk_tree.ensures.work

pub walk_tree-returns-clause-work : goal.walk_tree-returns-clause-work
walk_tree-returns-clause-work g t c =
    pages_then (one_page c.args.ledger.now c.reach.new.ledger (at_most c.in_ok-load_page.ensures.work) (one_less c.reach.result _ _ c.reach.ensures.count c.if-not-reach.false)) c.walk_children.ensures.work
