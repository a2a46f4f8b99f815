use Rattle.std.proofs.Common.{◌∙◌, refl, subst, Err}
use Rattle.std.proofs.lemmas.Result.{err_from_is_err_and}
use Rattle.page_alloc.specs.LedgerState.{LedgerState}
use Rattle.page_store.specs.Sectors.{page_of}
use Rattle.page_store.specs.Content.{tree_of}
use Rattle.cow_tree.specs.NamedWalks.{root_or_name}
use Rattle.cow_tree.specs.Walks.{IsWalked, TellsWalk, Names}
use Rattle.cow_tree.specs.Opening.{bounds_under}
use Rattle.cow_tree.proofs.Reaching.{at_rest, no_pins, all_whole}
use Rattle.cow_tree.proofs.Finding.{exact, is_reached, keys_differ, finds_fault}
use Rattle.cow_tree.proofs.DamageNamed.{root_names, count_names}
use Rattle.cow_tree.proofs.opening.walk_slot.Goals as goal

pub returns-in_err-count-clause-found : goal.returns-in_err-count-clause-found
returns-in_err-count-clause-found g c = record {
  found = λ keeps.
      let a = page_of (g.D.Device.state c.args.device.now).disk.view in
      let slot = c.args.slot.now in
      let p = err_from_is_err_and c.from_residual.result c.from_residual.ensures.1 in
      let answered = subst (λ (s : LedgerState). TellsWalk (tree_of a (bounds_under slot) slot.root.height slot.root.tree) s c.count_tree.new.ledger (Err c.in_err-count.field-0.0)) c.requires.fresh (c.in_err-count.ensures.answered keeps) in
      rw (p.1, p.2) (finds_fault slot a c.count_tree.new.ledger (Unit {0}) c.in_err-count.field-0.0 answered);
  named = λ keeps.
      let old = g.D.Device.state c.args.device.now in
      let slot = c.args.slot.now in
      let p = err_from_is_err_and c.from_residual.result c.from_residual.ensures.1 in
      let names = subst (λ (s : LedgerState). Names old (λ bytes. root_or_name slot.number bytes (bounds_under slot) slot.root.height slot.root.tree) s c.in_err-count.field-0.0) c.requires.fresh c.in_err-count.ensures.named in
      rw (p.1, p.2) (root_names slot (page_of old.disk.view) old c.in_err-count.field-0.0 keeps refl names);
  whole = λ keeps. let p = err_from_is_err_and c.from_residual.result c.from_residual.ensures.1 in rw p.1 tt;
  rooted = let p = err_from_is_err_and c.from_residual.result c.from_residual.ensures.1 in rw p.1 tt;
  rest = at_rest c.args.slot.now c.args.ledger.now c.count_tree.new.ledger c.requires.fresh c.count_tree.ensures.walks.ledger;
  unpinned = no_pins c.args.slot.now c.args.ledger.now c.count_tree.new.ledger c.requires.fresh c.count_tree.ensures.walks.ledger;
}

pub returns-then-count-slot-clause-found : goal.returns-then-count-slot-clause-found
returns-then-count-slot-clause-found g c = record {
  found = λ keeps.
      let a = page_of (g.D.Device.state c.args.device.now).disk.view in
      let slot = c.args.slot.now in
      let w = subst (λ (s : LedgerState). IsWalked (tree_of a (bounds_under slot) slot.root.height slot.root.tree) s c.count_tree.new.ledger c.in_ok-count.count) c.requires.fresh (c.in_ok-count.ensures.answered keeps) in
      keys_differ slot a c.count_tree.new.ledger c.in_ok-count.count c.requires.small w c.if-count-slot.true;
  named = λ keeps.
      let a = page_of (g.D.Device.state c.args.device.now).disk.view in
      let slot = c.args.slot.now in
      let w = subst (λ (s : LedgerState). IsWalked (tree_of a (bounds_under slot) slot.root.height slot.root.tree) s c.count_tree.new.ledger c.in_ok-count.count) c.requires.fresh (c.in_ok-count.ensures.answered keeps) in
      count_names slot a c.count_tree.new.ledger c.in_ok-count.count w (λ e. c.if-count-slot.true (exact slot a c.count_tree.new.ledger c.in_ok-count.count c.requires.small w ∙ e));
  whole = λ keeps. tt;
  rooted = tt;
  rest = at_rest c.args.slot.now c.args.ledger.now c.count_tree.new.ledger c.requires.fresh c.count_tree.ensures.walks.ledger;
  unpinned = no_pins c.args.slot.now c.args.ledger.now c.count_tree.new.ledger c.requires.fresh c.count_tree.ensures.walks.ledger;
}

pub returns-clause-found : goal.returns-clause-found
returns-clause-found g c = record {
  found = λ keeps.
      let a = page_of (g.D.Device.state c.args.device.now).disk.view in
      let slot = c.args.slot.now in
      let w = subst (λ (s : LedgerState). IsWalked (tree_of a (bounds_under slot) slot.root.height slot.root.tree) s c.count_tree.new.ledger c.in_ok-count.count) c.requires.fresh (c.in_ok-count.ensures.answered keeps) in
      is_reached slot a c.count_tree.new.ledger c.in_ok-count.count c.requires.small w c.if-count-slot.false;
  named = λ keeps. tt;
  whole = λ keeps.
      let slot = c.args.slot.now in
      all_whole (g.D.Device.state c.args.device.now).disk.view slot.root.pages slot.seal c.args.ledger.now c.count_tree.new.ledger c.requires.fresh (c.in_ok-count.ensures.walks.whole keeps);
  rooted = c.in_ok-count.ensures.rooted;
  rest = at_rest c.args.slot.now c.args.ledger.now c.count_tree.new.ledger c.requires.fresh c.count_tree.ensures.walks.ledger;
  unpinned = no_pins c.args.slot.now c.args.ledger.now c.count_tree.new.ledger c.requires.fresh c.count_tree.ensures.walks.ledger;
}
