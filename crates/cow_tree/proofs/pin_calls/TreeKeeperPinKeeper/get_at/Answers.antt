use Rattle.std.proofs.Common.{Err, arith, ℕ, List, Option, sym, subst, IfSome}
use Rattle.std.specs.Prelude.{option_map, take, ◌≡◌}
use Rattle.page_store.specs.Batch.{value_at}
use Rattle.page_store.specs.Pages.{Pair}
use Rattle.page_store.specs.Counting.{CountsStoreReads}
use Rattle.page_store.specs.StoreState.{IsStoreReadFault}
use Rattle.page_store.specs.declared.fault.KeeperFault.{KeeperFault}
use Rattle.cow_tree.specs.PinnedTrees.{found_at}
use Rattle.cow_tree.specs.TreeState.{tree_holding}
use Rattle.page_store.proofs.Outcomes.{both_flags}
use Rattle.cow_tree.proofs.KeeperReads.{needs_again, has_read, read_fault, counts_rise, counts_as}
use Rattle.cow_tree.proofs.PinsMade.{pairs_there}
use Rattle.cow_tree.proofs.pin_calls.TreeKeeperPinKeeper.get_at.Goals as goal

pub find_value-requires-clause-fits : goal.find_value-requires-clause-fits
find_value-requires-clause-fits g c =
    let k = c.args.self.now in
    let size = (k.pins.inside c.args.pin.now c.tree_of-tree.result c.tree_of-tree.ensures).size in
    let fits = k.fitted.fits in
    omega (arith, size, fits)

pub find_value-requires-clause-rooted : goal.find_value-requires-clause-rooted
find_value-requires-clause-rooted g c = (c.args.self.now.pins.inside c.args.pin.now c.tree_of-tree.result c.tree_of-tree.ensures).rooted

pub returns-in-Ok-clause-value : goal.returns-in-Ok-clause-value
returns-in-Ok-clause-value g c = λ keeps.
    let k = c.args.self.now in
    let view = (g.D.Device.state k.device).disk.view in
    let tree = c.tree_of-tree.result in
    subst (λ (o : Option (List Pair)). IfSome o (λ pairs. option_map (λ n. take n c.find_value.new.buffer) c.in-Ok.found ≡ value_at pairs c.args.key.now)) (sym (pairs_there view k.pinned c.args.pin.now tree c.tree_of-tree.ensures))
    (c.in-Ok.ensures.found.value keeps (found_at tree view) (k.pins_there keeps c.args.pin.now tree c.tree_of-tree.ensures).found_is)

pub returns-in-Ok-clause-only : goal.returns-in-Ok-clause-only
returns-in-Ok-clause-only g c = record {
  read =
      let d = g.D.Device in
      let k = c.args.self.now in
      let reads = c.in-Ok.ensures.found.reads in
      has_read (d.state k.device) (d.state c.find_value.new.device) k.slot k.ledger k.top k.usable k.pinned reads.device.only (let e = reads.reads in omega (arith, e));
  need =
      let d = g.D.Device in
      let k = c.args.self.now in
      needs_again (d.state k.device) (d.state c.find_value.new.device) k.slot c.in-Ok.ensures.found.reads.device.only;
  no_new_crash_state = c.in-Ok.ensures.found.reads.device.no_new_crash_state;
}

pub returns-in-Err-clause-only : goal.returns-in-Err-clause-only
returns-in-Err-clause-only g c = record {
  read =
      let d = g.D.Device in
      let k = c.args.self.now in
      let reads = c.in-Err.ensures.found.reads in
      has_read (d.state k.device) (d.state c.find_value.new.device) k.slot k.ledger k.top k.usable k.pinned reads.device.only (counts_rise (Option ℕ) c.in-Err.fault (d.state k.device).failed_reads (d.state c.find_value.new.device).failed_reads reads.reads);
  need =
      let d = g.D.Device in
      let k = c.args.self.now in
      needs_again (d.state k.device) (d.state c.find_value.new.device) k.slot c.in-Err.ensures.found.reads.device.only;
  no_new_crash_state = c.in-Err.ensures.found.reads.device.no_new_crash_state;
}

pub returns-in-Err-clause-fails : goal.returns-in-Err-clause-fails
returns-in-Err-clause-fails g c = record {
  cause =
      let d = g.D.Device in
      let k = c.args.self.now in
      let view = (d.state k.device).disk.view in
      let tree = c.tree_of-tree.result in
      let reads = c.in-Err.ensures.found.reads in
      subst (λ (e : KeeperFault). IsStoreReadFault (tree_holding (d.state k.device) k.slot k.ledger k.top k.usable k.pinned) (tree_holding (d.state c.find_value.new.device) k.slot k.ledger k.top k.usable k.pinned) e) (sym c.from.ensures)
      (read_fault (d.state k.device) (d.state c.find_value.new.device) k.slot k.ledger k.top k.usable k.pinned reads.device.only (Option ℕ) c.in-Err.fault _ reads.reads
      (λ keeps. c.in-Err.ensures.found.value keeps (found_at tree view) (k.pins_there keeps c.args.pin.now tree c.tree_of-tree.ensures).found_is));
  reads =
      let before = (g.D.Device.state c.args.self.now.device).failed_reads in
      let now = (g.D.Device.state c.find_value.new.device).failed_reads in
      subst (λ (e : KeeperFault). CountsStoreReads {T = Option ℕ} (Err e) before now) (sym c.from.ensures) (counts_as (Option ℕ) c.in-Err.fault before now c.in-Err.ensures.found.reads.reads);
  closed = λ shut. both_flags c.args.self.now.usable c.if-not-self.false shut;
  unchanged = λ shut. both_flags c.args.self.now.usable c.if-not-self.false shut;
}
