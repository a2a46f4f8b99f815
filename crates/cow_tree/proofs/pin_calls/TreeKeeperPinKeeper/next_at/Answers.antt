use Rattle.std.proofs.Common.{Err, arith, ℕ, List, Option, sym, subst, IfSome}
use Rattle.std.specs.Prelude.{option_map, take, ◌≡◌}
use Rattle.page_store.specs.Batch.{pair_after}
use Rattle.page_store.specs.Pages.{Pair}
use Rattle.page_store.specs.Counting.{CountsStoreReads}
use Rattle.page_store.specs.StoreState.{IsStoreReadFault}
use Rattle.page_store.specs.declared.fault.KeeperFault.{KeeperFault}
use Rattle.cow_tree.specs.PinnedTrees.{found_at}
use Rattle.cow_tree.specs.TreeState.{tree_holding}
use Rattle.page_store.proofs.Outcomes.{both_flags}
use Rattle.cow_tree.proofs.KeeperReads.{needs_again, has_read, read_fault, counts_rise, counts_as}
use Rattle.cow_tree.proofs.PinsMade.{pairs_there}
use Rattle.page_store.specs.Work.{pages_tried}
use Rattle.cow_tree.proofs.WorkDone.{pages_read, few_levels, tried_within}
use Rattle.cow_tree.proofs.pin_calls.TreeKeeperPinKeeper.next_at.Goals as goal

pub read_next-requires-clause-fits : goal.read_next-requires-clause-fits
read_next-requires-clause-fits g c =
    let k = c.args.self.now in
    let size = (k.pins.inside c.args.pin.now c.tree_of-tree.result c.tree_of-tree.ensures).size in
    let fits = k.fitted.fits in
    omega (arith, size, fits)

pub read_next-requires-clause-rooted : goal.read_next-requires-clause-rooted
read_next-requires-clause-rooted g c = (c.args.self.now.pins.inside c.args.pin.now c.tree_of-tree.result c.tree_of-tree.ensures).rooted

pub returns-in-Ok-clause-pair : goal.returns-in-Ok-clause-pair
returns-in-Ok-clause-pair g c = λ keeps.
    let k = c.args.self.now in
    let view = (g.D.Device.state k.device).disk.view in
    let tree = c.tree_of-tree.result in
    subst (λ (o : Option (List Pair)). IfSome o (λ pairs. option_map (λ n. (take n.0 c.read_next.new.key, take n.1 c.read_next.new.value)) c.in-Ok.found ≡ pair_after pairs c.args.after.now)) (sym (pairs_there view k.pinned c.args.pin.now tree c.tree_of-tree.ensures))
    (c.in-Ok.ensures.pair keeps (found_at tree view) (k.pins_there keeps c.args.pin.now tree c.tree_of-tree.ensures).found_is)

pub returns-in-Ok-clause-only : goal.returns-in-Ok-clause-only
returns-in-Ok-clause-only g c = record {
  read =
      let d = g.D.Device in
      let k = c.args.self.now in
      let reads = c.in-Ok.ensures.reads in
      has_read (d.state k.device) (d.state c.read_next.new.device) k.slot k.ledger k.top k.usable k.pinned reads.device.only (let e = reads.reads in omega (arith, e));
  need =
      let d = g.D.Device in
      let k = c.args.self.now in
      needs_again (d.state k.device) (d.state c.read_next.new.device) k.slot c.in-Ok.ensures.reads.device.only;
  no_new_crash_state = c.in-Ok.ensures.reads.device.no_new_crash_state;
}

pub returns-in-Err-clause-only : goal.returns-in-Err-clause-only
returns-in-Err-clause-only g c = record {
  read =
      let d = g.D.Device in
      let k = c.args.self.now in
      let reads = c.in-Err.ensures.reads in
      has_read (d.state k.device) (d.state c.read_next.new.device) k.slot k.ledger k.top k.usable k.pinned reads.device.only (counts_rise (Option (ℕ × ℕ)) c.in-Err.fault (d.state k.device).failed_reads (d.state c.read_next.new.device).failed_reads reads.reads);
  need =
      let d = g.D.Device in
      let k = c.args.self.now in
      needs_again (d.state k.device) (d.state c.read_next.new.device) k.slot c.in-Err.ensures.reads.device.only;
  no_new_crash_state = c.in-Err.ensures.reads.device.no_new_crash_state;
}

pub returns-in-Err-clause-fails : goal.returns-in-Err-clause-fails
returns-in-Err-clause-fails g c = record {
  cause =
      let d = g.D.Device in
      let k = c.args.self.now in
      let view = (d.state k.device).disk.view in
      let tree = c.tree_of-tree.result in
      let reads = c.in-Err.ensures.reads in
      subst (λ (e : KeeperFault). IsStoreReadFault (tree_holding (d.state k.device) k.slot k.ledger k.top k.usable k.pinned) (tree_holding (d.state c.read_next.new.device) k.slot k.ledger k.top k.usable k.pinned) e) (sym c.from.ensures)
      (read_fault (d.state k.device) (d.state c.read_next.new.device) k.slot k.ledger k.top k.usable k.pinned reads.device.only (Option (ℕ × ℕ)) c.in-Err.fault _ reads.reads
      (λ keeps. c.in-Err.ensures.pair keeps (found_at tree view) (k.pins_there keeps c.args.pin.now tree c.tree_of-tree.ensures).found_is));
  reads =
      let before = (g.D.Device.state c.args.self.now.device).failed_reads in
      let now = (g.D.Device.state c.read_next.new.device).failed_reads in
      subst (λ (e : KeeperFault). CountsStoreReads {T = Option (ℕ × ℕ)} (Err e) before now) (sym c.from.ensures) (counts_as (Option (ℕ × ℕ)) c.in-Err.fault before now c.in-Err.ensures.reads.reads);
  closed = λ shut. both_flags c.args.self.now.usable c.if-not-self.false shut;
  unchanged = λ shut. both_flags c.args.self.now.usable c.if-not-self.false shut;
}

pub returns-in-Ok-clause-work : goal.returns-in-Ok-clause-work
returns-in-Ok-clause-work g c =
    let tree = c.tree_of-tree.result in
    pages_read (pages_tried tree.height) (pages_tried 16) (tried_within tree.height 16 (few_levels tree (c.args.self.now.pins.inside c.args.pin.now tree c.tree_of-tree.ensures).rooted)) c.in-Ok.ensures.work

pub returns-in-Err-clause-work : goal.returns-in-Err-clause-work
returns-in-Err-clause-work g c =
    let tree = c.tree_of-tree.result in
    pages_read (pages_tried tree.height) (pages_tried 16) (tried_within tree.height 16 (few_levels tree (c.args.self.now.pins.inside c.args.pin.now tree c.tree_of-tree.ensures).rooted)) c.in-Err.ensures.work
