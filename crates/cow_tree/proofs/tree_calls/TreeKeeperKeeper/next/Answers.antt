use Rattle.std.proofs.Common.{Err, arith, ℕ, Option, sym, subst}
use Rattle.page_store.specs.Counting.{CountsStoreReads}
use Rattle.page_store.specs.StoreState.{IsStoreReadFault}
use Rattle.page_store.specs.declared.fault.KeeperFault.{KeeperFault}
use Rattle.cow_tree.specs.TreeState.{found_under, tree_holding}
use Rattle.page_store.proofs.Outcomes.{both_flags}
use Rattle.cow_tree.proofs.KeeperReads.{needs_again, has_read, read_fault, counts_rise, counts_as}
use Rattle.cow_tree.proofs.tree_calls.TreeKeeperKeeper.next.Goals as goal

pub returns-in-Ok-clause-pair : goal.returns-in-Ok-clause-pair
returns-in-Ok-clause-pair g c = λ keeps.
    let d = g.D.Device in
    let k = c.args.self.now in
    c.in-Ok.ensures.next.pair keeps (found_under k.slot (d.state k.device).disk.view) ((k.there keeps).found_is, k.leaf keeps)

pub returns-in-Err-clause-only : goal.returns-in-Err-clause-only
returns-in-Err-clause-only g c = record {
  read =
      let d = g.D.Device in
      let k = c.args.self.now in
      let reads = c.in-Err.ensures.next.reads in
      has_read (d.state k.device) (d.state c.find_next.new.device) k.slot k.ledger k.top k.usable k.pinned reads.device.only (counts_rise (Option (ℕ × ℕ)) c.in-Err.fault (d.state k.device).failed_reads (d.state c.find_next.new.device).failed_reads reads.reads);
  need =
      let d = g.D.Device in
      let k = c.args.self.now in
      needs_again (d.state k.device) (d.state c.find_next.new.device) k.slot c.in-Err.ensures.next.reads.device.only;
  no_new_crash_state = c.in-Err.ensures.next.reads.device.no_new_crash_state;
}

pub returns-in-Err-clause-fails : goal.returns-in-Err-clause-fails
returns-in-Err-clause-fails g c = record {
  cause =
      let d = g.D.Device in
      let k = c.args.self.now in
      let reads = c.in-Err.ensures.next.reads in
      subst (λ (e : KeeperFault). IsStoreReadFault (tree_holding (d.state k.device) k.slot k.ledger k.top k.usable k.pinned) (tree_holding (d.state c.find_next.new.device) k.slot k.ledger k.top k.usable k.pinned) e) (sym c.from.ensures)
      (read_fault (d.state k.device) (d.state c.find_next.new.device) k.slot k.ledger k.top k.usable k.pinned reads.device.only (Option (ℕ × ℕ)) c.in-Err.fault _ reads.reads
      (λ keeps. c.in-Err.ensures.next.pair keeps (found_under k.slot (d.state k.device).disk.view) ((k.there keeps).found_is, k.leaf keeps)));
  reads =
      let before = (g.D.Device.state c.args.self.now.device).failed_reads in
      let now = (g.D.Device.state c.find_next.new.device).failed_reads in
      subst (λ (e : KeeperFault). CountsStoreReads {T = Option (ℕ × ℕ)} (Err e) before now) (sym c.from.ensures) (counts_as (Option (ℕ × ℕ)) c.in-Err.fault before now c.in-Err.ensures.next.reads.reads);
  closed = λ shut. both_flags c.args.self.now.usable c.if-not-self.false shut;
  unchanged = λ shut. both_flags c.args.self.now.usable c.if-not-self.false shut;
}

pub returns-in-Ok-clause-only : goal.returns-in-Ok-clause-only
returns-in-Ok-clause-only g c = record {
  read =
      let d = g.D.Device in
      let k = c.args.self.now in
      let reads = c.in-Ok.ensures.next.reads in
      has_read (d.state k.device) (d.state c.find_next.new.device) k.slot k.ledger k.top k.usable k.pinned reads.device.only (let e = reads.reads in omega (arith, e));
  need =
      let d = g.D.Device in
      let k = c.args.self.now in
      needs_again (d.state k.device) (d.state c.find_next.new.device) k.slot c.in-Ok.ensures.next.reads.device.only;
  no_new_crash_state = c.in-Ok.ensures.next.reads.device.no_new_crash_state;
}
