use Rattle.std.proofs.Common.{◌≡◌, ℕ, List, Option, Some, set, sym, ap, subst, ◌∙◌}
use Rattle.page_alloc.specs.LedgerState.{LedgerState}
use Rattle.page_alloc.specs.Calls.{pinning}
use Rattle.page_store.specs.Pins.{IsStorePinned}
use Rattle.cow_tree.specs.PinnedTrees.{tree_under, ArePinned, PinnedTreesAreKept}
use Rattle.cow_tree.specs.TreeState.{tree_holding}
use Rattle.cow_tree.specs.declared.tree_root.TreeRoot.{TreeRoot}
use Rattle.cow_tree.proofs.PinsMade.{fitted_with, there_with, pins_more, kept_more, is_pinned, all_are_out}
use Rattle.cow_tree.proofs.pin_calls.TreeKeeperPinKeeper.pin.Goals as goal

pub invariant_of-self : goal.invariant_of-self
invariant_of-self g c =
    let k = c.args.self.now in
    let view = (g.D.Device.state k.device).disk.view in
    let given = c.in-Ok.ensures in
    let number = c.in-Ok.pin in
    let is : c.pin.new.self ≡ pinning number k.ledger = given.3 in
    let trees : set k.pinned number (Some (tree_under k.slot)) ≡ set k.pinned c.number.result (Some c.under.result) =
    ap (λ (n : ℕ). set k.pinned n (Some (tree_under k.slot))) (sym c.number.ensures.number) ∙ ap (λ (t : TreeRoot). set k.pinned c.number.result (Some t)) (sym c.under.ensures) in
    record {
      fitted = fitted_with (g.D.Device.state k.device).size k.slot k.ledger c.pin.new.self _ is k.fitted;
      sealed = k.sealed;
      pins = subst (λ (ts : List (Option TreeRoot)). ArePinned k.slot.root.pages c.pin.new.self ts) trees
          (subst (λ (l : LedgerState). ArePinned k.slot.root.pages l (set k.pinned number (Some (tree_under k.slot)))) (sym is) (pins_more k.slot k.ledger k.pinned number given.0 given.1 k.fitted.rest k.pins k.fitted.rooted));
      there = λ keeps. there_with view k.slot k.ledger c.pin.new.self _ is (k.there keeps);
      pins_there = λ keeps.
          subst (λ (ts : List (Option TreeRoot)). PinnedTreesAreKept view c.pin.new.self ts) trees
          (subst (λ (l : LedgerState). PinnedTreesAreKept view l (set k.pinned number (Some (tree_under k.slot)))) (sym is) (kept_more k.slot k.ledger k.pinned number given.0 given.1 k.fitted.rest k.pins view (k.there keeps) (k.pins_there keeps)));
      durable = k.durable;
      leaf = k.leaf;
      places_kept = k.places_kept;
    }

pub returns-in-Ok-clause-pinned : goal.returns-in-Ok-clause-pinned
returns-in-Ok-clause-pinned g c =
    let k = c.args.self.now in
    let state = g.D.Device.state k.device in
    let given = c.in-Ok.ensures in
    let number = c.in-Ok.pin in
    let is : c.pin.new.self ≡ pinning number k.ledger = given.3 in
    let trees : set k.pinned number (Some (tree_under k.slot)) ≡ set k.pinned c.number.result (Some c.under.result) =
    ap (λ (n : ℕ). set k.pinned n (Some (tree_under k.slot))) (sym c.number.ensures.number) ∙ ap (λ (t : TreeRoot). set k.pinned c.number.result (Some t)) (sym c.under.ensures) in
    subst (λ (ts : List (Option TreeRoot)). IsStorePinned (tree_holding state k.slot k.ledger k.top k.usable k.pinned) (tree_holding state k.slot c.pin.new.self k.top k.usable ts) number) trees
    (subst (λ (l : LedgerState). IsStorePinned (tree_holding state k.slot k.ledger k.top k.usable k.pinned) (tree_holding state k.slot l k.top k.usable (set k.pinned number (Some (tree_under k.slot)))) number) (sym is)
    (is_pinned k.slot k.ledger k.pinned number given.0 given.1 k.fitted.rest k.pins state k.top k.usable c.if-not-self.false k.there))

pub returns-in-Err-clause-fault : goal.returns-in-Err-clause-fault
returns-in-Err-clause-fault g c =
    let k = c.args.self.now in
    let state = g.D.Device.state k.device in
    let given = c.in-Err.ensures in
    (c.if-not-self.false, all_are_out state.disk.view k.slot.root.pages k.ledger k.pinned k.pins given.1, ap (λ (l : LedgerState). tree_holding state k.slot l k.top k.usable k.pinned) given.2)
