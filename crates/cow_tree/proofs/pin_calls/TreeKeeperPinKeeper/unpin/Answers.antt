use Rattle.std.proofs.Common.{◌≡◌, ℕ, List, Option, None, is_some, get_or, set, sym, ap, subst, ◌∙◌, arith, true}
use Rattle.page_alloc.specs.LedgerState.{LedgerState}
use Rattle.page_store.specs.Pins.{IsStoreUnpinned}
use Rattle.cow_tree.specs.PinnedTrees.{ArePinned, PinnedTreesAreKept}
use Rattle.cow_tree.specs.TreeState.{tree_holding}
use Rattle.cow_tree.specs.declared.tree_root.TreeRoot.{TreeRoot}
use Rattle.cow_tree.proofs.PinnedTrees.{out_at}
use Rattle.cow_tree.proofs.PinsMade.{fitted_with, there_with, out_there, pins_less, kept_less, is_unpinned}
use Rattle.cow_tree.proofs.pin_calls.TreeKeeperPinKeeper.unpin.Goals as goal

pub unpin-requires : goal.unpin-requires
unpin-requires g c = let k = c.args.self.now in out_there (g.D.Device.state k.device).disk.view k.slot.root.pages k.ledger k.pinned c.args.pin k.pins c.requires.out

pub invariant_of-self : goal.invariant_of-self
invariant_of-self g c =
    let k = c.args.self.now in
    let view = (g.D.Device.state k.device).disk.view in
    let is = c.unpin.ensures in
    let out : is_some (get_or k.pinned c.args.pin None) ≡ true = sym (out_at view 0 c.args.pin c.args.pin k.pinned (omega arith)) ∙ c.requires.out in
    let trees : set k.pinned c.args.pin None ≡ set k.pinned c.number.result None = ap (λ (n : ℕ). set k.pinned n None) (sym c.number.ensures.number) in
    record {
      fitted = fitted_with (g.D.Device.state k.device).size k.slot k.ledger c.unpin.new.self _ is k.fitted;
      sealed = k.sealed;
      pins = subst (λ (ts : List (Option TreeRoot)). ArePinned k.slot.root.pages c.unpin.new.self ts) trees
          (subst (λ (l : LedgerState). ArePinned k.slot.root.pages l (set k.pinned c.args.pin None)) (sym is) (pins_less k.slot.root.pages k.ledger k.pinned c.args.pin out k.pins));
      there = λ keeps. there_with view k.slot k.ledger c.unpin.new.self _ is (k.there keeps);
      pins_there = λ keeps.
          subst (λ (ts : List (Option TreeRoot)). PinnedTreesAreKept view c.unpin.new.self ts) trees
          (subst (λ (l : LedgerState). PinnedTreesAreKept view l (set k.pinned c.args.pin None)) (sym is) (kept_less k.slot.root.pages k.ledger k.pinned c.args.pin out k.pins view (k.pins_there keeps)));
      durable = k.durable;
      leaf = k.leaf;
      places_kept = k.places_kept;
    }

pub returns-clause-unpinned : goal.returns-clause-unpinned
returns-clause-unpinned g c =
    let k = c.args.self.now in
    let state = g.D.Device.state k.device in
    let is = c.unpin.ensures in
    let out : is_some (get_or k.pinned c.args.pin None) ≡ true = sym (out_at state.disk.view 0 c.args.pin c.args.pin k.pinned (omega arith)) ∙ c.requires.out in
    let trees : set k.pinned c.args.pin None ≡ set k.pinned c.number.result None = ap (λ (n : ℕ). set k.pinned n None) (sym c.number.ensures.number) in
    subst (λ (ts : List (Option TreeRoot)). IsStoreUnpinned (tree_holding state k.slot k.ledger k.top k.usable k.pinned) (tree_holding state k.slot c.unpin.new.self k.top k.usable ts) c.args.pin) trees
    (subst (λ (l : LedgerState). IsStoreUnpinned (tree_holding state k.slot k.ledger k.top k.usable k.pinned) (tree_holding state k.slot l k.top k.usable (set k.pinned c.args.pin None)) c.args.pin) (sym is)
    (is_unpinned k.slot.root.pages k.ledger k.pinned c.args.pin out k.pins state k.slot k.top k.usable))
