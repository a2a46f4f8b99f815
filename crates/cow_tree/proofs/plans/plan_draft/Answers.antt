use Rattle.std.proofs.Common.{◌<◌, ℕ, List, refl, sym, ap, subst, ◌∙◌, arith, length, get_or}
use Rattle.std.proofs.lemmas.Result.{err_from_is_err_and}
use Rattle.page_alloc.specs.LedgerState.{LedgerState, is_alive}
use Rattle.tree_nodes.specs.OwnedTrees.{state_of}
use Rattle.tree_nodes.specs.Growth.{owned_under}
use Rattle.tree_pages.specs.Written.{IsTreePage}
use Rattle.cow_tree.specs.Drafts.{old_under}
use Rattle.cow_tree.specs.Taken.{TakesPages}
use Rattle.cow_tree.specs.Plans.{IsRootWritten}
use Rattle.cow_tree.proofs.Taken.{alive_still}
use Rattle.cow_tree.proofs.PlansMade.{planned_at, made_inside, made_count, made_levels, made_root, given_inside, all_owned, free_few, root_is_inside, numbers_inside}
use Rattle.cow_tree.proofs.plans.plan_draft.Goals as goal
use Rattle.cow_tree.proofs.plans.plan_draft.Goals.{then-tree-eq0, else-tree-eq0}

pub returns-in_err-tree-clause-planned : goal.returns-in_err-tree-clause-planned
returns-in_err-tree-clause-planned c = λ view top edits pairs held counted seal version.
    let slot = c.args.slot.now in
    let ledger = c.args.ledger.now in
    let tree = state_of c.args.draft.now.tree in
    let d = counted.draft_is in
    let inside = root_is_inside view slot edits 0 pairs ledger tree d tree.root refl in
    let all = subst (λ (l : List ℕ). (i e : ℕ) → i < length l → IsTreePage slot.root.pages (get_or l i e)) (sym c.deref.ensures.value) (numbers_inside ledger c.take_pages.new.ledger _ slot.root.pages c.in_ok-numbers.numbers.items c.in_ok-numbers.ensures.taken c.requires.fitted.lives) in
    let memory = c.in_err-tree.ensures.sound (old_under slot view) d.valid inside all in
    let e = err_from_is_err_and c.from_residual-in_err-tree.result c.from_residual-in_err-tree.ensures.1 in
    rw (e.1, e.2, memory) tt

pub returns-clause-made : goal.returns-clause-made
returns-clause-made c =
    let slot = c.args.slot.now in
    let ledger = c.args.ledger.now in
    let tree = state_of c.args.draft.now.tree in
    let given = c.in_ok-numbers.numbers.items in
    let free = c.if-need-free.false in
    let few = free_few ledger in
    let most = c.requires.fitted.fitted.most in
    let lives = c.requires.fitted.lives in
    let free_is = c.free-free.ensures in
    let needs = c.owned_nodes-need.ensures in
    let owned = all_owned c.owned_nodes-need.result (owned_under tree.root) c.free-free.result slot.root.pages needs (omega (arith, free)) (omega (arith, few, lives, free_is)) most in
    let taken : TakesPages c.owned_nodes-need.result ledger c.take_pages.new.ledger given = c.in_ok-numbers.ensures.taken in
    let written : IsRootWritten slot.root.pages c.args.seal given tree.height tree.root c.in_ok-tree.pages.items c.in_ok-tree.tree =
    subst (λ (l : List ℕ). IsRootWritten slot.root.pages c.args.seal l tree.height tree.root c.in_ok-tree.pages.items c.in_ok-tree.tree) c.deref.ensures.value c.in_ok-tree.ensures.written in
    let used = made_count slot.root.pages c.args.seal tree.height given tree.root c.in_ok-tree.pages.items c.in_ok-tree.tree (taken.count_is ∙ owned) written in
    record {
      made = record {
        pages = λ i d lt. made_inside slot.root.pages c.args.seal tree.height given tree.root c.in_ok-tree.pages.items c.in_ok-tree.tree (taken.count_is ∙ owned) written (given_inside ledger c.take_pages.new.ledger c.owned_nodes-need.result slot.root.pages given taken lives) i d lt;
        number = refl;
        seal_is = refl;
        size = refl;
        banner_is = refl;
        rooted = λ some. elim c.if-tree-eq0.branch [
          | then-tree-eq0 w ↦ let flat = w.height-is in absurd (omega (arith, some, flat))
          | else-tree-eq0 w ↦
              let ne = w.if-tree-eq0.false in
              let root = made_root slot.root.pages c.args.seal tree.height given tree.root c.in_ok-tree.pages.items c.in_ok-tree.tree written (λ z. absurd (omega (arith, ne, z))) in
              let is = w.height-is in
              let tall = w.height-height.ensures in
              let low = c.requires.low in
              (omega (arith, is, tall, low), root.0, root.1)
        ];
        page = λ sectors fits. c.in_ok-root.ensures.valid sectors c.ranges.seal.fits (c.requires.fitted.fitted.least, most, fits) c.requires.next.port;
      };
      room = omega (arith, used, owned, free, free_is);
      enough = omega (arith, needs, free, free_is);
      used = used;
      levels =
          made_levels slot.root.pages c.args.seal tree.height given tree.root c.in_ok-tree.pages.items c.in_ok-tree.tree _ written
          (λ z. elim c.if-tree-eq0.branch [ then-tree-eq0 w ↦ w.height-is | else-tree-eq0 w ↦ let ne = w.if-tree-eq0.false in absurd (omega (arith, ne, z)) ])
          (λ some. elim c.if-tree-eq0.branch [ then-tree-eq0 w ↦ let e = w.if-tree-eq0.true in absurd (some e) | else-tree-eq0 w ↦ w.height-is ∙ w.height-height.ensures ]);
      keys = refl;
    }

pub returns-clause-alive : goal.returns-clause-alive
returns-clause-alive c = λ n fit.
    let taken = c.in_ok-numbers.ensures.taken in
    ap (λ (s : LedgerState). is_alive s n) taken.taken ∙ alive_still c.args.ledger.now c.in_ok-numbers.numbers.items taken.free fit n

pub returns-clause-planned : goal.returns-clause-planned
returns-clause-planned c = λ view top edits pairs held counted seal version.
    let slot = c.args.slot.now in
    let ledger = c.args.ledger.now in
    let tree = state_of c.args.draft.now.tree in
    let given = c.in_ok-numbers.numbers.items in
    let free = c.if-need-free.false in
    let few = free_few ledger in
    let most = c.requires.fitted.fitted.most in
    let lives = c.requires.fitted.lives in
    let free_is = c.free-free.ensures in
    let owned = all_owned c.owned_nodes-need.result (owned_under tree.root) c.free-free.result slot.root.pages c.owned_nodes-need.ensures (omega (arith, free)) (omega (arith, few, lives, free_is)) most in
    let taken : TakesPages (owned_under tree.root) ledger c.take_pages.new.ledger given = subst (λ (n : ℕ). TakesPages n ledger c.take_pages.new.ledger given) owned c.in_ok-numbers.ensures.taken in
    let written : IsRootWritten slot.root.pages c.args.seal given tree.height tree.root c.in_ok-tree.pages.items c.in_ok-tree.tree =
    subst (λ (l : List ℕ). IsRootWritten slot.root.pages c.args.seal l tree.height tree.root c.in_ok-tree.pages.items c.in_ok-tree.tree) c.deref.ensures.value c.in_ok-tree.ensures.written in
    planned_at view slot top edits pairs ledger c.take_pages.new.ledger tree given _ c.in_ok-tree.pages.items held counted.draft_is lives most taken refl seal c.ranges.seal.fits version refl counted.keys tree.root refl c.requires.low
    (λ z. elim c.if-tree-eq0.branch [ then-tree-eq0 w ↦ w.height-is | else-tree-eq0 w ↦ let ne = w.if-tree-eq0.false in absurd (omega (arith, ne, z)) ])
    (λ some. elim c.if-tree-eq0.branch [ then-tree-eq0 w ↦ let e = w.if-tree-eq0.true in absurd (some e) | else-tree-eq0 w ↦ w.height-is ∙ w.height-height.ensures ]) written
