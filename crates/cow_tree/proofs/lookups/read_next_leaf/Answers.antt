use Rattle.std.proofs.Common.{◌≡◌, ℕ, ◌+◌, ◌*◌, ◌-◌, ◌<◌, List, [], Some, None, Err, refl, sym, ap, ◌∙◌, subst, arith, inr, inl, rules}
use Rattle.sector_device.specs.Effects.{MadeAtMost}
use Rattle.sector_device.proofs.Works.{no_calls, at_most, no_more_than}
use Rattle.page_store.specs.Sectors.{page_of}
use Rattle.page_store.specs.Pages.{Pair}
use Rattle.page_store.specs.Batch.{pair_after}
use Rattle.page_store.specs.Content.{Bounds, walk}
use Rattle.page_store.specs.Work.{pages_tried}
use Rattle.cow_tree.specs.KeptLeaves.{IsNextLeaf}
use Rattle.cow_tree.proofs.AnswersGiven.{answer_err}
use Rattle.cow_tree.proofs.RootWalks.{walk_at, no_pair_after}
use Rattle.cow_tree.proofs.lookups.read_next_leaf.Goals as goal

pub returns-then-tree-eq0 : goal.returns-then-tree-eq0
returns-then-tree-eq0 g c = record {
  next = record {
    pair = λ keeps found is.
        ap (λ (l : List Pair). pair_after l c.args.after.now) c.clear.ensures ∙ no_pair_after c.args.tree (page_of (g.D.Device.state c.args.device.now).disk.view) found c.args.after.now c.if-tree-eq0.true is;
    kept = λ keeps found is. ∣ inl c.clear.ensures ∣₁;
    reads = search rules;
  };
  work = no_more_than (at_most (no_calls _)) (omega arith) (omega arith) (omega arith);
  some = λ level. let none = c.if-tree-eq0.true in absurd (omega (arith, none, level));
}

pub returns-in-Ok : goal.returns-in-Ok
returns-in-Ok g c =
    let a = page_of (g.D.Device.state c.args.device.now).disk.view in
    let tree = c.args.tree in
    let ne = c.if-tree-eq0.false in
    let some : 0 < tree.height = omega (arith, ne) in
    let under = c.in-Ok.ensures.next in
    record {
      next = record {
        pair = λ keeps found is. sym (under.leaf keeps found (subst (λ (b : Bounds). walk a b (tree.height - 1) tree.tree [] None ≡ Some found) (sym c.bounds.ensures.bounds) (walk_at tree a found some is))).after;
        kept = λ keeps found is.
            let leaf = under.leaf keeps found (subst (λ (b : Bounds). walk a b (tree.height - 1) tree.tree [] None ≡ Some found) (sym c.bounds.ensures.bounds) (walk_at tree a found some is)) in
            ∣ inr (subst (λ (b : Bounds). IsNextLeaf a b c.args.after.now found c.leaf_after.new.kept) c.bounds.ensures.bounds leaf).is_leaf ∣₁;
        reads = record { device = under.reads.device; reads = under.reads.reads };
      };
      some = λ level. under.some;
      work = subst (λ (n : ℕ). MadeAtMost (8 * pages_tried n) 0 0 (g.D.Device.state c.args.device.now) (g.D.Device.state c.leaf_after.new.device)) (let e : tree.height - 1 + 1 ≡ tree.height = omega (arith, ne) in e) c.leaf_after.ensures.work;
    }

pub returns-in-Err : goal.returns-in-Err
returns-in-Err g c =
    let a = page_of (g.D.Device.state c.args.device.now).disk.view in
    let tree = c.args.tree in
    let ne = c.if-tree-eq0.false in
    let some : 0 < tree.height = omega (arith, ne) in
    let under = c.in-Err.ensures.next in
    record {
      next = record {
        pair = λ keeps found is.
            answer_err (Err c.in-Err.fault) c.in-Err.fault c.in-Err.fault _ _ refl refl
            (under.leaf keeps found (subst (λ (b : Bounds). walk a b (tree.height - 1) tree.tree [] None ≡ Some found) (sym c.bounds.ensures.bounds) (walk_at tree a found some is)));
        kept = λ keeps found is. ∣ inl c.clear-in-Err.ensures ∣₁;
        reads = search rules;
      };
      some = tt;
      work = subst (λ (n : ℕ). MadeAtMost (8 * pages_tried n) 0 0 (g.D.Device.state c.args.device.now) (g.D.Device.state c.leaf_after.new.device)) (let e : tree.height - 1 + 1 ≡ tree.height = omega (arith, ne) in e) c.leaf_after.ensures.work;
    }
