use Rattle.std.proofs.Common.{◌≡◌, ℕ, ◌+◌, ◌*◌, ◌-◌, ◌<◌, List, [], Some, None, refl, sym, subst, arith, rules}
use Rattle.std.specs.Prelude.{IsTrue}
use Rattle.sector_device.specs.Disk.{Disk}
use Rattle.sector_device.specs.Effects.{MadeAtMost}
use Rattle.sector_device.proofs.Works.{no_calls, at_most, no_more_than}
use Rattle.page_store.specs.Sectors.{page_of}
use Rattle.page_store.specs.Content.{Bounds, walk}
use Rattle.page_store.specs.StoreState.{IsFilled}
use Rattle.cow_tree.specs.KeptPlaces.{IsLeafUnder}
use Rattle.cow_tree.specs.PinnedTrees.{bounds_at, tree_at}
use Rattle.cow_tree.proofs.RootWalks.{walk_at, no_value}
use Rattle.cow_tree.proofs.ValuesInLeaves.{ok_has}
use Rattle.cow_tree.proofs.lookups.find_value.Goals as goal

pub returns-then-tree-eq0 : goal.returns-then-tree-eq0
returns-then-tree-eq0 g c = record {
  found = record {
    within = tt;
    value = λ keeps found is. no_value c.args.tree (page_of (g.D.Device.state c.args.device.now).disk.view) found c.args.key.now c.if-tree-eq0.true is;
    buffer = refl;
    reads = search rules;
  };
  kept = c.requires.kept;
  work = no_more_than (at_most (no_calls _)) (omega arith) (omega arith) (omega arith);
}

pub returns-in-Some : goal.returns-in-Some
returns-in-Some g c = record {
  found = record {
    within = c.in-Some.ensures.within;
    value = λ keeps found is. c.in-Some.ensures.value keeps found is;
    buffer = c.in-Some.ensures.buffer;
    reads = search rules;
  };
  kept = c.in-Some.ensures.kept;
  work = no_more_than (at_most (no_calls _)) (omega arith) (omega arith) (omega arith);
}

pub returns-then-is_ok : goal.returns-then-is_ok
returns-then-is_ok g c =
    let d = g.D.Device in
    let a = page_of (d.state c.args.device.now).disk.view in
    let tree = c.args.tree in
    let ne = c.if-tree-eq0.false in
    let some : 0 < tree.height = omega (arith, ne) in
    let under = c.get_under-found.ensures.found in
    let now = d.state c.get_under-found.new.device in
    let leaf = c.get_under-found.new.places.leaf in
    let same = under.reads.device.only in
    record {
      found = record {
        within = under.within;
        value = λ keeps found is. under.value keeps found (subst (λ (b : Bounds). walk a b (tree.height - 1) tree.tree [] None ≡ Some found) (sym c.bounds.ensures.bounds) (walk_at tree a found some is));
        buffer = subst (λ (l : List ℕ). IsFilled (λ n. n) c.get_under-found.result l c.get_under-found.new.buffer) c.in_default.ensures.buffer under.buffer;
        reads = under.reads;
      };
      kept = λ keeps1.
          let keeps = subst IsTrue same.same.honest keeps1 in
          c.is_of.ensures (page_of now.disk.view) (c.get_under-found.ensures.kept keeps1)
          (λ whole at.
          let at0 = subst (λ (x : Disk). tree_at tree (page_of x.view) ≡ Some whole) (same.disk keeps) at in
          let found = ok_has c.get_under-found.result (let t = c.if-is_ok.true in let e = c.is_ok.ensures in search rules)
          (c.get_under-found.ensures.leaf keeps whole (subst (λ (b : Bounds). walk a b (tree.height - 1) tree.tree [] None ≡ Some whole) (sym c.bounds.ensures.bounds) (walk_at tree a whole some at0))) in
          let found1 = subst (λ (b : Bounds). IsLeafUnder a b leaf whole) c.bounds.ensures.bounds found in
          ∣ subst (λ (x : Disk). IsLeafUnder (page_of x.view) (bounds_at tree) leaf whole) (sym (same.disk keeps)) found1 ∣₁);
      work = subst (λ (n : ℕ). MadeAtMost (8 * n) 0 0 (g.D.Device.state c.args.device.now) (g.D.Device.state c.get_under-found.new.device)) (let e : tree.height - 1 + 1 ≡ tree.height = omega (arith, ne) in e) c.get_under-found.ensures.work;
    }

pub returns-else-is_ok : goal.returns-else-is_ok
returns-else-is_ok g c =
    let d = g.D.Device in
    let a = page_of (d.state c.args.device.now).disk.view in
    let tree = c.args.tree in
    let ne = c.if-tree-eq0.false in
    let some : 0 < tree.height = omega (arith, ne) in
    let under = c.get_under-found.ensures.found in
    record {
      found = record {
        within = under.within;
        value = λ keeps found is. under.value keeps found (subst (λ (b : Bounds). walk a b (tree.height - 1) tree.tree [] None ≡ Some found) (sym c.bounds.ensures.bounds) (walk_at tree a found some is));
        buffer = subst (λ (l : List ℕ). IsFilled (λ n. n) c.get_under-found.result l c.get_under-found.new.buffer) c.in_default.ensures.buffer under.buffer;
        reads = under.reads;
      };
      kept = c.get_under-found.ensures.kept;
      work = subst (λ (n : ℕ). MadeAtMost (8 * n) 0 0 (g.D.Device.state c.args.device.now) (g.D.Device.state c.get_under-found.new.device)) (let e : tree.height - 1 + 1 ≡ tree.height = omega (arith, ne) in e) c.get_under-found.ensures.work;
    }
