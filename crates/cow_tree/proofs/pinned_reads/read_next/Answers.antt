use Rattle.std.proofs.Common.{◌≡◌, ℕ, ◌+◌, ◌*◌, ◌-◌, ◌<◌, [], Some, None, sym, subst, arith}
use Rattle.sector_device.specs.Effects.{MadeAtMost}
use Rattle.page_store.specs.Sectors.{page_of}
use Rattle.page_store.specs.Content.{Bounds, walk}
use Rattle.page_store.specs.Work.{pages_tried}
use Rattle.cow_tree.proofs.RootWalks.{walk_at, no_pair_after}
use Rattle.cow_tree.proofs.pinned_reads.read_next.Goals as goal

pub returns-then-tree-eq0-clause-pair : goal.returns-then-tree-eq0-clause-pair
returns-then-tree-eq0-clause-pair g c = λ keeps found is.
    no_pair_after c.args.tree (page_of (g.D.Device.state c.args.device.now).disk.view) found c.args.after.now c.if-tree-eq0.true is

pub returns-clause-pair : goal.returns-clause-pair
returns-clause-pair g c = λ keeps found is.
    let a = page_of (g.D.Device.state c.args.device.now).disk.view in
    let tree = c.args.tree in
    let ne = c.if-tree-eq0.false in
    let some : 0 < tree.height = omega (arith, ne) in
    c.next_under.ensures.next.pair keeps found (subst (λ (b : Bounds). walk a b (tree.height - 1) tree.tree [] None ≡ Some found) (sym c.bounds.ensures.bounds) (walk_at tree a found some is))

pub returns-clause-work : goal.returns-clause-work
returns-clause-work g c =
    let ne = c.if-tree-eq0.false in
    subst (λ (n : ℕ). MadeAtMost (8 * pages_tried n) 0 0 (g.D.Device.state c.args.device.now) (g.D.Device.state c.next_under.new.device)) (let e : c.args.tree.height - 1 + 1 ≡ c.args.tree.height = omega (arith, ne) in e) c.next_under.ensures.work
