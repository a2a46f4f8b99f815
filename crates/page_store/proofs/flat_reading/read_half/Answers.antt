use Rattle.std.proofs.Common.{◌≡◌, ◌+◌, ◌-◌, ℕ, List, suc, sym, subst, ap, ◌∙◌, arith, IsTrue, Some, None, inr}
use Rattle.sector_device.specs.Disk.{Disk}
use Rattle.common_types.specs.Counts.{counted}
use Rattle.sector_device.proofs.Works.{exactly_then, at_most, most_of, most_then, no_more_than}
use Rattle.page_store.specs.Sectors.{Image, page_of}
use Rattle.page_store.specs.Flat.{flat_next, flat_walk, half_size, with_pairs, HasNext}
use Rattle.page_store.proofs.DeviceSequences.{then_read}
use Rattle.page_store.proofs.Parsing.{pages_more, none_more, no_more}
use Rattle.page_store.proofs.Outcomes.{on_ok, counts_ok, counts_err, made_ok}
use Rattle.page_store.proofs.flat_reading.read_half.Goals as goal

pub returns-then-keys-eq0-clause-pairs : goal.returns-then-keys-eq0-clause-pairs
returns-then-keys-eq0-clause-pairs g c = λ keeps.
    no_more (page_of (g.D.Device.state c.args.device.now).disk.view) c.loop-page.pairs.items c.args.slot.now.seal (half_size c.args.slot.now.root.pages - (c.loop-page.page - c.args.slot.now.root.tree)) c.loop-page.page c.loop-page.room c.loop-page.keys _
    c.if-keys-eq0.true (c.loop-page.invariant.walk keeps)

pub returns-in_default-clause-fault : goal.returns-in_default-clause-fault
returns-in_default-clause-fault g c = let low = c.loop-page.auto.page in let lt = c.loop-page-test.true in (
  λ keeps.
      let view : Image = (g.D.Device.state c.args.device.now).disk.view in
      let first = c.args.slot.now.root.tree in
      let half = half_size c.args.slot.now.root.pages in
      let page = c.loop-page.page in
      let left : half - (page - first) ≡ suc (half - (page + 1 - first)) = omega (arith, low, lt) in
      let keeps1 : IsTrue (g.D.Device.state c.loop-page.device).honest = subst IsTrue (sym c.loop-page.invariant.device.only.same.honest) keeps in
      let shown : page_of (g.D.Device.state c.loop-page.device).disk.view page ≡ c.read_page.new.bytes = on_ok c.read_page.result c.is_err.result _ c.is_err.ensures.value c.if-is_err.false (c.read_page.ensures.page.gives keeps1) in
      let bytes : c.read_page.new.bytes ≡ page_of view page = sym shown ∙ ap (λ (d : Disk). page_of d.view page) (c.loop-page.invariant.device.only.disk keeps) in
      let none : flat_next c.args.slot.now.seal page c.loop-page.room c.loop-page.keys c.read_page.new.bytes ≡ None = rw c.in_default.is at c.in_ok-left.ensures in
      none_more (page_of view) c.loop-page.pairs.items c.args.slot.now.seal (half - (page - first)) page c.loop-page.room c.loop-page.keys (half - (page + 1 - first)) _ left (let ne = c.if-keys-eq0.false in omega (arith, ne))
      (subst (λ (b : List ℕ). flat_next c.args.slot.now.seal page c.loop-page.room c.loop-page.keys b ≡ None) bytes none) (c.loop-page.invariant.walk keeps),
  inr (omega (arith, low), omega (arith, low, lt)),
)

pub loop-page-preserved : goal.loop-page-preserved
loop-page-preserved g c =
    let view : Image = (g.D.Device.state c.args.device.now).disk.view in
    let first = c.args.slot.now.root.tree in
    let half = half_size c.args.slot.now.root.pages in
    let page = c.loop-page.page in
    let keeps1 = λ (keeps : IsTrue (g.D.Device.state c.args.device.now).honest). let h : IsTrue (g.D.Device.state c.loop-page.device).honest = subst IsTrue (sym c.loop-page.invariant.device.only.same.honest) keeps in h in
    record {
      device = then_read c.loop-page.invariant.device c.read_page.ensures.page;
      reads = counts_ok c.read_page.result c.is_err.result _ _ c.is_err.ensures.value c.if-is_err.false c.read_page.ensures.page.outcome.reads ∙ c.loop-page.invariant.reads;
      work =
          let low = c.loop-page.auto.page in
          let both = exactly_then c.loop-page.invariant.work (made_ok c.read_page.result c.is_err.result c.is_err.ensures.value c.if-is_err.false c.read_page.ensures.work) in
          record { reads = omega (arith, both.reads, low); writes = both.writes; syncs = both.syncs };
      walk = λ keeps.
          let low = c.loop-page.auto.page in
          let lt = c.loop-page-test.true in
          let left : half - (page - first) ≡ suc (half - (page + 1 - first)) = omega (arith, low, lt) in
          let shown : page_of (g.D.Device.state c.loop-page.device).disk.view page ≡ c.read_page.new.bytes = on_ok c.read_page.result c.is_err.result _ c.is_err.ensures.value c.if-is_err.false (c.read_page.ensures.page.gives (keeps1 keeps)) in
          let bytes : c.read_page.new.bytes ≡ page_of view page = sym shown ∙ ap (λ (d : Disk). page_of d.view page) (c.loop-page.invariant.device.only.disk keeps) in
          let next : HasNext c.loop-page.keys c.loop-page.pairs.items c.read_next.new.pairs.items (flat_next c.args.slot.now.seal page c.loop-page.room c.loop-page.keys c.read_page.new.bytes) (Some (c.in-Some.left, c.in-Some.more)) = rw c.in-Some.is at c.in_ok-left.ensures in
          subst (λ (k : ℕ). with_pairs c.read_next.new.pairs.items (flat_walk (page_of view) c.args.slot.now.seal (half - (page + 1 - first)) (page + 1) c.in-Some.left k) ≡ flat_walk (page_of view) c.args.slot.now.seal half first 0 c.args.slot.now.root.keys) (sym next.3)
          (pages_more (page_of view) c.loop-page.pairs.items c.read_next.new.pairs.items c.args.slot.now.seal (half - (page - first)) page c.loop-page.room c.loop-page.keys (half - (page + 1 - first)) (next.0, c.in-Some.left) _ left (let ne = c.if-keys-eq0.false in omega (arith, ne))
          (subst (λ (b : List ℕ). flat_next c.args.slot.now.seal page c.loop-page.room c.loop-page.keys b ≡ Some (next.0, c.in-Some.left)) bytes next.1) next.2 (c.loop-page.invariant.walk keeps));
    }

pub returns-then-is_err-clause-fault : goal.returns-then-is_err-clause-fault
returns-then-is_err-clause-fault g c = counts_err c.read_page.result c.is_err.result _ _ c.is_err.ensures.value c.if-is_err.true c.read_page.ensures.page.outcome.reads ∙ ap counted c.loop-page.invariant.reads

pub returns-then-is_err-clause-reads : goal.returns-then-is_err-clause-reads
returns-then-is_err-clause-reads g c = counts_err c.read_page.result c.is_err.result _ _ c.is_err.ensures.value c.if-is_err.true c.read_page.ensures.page.outcome.reads ∙ ap counted c.loop-page.invariant.reads

pub returns-then-is_err-clause-work : goal.returns-then-is_err-clause-work
returns-then-is_err-clause-work g c =
    let low = c.loop-page.auto.page in
    let lt = c.loop-page-test.true in
    no_more_than (most_then (at_most c.loop-page.invariant.work) (most_of c.read_page.result c.read_page.ensures.work)) (omega (arith, low, lt)) (omega arith) (omega arith)
