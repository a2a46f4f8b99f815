use Rattle.std.proofs.Common.{◌≡◌, true, List, [], ◌∷◌, length, Option, IfSome, Some, None, sym, ap, subst, ◌∙◌, arith, IsTrue}
use Rattle.std.proofs.lemmas.List.{length-append}
use Rattle.std.proofs.lemmas.Result.{err_from_is_err_and}
use Rattle.sector_device.specs.Disk.{Disk}
use Rattle.page_store.specs.Sectors.{Image, page_of}
use Rattle.page_store.specs.Pages.{Pair}
use Rattle.page_store.specs.Keys.{precedes}
use Rattle.page_store.specs.Batch.{is_pair, pair_after}
use Rattle.page_store.specs.Content.{tree_found}
use Rattle.page_store.specs.PairsInOrder.{last_key}
use Rattle.page_store.proofs.PairsInOrder.{first_more, first_all}
use Rattle.cow_tree.specs.Opening.{bounds_under}
use Rattle.cow_tree.specs.KeptLeaves.{IsKeptLeaf}
use Rattle.cow_tree.specs.Compacting.{most_pairs}
use Rattle.cow_tree.specs.KeysCounted.{keys_told}
use Rattle.cow_tree.proofs.PathReads.{tells_fault}
use Rattle.cow_tree.proofs.PairsRead.{map_more, one_too_many}
use Rattle.cow_tree.proofs.ReadsInTurn.{reads_again}
use Rattle.cow_tree.proofs.TreesAreMaps.{found_map}
use Rattle.cow_tree.proofs.all_pairs.all_pairs.Goals as goal

pub returns-in_err-pair-clause-pairs : goal.returns-in_err-pair-clause-pairs
returns-in_err-pair-clause-pairs g c = λ keeps found is few.
    let state = g.D.Device.state in
    let slot = c.args.slot.now in
    let inv = c.loop-pairs.invariant in
    let same : (state c.loop-pairs.device).disk.view ≡ (state c.args.device.now).disk.view = ap (λ (x : Disk). x.view) (inv.device.only.disk keeps) in
    let here = subst (λ (v : Image). tree_found slot (page_of v) ≡ Some found) (sym same) is in
    let kept = subst (λ (v : Image). IsKeptLeaf (page_of v) (bounds_under slot) found c.loop-pairs.kept) (sym same) (inv.first keeps found is).1 in
    let answered = c.in_err-pair.ensures.pair (subst IsTrue (sym inv.device.only.same.honest) keeps) found here kept in
    let e = err_from_is_err_and c.from_residual.result c.from_residual.ensures.1 in
    rw (e.1, e.2) (tells_fault ⊥ ⊥ c.in_err-pair.field-0.0 _ _ (λ h. h) answered)

pub returns-then-len-ge-MOST_PAIRS-clause-pairs : goal.returns-then-len-ge-MOST_PAIRS-clause-pairs
returns-then-len-ge-MOST_PAIRS-clause-pairs g c = λ keeps found is few.
    let state = g.D.Device.state in
    let slot = c.args.slot.now in
    let inv = c.loop-pairs.invariant in
    let same : (state c.loop-pairs.device).disk.view ≡ (state c.args.device.now).disk.view = ap (λ (x : Disk). x.view) (inv.device.only.disk keeps) in
    let here = subst (λ (v : Image). tree_found slot (page_of v) ≡ Some found) (sym same) is in
    let kept = subst (λ (v : Image). IsKeptLeaf (page_of v) (bounds_under slot) found c.loop-pairs.kept) (sym same) (inv.first keeps found is).1 in
    let next : Some c.in-Some.pair ≡ pair_after found.pairs (last_key c.loop-pairs.pairs.items) =
    sym c.in-Some.is ∙ c.in_ok-pair.ensures.pair (subst IsTrue (sym inv.device.only.same.honest) keeps) found here kept ∙ ap (λ (l : List Pair). pair_after found.pairs (last_key l)) c.deref.ensures.value in
    let full = c.if-len-ge-MOST_PAIRS.true in
    let size = c.len.ensures in
    one_too_many c.loop-pairs.pairs.items found.pairs c.in-Some.pair most_pairs (found_map slot (page_of (state c.args.device.now).disk.view) found is) (inv.first keeps found is).0 next (omega (arith, full, size)) few

pub loop-pairs-preserved : goal.loop-pairs-preserved
loop-pairs-preserved g c =
    let state = g.D.Device.state in
    let slot = c.args.slot.now in
    let inv = c.loop-pairs.invariant in
    let answered = c.in_ok-pair.ensures in
    let items = c.in_ok-push.ensures.items in
    let rises = subst (λ (o : Option Pair). IfSome o (λ p. (precedes (last_key c.deref.result.now) p.0 ≡ true) × (is_pair p ≡ true))) c.in-Some.is answered.rises in
    let after : precedes (last_key c.loop-pairs.pairs.items) c.in-Some.pair.0 ≡ true = subst (λ (l : List Pair). precedes (last_key l) c.in-Some.pair.0 ≡ true) c.deref.ensures.value rises.0 in
    record {
      first = λ keeps found is.
          let same : (state c.loop-pairs.device).disk.view ≡ (state c.args.device.now).disk.view = ap (λ (x : Disk). x.view) (inv.device.only.disk keeps) in
          let here = subst (λ (v : Image). tree_found slot (page_of v) ≡ Some found) (sym same) is in
          let kept = subst (λ (v : Image). IsKeptLeaf (page_of v) (bounds_under slot) found c.loop-pairs.kept) (sym same) (inv.first keeps found is).1 in
          let now = subst IsTrue (sym inv.device.only.same.honest) keeps in
          let next : Some c.in-Some.pair ≡ pair_after found.pairs (last_key c.loop-pairs.pairs.items) = sym c.in-Some.is ∙ answered.pair now found here kept ∙ ap (λ (l : List Pair). pair_after found.pairs (last_key l)) c.deref.ensures.value in
          let more = first_more c.loop-pairs.pairs.items found.pairs c.in-Some.pair (found_map slot (page_of (state c.args.device.now).disk.view) found is) (inv.first keeps found is).0 next in
          (rw items more, subst (λ (v : Image). IsKeptLeaf (page_of v) (bounds_under slot) found c.pair_behind.new.kept) same (c.pair_behind.ensures.kept now found here kept));
      map = rw items (map_more c.loop-pairs.pairs.items c.in-Some.pair inv.map after rises.1);
      few =
          let less = c.if-len-ge-MOST_PAIRS.false in
          let size = c.len.ensures in
          let all = ap (λ (l : List Pair). length l) items in
          let one = length-append c.loop-pairs.pairs.items (c.in-Some.pair ∷ []) in
          omega (arith, less, size, all, one);
      device = reads_again inv.device c.pair_behind.ensures.reads.counted.device;
      reads = answered.reads.counted.reads ∙ inv.reads;
    }

pub returns-then-len-slot-clause-pairs : goal.returns-then-len-slot-clause-pairs
returns-then-len-slot-clause-pairs g c = λ keeps found is few.
    let state = g.D.Device.state in
    let slot = c.args.slot.now in
    let inv = c.loop-pairs.invariant in
    let same : (state c.loop-pairs.device).disk.view ≡ (state c.args.device.now).disk.view = ap (λ (x : Disk). x.view) (inv.device.only.disk keeps) in
    let here = subst (λ (v : Image). tree_found slot (page_of v) ≡ Some found) (sym same) is in
    let kept = subst (λ (v : Image). IsKeptLeaf (page_of v) (bounds_under slot) found c.loop-pairs.kept) (sym same) (inv.first keeps found is).1 in
    let next : None ≡ pair_after found.pairs (last_key c.loop-pairs.pairs.items) =
    sym c.in_default.is ∙ c.in_ok-pair.ensures.pair (subst IsTrue (sym inv.device.only.same.honest) keeps) found here kept ∙ ap (λ (l : List Pair). pair_after found.pairs (last_key l)) c.deref.ensures.value in
    let all = first_all c.loop-pairs.pairs.items found.pairs (found_map slot (page_of (state c.args.device.now).disk.view) found is) (inv.first keeps found is).0 next in
    let differ = c.if-len-slot.true in
    let size = c.len-2.ensures in
    let as_many = ap (λ (l : List Pair). length l) all ∙ sym (keys_told slot (page_of (state c.args.device.now).disk.view) found is) in
    absurd (omega (arith, differ, size, as_many))

pub returns-clause-pairs : goal.returns-clause-pairs
returns-clause-pairs g c = λ keeps found is few.
    let state = g.D.Device.state in
    let slot = c.args.slot.now in
    let inv = c.loop-pairs.invariant in
    let same : (state c.loop-pairs.device).disk.view ≡ (state c.args.device.now).disk.view = ap (λ (x : Disk). x.view) (inv.device.only.disk keeps) in
    let here = subst (λ (v : Image). tree_found slot (page_of v) ≡ Some found) (sym same) is in
    let kept = subst (λ (v : Image). IsKeptLeaf (page_of v) (bounds_under slot) found c.loop-pairs.kept) (sym same) (inv.first keeps found is).1 in
    let next : None ≡ pair_after found.pairs (last_key c.loop-pairs.pairs.items) =
    sym c.in_default.is ∙ c.in_ok-pair.ensures.pair (subst IsTrue (sym inv.device.only.same.honest) keeps) found here kept ∙ ap (λ (l : List Pair). pair_after found.pairs (last_key l)) c.deref.ensures.value in
    first_all c.loop-pairs.pairs.items found.pairs (found_map slot (page_of (state c.args.device.now).disk.view) found is) (inv.first keeps found is).0 next
