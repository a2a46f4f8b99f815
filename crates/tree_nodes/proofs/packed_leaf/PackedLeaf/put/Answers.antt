use Rattle.std.proofs.Common.{◌≡◌, [], suc, ◌+◌, ◌++◌, length, take, drop, ap, ◌∙◌, true, false, arith, eq-eqb, refl, append_assoc}
use Rattle.std.specs.Prelude.{◌==◌, if◌then◌else◌}
use Rattle.std.specs.BTreeMap.{insert_entry}
use Rattle.std.proofs.lemmas.Bool.{ne_eqb}
use Rattle.std.proofs.lemmas.List.{drop-drop}
use Rattle.common_types.specs.ByteOrder.{byte_cmp}
use Rattle.page_store.specs.Encoding.{entry_bytes}
use Rattle.page_store.proofs.DecodedPages.{pair_sizes}
use Rattle.tree_nodes.specs.PageViews.{pairs_in}
use Rattle.tree_nodes.specs.PackedEntries.{bytes_below, bytes_there}
use Rattle.tree_nodes.proofs.PackedEntries.{ArePacked, put_packed, below_packed, small_bytes, packed_sizes}
use Rattle.tree_nodes.proofs.packed_leaf.PackedLeaf.put.Goals.{then-size-eq0, else-size-eq0}
use Rattle.tree_nodes.proofs.packed_leaf.PackedLeaf.put.Goals as goal

pub split_at-requires : goal.split_at-requires
split_at-requires c =
    let inside = below_packed c.self.inside.count c.self.inside.bytes.items _ c.args.self.now c.args.key.now c.place_for-at.result.0 c.place_for-at.result.1 c.self.invariant c.self.view_is (ap (pairs_in c.self.inside.count) c.as_slice-old.ensures.value ∙ c.self.view_is) c.place_for-at.ensures.before c.place_for-at.ensures.there in
    let bytes = ap length c.as_slice-old.ensures.value in
    omega (arith, inside, bytes)

pub split_at-requires-2 : goal.split_at-requires-2
split_at-requires-2 c =
    let inside = below_packed c.self.inside.count c.self.inside.bytes.items _ c.args.self.now c.args.key.now c.place_for-at.result.0 c.place_for-at.result.1 c.self.invariant c.self.view_is (ap (pairs_in c.self.inside.count) c.as_slice-old.ensures.value ∙ c.self.view_is) c.place_for-at.ensures.before c.place_for-at.ensures.there in
    let bytes = ap length c.as_slice-old.ensures.value in
    omega (arith, inside, bytes, c.split_at.ensures.back_len)

pub overflow_add-room-3 : goal.overflow_add-room-3
overflow_add-room-3 c =
    let sizes = packed_sizes c.self.inside.count c.self.inside.bytes.items c.args.self.now c.self.invariant c.self.view_is in
    let small = small_bytes c.args.self.now sizes.1 in
    let bytes = ap length c.as_slice-old.ensures.value in
    let pair = pair_sizes (c.args.key.now, c.args.value.now) c.requires.pair in
    omega (arith, small, bytes, sizes.0, pair.0, pair.1, c.requires.room, c.split_at.ensures.front_len, c.split_at.ensures.back_len)

pub overflow_add-room-4 : goal.overflow_add-room-4
overflow_add-room-4 c =
    let sizes = packed_sizes c.self.inside.count c.self.inside.bytes.items c.args.self.now c.self.invariant c.self.view_is in
    let small = small_bytes c.args.self.now sizes.1 in
    let bytes = ap length c.as_slice-old.ensures.value in
    let pair = pair_sizes (c.args.key.now, c.args.value.now) c.requires.pair in
    omega (arith, small, bytes, sizes.0, pair.0, pair.1, c.requires.room, c.split_at.ensures.front_len, c.split_at.ensures.back_len, c.split_at-2.ensures.back_len)

made : (c : goal.Joined-size-eq0) → ArePacked c.if-size-eq0.count c.extend_from_slice-2.new.self.items (insert_entry byte_cmp c.args.self.now c.args.key.now c.args.value.now)
made c =
    let at = c.place_for-at.result.0 in
    let size = c.place_for-at.result.1 in
    let old = c.self.inside.bytes.items in
    let entry = entry_bytes (c.args.key.now, c.args.value.now) in
    let before = c.place_for-at.ensures.before ∙ ap (bytes_below c.args.key.now) (ap (pairs_in c.self.inside.count) c.as_slice-old.ensures.value ∙ c.self.view_is) in
    let there = c.place_for-at.ensures.there ∙ ap (bytes_there c.args.key.now) (ap (pairs_in c.self.inside.count) c.as_slice-old.ensures.value ∙ c.self.view_is) in
    let front : c.split_at.result.0.now ≡ take at old = c.split_at.ensures.front ∙ ap (take at) c.as_slice-old.ensures.value in
    let back : c.split_at-2.result.1.now ≡ drop (at + size) old = c.split_at-2.ensures.back ∙ ap (drop size) (c.split_at.ensures.back ∙ ap (drop at) c.as_slice-old.ensures.value) ∙ drop-drop size at old in
    let joined : c.extend_from_slice-2.new.self.items ≡ (([] ++ take at old) ++ entry) ++ drop (at + size) old =
    c.in_ok-extend_from_slice-2.ensures.items ∙ rw (c.in_ok-put_entry.ensures, c.in_ok-extend_from_slice.ensures.items, c.in_ok-bytes.ensures.items, front, back) refl in
    let count : c.if-size-eq0.count ≡ (if size == 0 then suc c.self.inside.count else c.self.inside.count) =
    elim c.if-size-eq0.branch [
      | then-size-eq0 w ↦ let none : (size == 0) ≡ true = eq-eqb size 0 w.if-size-eq0.true in rw none (omega (arith, w.count-is))
      | else-size-eq0 w ↦ let some : (size == 0) ≡ false = ne_eqb size 0 w.if-size-eq0.false in rw some w.count-is
    ] in
    put_packed c.self.inside.count old c.args.self.now c.args.key.now c.args.value.now at size c.if-size-eq0.count c.extend_from_slice-2.new.self.items c.self.invariant c.self.view_is c.requires.pair before there
    (joined ∙ append_assoc (take at old) entry (drop (at + size) old)) count

pub invariant_of-result : goal.invariant_of-result
invariant_of-result c = (made c).packed

pub returns : goal.returns
returns c = (made c).again
