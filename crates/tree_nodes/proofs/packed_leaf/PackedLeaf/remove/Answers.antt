use lib.Seq.{paste}
use Rattle.std.proofs.Common.{◌≡◌, ℕ, List, ◌+◌, ◌-◌, ◌≤◌, ◌++◌, length, take, drop, refl, sym, ap, ◌∙◌, arith, length-drop}
use Rattle.std.proofs.lemmas.List.{take_all}
use Rattle.std.proofs.lemmas.List.Edits.{take-paste}
use Rattle.std.specs.BTreeMap.{is_at}
use Rattle.common_types.specs.ByteOrder.{byte_cmp}
use Rattle.tree_nodes.specs.PageViews.{pairs_in}
use Rattle.tree_nodes.specs.PackedEntries.{bytes_before, bytes_of_first}
use Rattle.tree_nodes.proofs.JoinedPairs.{taken}
use Rattle.tree_nodes.proofs.PackedEntries.{ArePacked, taken_packed, none_taken, before_packed}
use Rattle.tree_nodes.proofs.packed_leaf.PackedLeaf.remove.Goals as goal

pub returns-then-size-eq0 : goal.returns-then-size-eq0
returns-then-size-eq0 c =
    let test = is_at (byte_cmp c.args.key.now) in
    let there : c.place_of-at.result.1 ≡ bytes_of_first test c.args.self.now = c.place_of-at.ensures.there ∙ ap (bytes_of_first test) (ap (pairs_in c.self.inside.count) c.deref.ensures.value ∙ c.self.view_is) in
    sym (none_taken test c.args.self.now (sym there ∙ c.if-size-eq0.true))

pub overflow_sub-left : goal.overflow_sub-left
overflow_sub-left c =
    let inside = before_packed c.self.inside.count c.self.inside.bytes.items _ c.args.self.now (is_at (byte_cmp c.args.key.now)) c.place_of-at.result.0 c.place_of-at.result.1 c.self.invariant c.self.view_is (ap (pairs_in c.self.inside.count) c.deref.ensures.value ∙ c.self.view_is) c.place_of-at.ensures.before c.place_of-at.ensures.there in
    omega (arith, inside, c.len.ensures, c.self.inside.bytes.ok)

pub overflow_add-at : goal.overflow_add-at
overflow_add-at c =
    let inside = before_packed c.self.inside.count c.self.inside.bytes.items _ c.args.self.now (is_at (byte_cmp c.args.key.now)) c.place_of-at.result.0 c.place_of-at.result.1 c.self.invariant c.self.view_is (ap (pairs_in c.self.inside.count) c.deref.ensures.value ∙ c.self.view_is) c.place_of-at.ensures.before c.place_of-at.ensures.there in
    omega (arith, inside, c.len.ensures, c.len.type_inv, c.self.inside.bytes.ok)

pub copy_within-requires-clause-start_le_end : goal.copy_within-requires-clause-start_le_end
copy_within-requires-clause-start_le_end c =
    let inside = before_packed c.self.inside.count c.self.inside.bytes.items _ c.args.self.now (is_at (byte_cmp c.args.key.now)) c.place_of-at.result.0 c.place_of-at.result.1 c.self.invariant c.self.view_is (ap (pairs_in c.self.inside.count) c.deref.ensures.value ∙ c.self.view_is) c.place_of-at.ensures.before c.place_of-at.ensures.there in
    omega (arith, inside, c.self.inside.bytes.ok)

pub copy_within-requires-clause-dest_in_bounds : goal.copy_within-requires-clause-dest_in_bounds
copy_within-requires-clause-dest_in_bounds c =
    let inside = before_packed c.self.inside.count c.self.inside.bytes.items _ c.args.self.now (is_at (byte_cmp c.args.key.now)) c.place_of-at.result.0 c.place_of-at.result.1 c.self.invariant c.self.view_is (ap (pairs_in c.self.inside.count) c.deref.ensures.value ∙ c.self.view_is) c.place_of-at.ensures.before c.place_of-at.ensures.there in
    let at = c.place_of-at.result.0 in
    let size = c.place_of-at.result.1 in
    let fits : at + (c.self.inside.bytes.len - (at + size)) ≤ c.self.inside.bytes.len = omega (arith, inside, c.self.inside.bytes.ok) in
    fits

made : (c : goal.After-self-1) → ArePacked (c.self.inside.count - 1) c.truncate.new.self.items (taken c.args.key.now c.args.self.now)
made c =
    let inside = before_packed c.self.inside.count c.self.inside.bytes.items _ c.args.self.now (is_at (byte_cmp c.args.key.now)) c.place_of-at.result.0 c.place_of-at.result.1 c.self.invariant c.self.view_is (ap (pairs_in c.self.inside.count) c.deref.ensures.value ∙ c.self.view_is) c.place_of-at.ensures.before c.place_of-at.ensures.there in
    let test = is_at (byte_cmp c.args.key.now) in
    let at = c.place_of-at.result.0 in
    let size = c.place_of-at.result.1 in
    let old = c.self.inside.bytes.items in
    let left = length old - (at + size) in
    let back : length (drop (at + size) old) ≡ left = length-drop (at + size) old in
    let kept : c.len.result - size ≡ at + left = omega (arith, inside, c.len.ensures, c.self.inside.bytes.ok) in
    let moved : c.copy_within.new.self.items ≡ paste old at (drop (at + size) old) left = c.copy_within.ensures.items ∙ ap (λ (n : ℕ). paste old at (drop (at + size) old) (n - (at + size))) c.self.inside.bytes.ok.0 in
    let cut : c.truncate.new.self.items ≡ take at old ++ drop (at + size) old =
    c.truncate.ensures.items ∙ rw (kept, moved) (take-paste old at (drop (at + size) old) left (omega (arith, inside)) (omega (arith, back))) ∙ ap (λ (l : List ℕ). take at old ++ l) (take_all left (drop (at + size) old) (omega (arith, back))) in
    taken_packed c.self.inside.count old c.args.self.now c.args.key.now at size (c.self.inside.count - 1) c.truncate.new.self.items c.self.invariant c.self.view_is
    (c.place_of-at.ensures.before ∙ ap (bytes_before test) (ap (pairs_in c.self.inside.count) c.deref.ensures.value ∙ c.self.view_is)) (c.place_of-at.ensures.there ∙ ap (bytes_of_first test) (ap (pairs_in c.self.inside.count) c.deref.ensures.value ∙ c.self.view_is)) (omega (arith, c.if-size-eq0.false)) cut refl

pub invariant_of-self : goal.invariant_of-self
invariant_of-self c = (made c).packed

pub returns : goal.returns
returns c = (made c).again
