use Rattle.std.proofs.Common.{◌≡◌, ◌++◌, ◌≤◌, [], List, ℕ, length, sym, ap, ◌∙◌, refl, arith, length-append}
use Rattle.std.specs.Int.{to_be_bytes}
use Rattle.page_store.specs.Encoding.{padded, entries_bytes}
use Rattle.page_store.specs.Pages.{page_word}
use Rattle.tree_nodes.specs.PageBytes.{head_bytes, leaf_page}
use Rattle.tree_nodes.proofs.PackedEntries.{piece_padded, packed_sizes}
use Rattle.tree_nodes.proofs.packed_leaf.PackedLeaf.to_page.Goals as goal

pub write_at-requires : goal.write_at-requires
write_at-requires c =
    let sizes = packed_sizes c.self.inside.count c.self.inside.bytes.items c.args.self.now c.self.invariant c.self.view_is in
    let bytes = ap length c.deref.ensures.value in
    omega (arith, bytes, sizes.0, c.requires, c.write_at-at.ensures.end, c.write_at-at-2.ensures.end, c.write_at-at-3.ensures.end, c.write_at-at-4.ensures.end, c.write_at-at-5.ensures.end)

pub returns : goal.returns
unfolding leaf_page
returns c =
    let sizes = packed_sizes c.self.inside.count c.self.inside.bytes.items c.args.self.now c.self.invariant c.self.view_is in
    let number = c.to_be_bytes.result in
    let generation = c.to_be_bytes-2.result in
    let level = c.to_be_bytes-3.result in
    let count = c.to_be_bytes-4.result in
    let bytes = c.deref.result.now in
    let size : length bytes ≤ 4072 = let same = ap length c.deref.ensures.value in omega (arith, same, sizes.0, c.requires) in
    let n4 : length number ≡ 4 = ap length c.to_be_bytes.ensures in
    let n8 : length generation ≡ 8 = ap length c.to_be_bytes-2.ensures in
    let l2 : length level ≡ 2 = ap length c.to_be_bytes-3.ensures in
    let c2 : length count ≡ 2 = ap length c.to_be_bytes-4.ensures in
    let f1 = page_word ++ number in
    let f2 = f1 ++ generation in
    let f3 = f2 ++ level in
    let f4 = f3 ++ count in
    let s1 : length f1 ≡ 12 = length-append page_word number ∙ omega (arith, n4) in
    let s2 : length f2 ≡ 20 = length-append f1 generation ∙ omega (arith, s1, n8) in
    let s3 : length f3 ≡ 22 = length-append f2 level ∙ omega (arith, s2, l2) in
    let s4 : length f4 ≡ 24 = length-append f3 count ∙ omega (arith, s3, c2) in
    let p0 = piece_padded 4096 [] page_word _ c.write_at-at.new.page 0 refl refl (omega arith) c.write_at-at.ensures.page in
    let p1 = piece_padded 4096 page_word number c.write_at-at.new.page c.write_at-at-2.new.page c.write_at-at.result p0 c.write_at-at.ensures.end (omega (arith, n4)) c.write_at-at-2.ensures.page in
    let p2 = piece_padded 4096 f1 generation c.write_at-at-2.new.page c.write_at-at-3.new.page c.write_at-at-2.result p1 (omega (arith, s1, n4, c.write_at-at.ensures.end, c.write_at-at-2.ensures.end)) (omega (arith, s1, n8)) c.write_at-at-3.ensures.page in
    let p3 = piece_padded 4096 f2 level c.write_at-at-3.new.page c.write_at-at-4.new.page c.write_at-at-3.result p2 (omega (arith, s2, n4, n8, c.write_at-at.ensures.end, c.write_at-at-2.ensures.end, c.write_at-at-3.ensures.end)) (omega (arith, s2, l2)) c.write_at-at-4.ensures.page in
    let p4 = piece_padded 4096 f3 count c.write_at-at-4.new.page c.write_at-at-5.new.page c.write_at-at-4.result p3 (omega (arith, s3, n4, n8, l2, c.write_at-at.ensures.end, c.write_at-at-2.ensures.end, c.write_at-at-3.ensures.end, c.write_at-at-4.ensures.end)) (omega (arith, s3, c2)) c.write_at-at-5.ensures.page in
    let p5 = piece_padded 4096 f4 bytes c.write_at-at-5.new.page c.write_at.new.page c.write_at-at-5.result p4 (omega (arith, s4, n4, n8, l2, c2, c.write_at-at.ensures.end, c.write_at-at-2.ensures.end, c.write_at-at-3.ensures.end, c.write_at-at-4.ensures.end, c.write_at-at-5.ensures.end)) (omega (arith, s4, size)) c.write_at.ensures.page in
    let body : bytes ≡ entries_bytes c.args.self.now = c.deref.ensures.value ∙ c.self.invariant.1 ∙ ap entries_bytes c.self.view_is in
    let counted : c.self.inside.count ≡ length c.args.self.now = sym c.self.invariant.0 ∙ ap length c.self.view_is in
    let head : f4 ≡ head_bytes c.args.page c.args.generation 0 (length c.args.self.now) = rw (c.to_be_bytes.ensures, c.to_be_bytes-2.ensures, c.to_be_bytes-3.ensures, c.to_be_bytes-4.ensures, counted) refl in
    p5 ∙ ap (λ (l : List ℕ). padded 4096 (l ++ bytes)) head ∙ ap (λ (l : List ℕ). padded 4096 (head_bytes c.args.page c.args.generation 0 (length c.args.self.now) ++ l)) body
