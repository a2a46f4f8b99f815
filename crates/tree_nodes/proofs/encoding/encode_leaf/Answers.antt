use Rattle.std.proofs.Common.{◌≡◌, ◌++◌, List, ℕ, length, ap, ◌∙◌, arith, length-append}
use Rattle.page_store.specs.Encoding.{entries_bytes}
use Rattle.tree_nodes.specs.PageBytes.{head_bytes}
use Rattle.tree_nodes.proofs.EncodedPages.{entries_length, pairs_count}
use Rattle.tree_nodes.proofs.encoding.encode_leaf.Goals as goal

pub overflow_cast-pairs : goal.overflow_cast-pairs
overflow_cast-pairs c = omega (arith, pairs_count c.args.pairs.now, c.requires.room)

pub padded_page-requires : goal.padded_page-requires
padded_page-requires c =
    let head = head_bytes c.args.page c.args.generation 0 (length c.args.pairs.now) in
    let body = entries_bytes c.args.pairs.now in
    let same : c.put_entries.new.out.items ≡ head ++ body = c.in_ok-put_entries.ensures ∙ ap (λ (l : List ℕ). l ++ body) c.in_ok-bytes.ensures in
    omega (arith, ap length same, length-append head body, entries_length c.args.pairs.now, c.requires.room)
