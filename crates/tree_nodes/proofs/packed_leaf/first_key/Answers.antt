use Rattle.std.proofs.Common.{◌≡◌, length, ◌∙◌, arith}
use Rattle.tree_nodes.proofs.EntriesFound.{entry_there}
use Rattle.tree_nodes.proofs.packed_leaf.first_key.Goals as goal

pub length_at-requires : goal.length_at-requires
length_at-requires c = let x = entry_there c.args.entries.now (λ i. omega (arith, c.type_inv.entries i)) c.requires in omega (arith, x.2.room)

pub length_at-requires-2 : goal.length_at-requires-2
length_at-requires-2 c = let x = entry_there c.args.entries.now (λ i. omega (arith, c.type_inv.entries i)) c.requires in omega (arith, x.2.room)

pub split_at-requires : goal.split_at-requires
split_at-requires c = let x = entry_there c.args.entries.now (λ i. omega (arith, c.type_inv.entries i)) c.requires in omega (arith, x.2.room)

pub split_at-requires-2 : goal.split_at-requires-2
split_at-requires-2 c =
    let x = entry_there c.args.entries.now (λ i. omega (arith, c.type_inv.entries i)) c.requires in
    let key_length : c.from-length.result ≡ length x.0.0.0 = c.from-length.ensures ∙ c.length_at.ensures ∙ x.2.key_length in
    omega (arith, key_length, x.2.room, c.split_at.ensures.back_len)

pub returns : goal.returns
returns c =
    let x = entry_there c.args.entries.now (λ i. omega (arith, c.type_inv.entries i)) c.requires in
    let key_length : c.from-length.result ≡ length x.0.0.0 = c.from-length.ensures ∙ c.length_at.ensures ∙ x.2.key_length in
    let value : c.from.result ≡ length x.0.0.1 = c.from.ensures ∙ c.length_at-2.ensures ∙ x.2.value_length in
    record {
      key = rw x.1 (c.split_at-2.ensures.front ∙ rw (key_length, c.split_at.ensures.back) x.2.key);
      size = rw x.1 (omega (arith, key_length, value));
    }
