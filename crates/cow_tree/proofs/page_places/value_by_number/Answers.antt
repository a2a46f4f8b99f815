use Rattle.std.proofs.Common.{◌≡◌, true, false, List, ℕ, ap, ◌∙◌, sym}
use Rattle.std.specs.BTreeMap.{is_at}
use Rattle.common_types.specs.ByteOrder.{byte_cmp}
use Rattle.cow_tree.proofs.ValuesInLeaves.{same_key, some_pair}
use Rattle.cow_tree.proofs.page_places.value_by_number.Goals as goal

pub returns-clause-value : goal.returns-clause-value
returns-clause-value c = λ pairs are.
    let here = c.in_ok-own.own.now in
    let value = c.in_ok-own.value.now in
    let yes : is_at (byte_cmp c.args.key.now) here ≡ true = let t = c.if-not-is_same.false in let e = c.is_same.ensures in cc in
    sym (c.in_ok-own.ensures.pair pairs are) ∙ ap (λ (k : List ℕ). some_pair (k, value)) (sym (same_key c.args.key.now here yes))
