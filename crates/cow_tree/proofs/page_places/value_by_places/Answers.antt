use Rattle.std.proofs.Common.{◌≡◌, Bool, true, false, Some, None, cond, map, ap, ◌∙◌, sym, arith}
use Rattle.std.specs.BTreeMap.{is_at}
use Rattle.common_types.specs.ByteOrder.{byte_cmp}
use Rattle.page_store.specs.Pages.{key_of, pair_at}
use Rattle.cow_tree.specs.KeptPlaces.{entry_from, count_upto}
use Rattle.cow_tree.proofs.PlacesFound.{keys_found}
use Rattle.cow_tree.proofs.SearchedByHalves.{count_is, value_nowhere, pair_counted, value_counted}
use Rattle.cow_tree.proofs.page_places.value_by_places.Goals as goal

pub returns-then-count-lt1-clause-value : goal.returns-then-count-lt1-clause-value
returns-then-count-lt1-clause-value c = λ pairs are rising.
    let found = keys_found (entry_from pair_at c.args.bytes.now) key_of pairs c.args.places.now.count c.args.places.now.at are in
    let is = count_is c.in_ok-count.count (count_upto c.args.key.now (map key_of pairs)) (c.in_ok-count.ensures (map key_of pairs) found rising) in
    let few = c.if-count-lt1.true in
    sym (value_nowhere c.args.key.now pairs rising (omega (arith, is, few)))

pub returns-in_err-here-clause-value : goal.returns-in_err-here-clause-value
returns-in_err-here-clause-value c = λ pairs are rising.
    let found = keys_found (entry_from pair_at c.args.bytes.now) key_of pairs c.args.places.now.count c.args.places.now.at are in
    let is = count_is c.in_ok-count.count (count_upto c.args.key.now (map key_of pairs)) (c.in_ok-count.ensures (map key_of pairs) found rising) in
    let few = c.if-count-lt1.false in
    absurd (pair_counted c.args.key.now pairs c.in_ok-count.count is (omega (arith, few)) (c.in_err-here.ensures.pair pairs are))

pub returns-then-not-is_same-clause-value : goal.returns-then-not-is_same-clause-value
returns-then-not-is_same-clause-value c = λ pairs are rising.
    let found = keys_found (entry_from pair_at c.args.bytes.now) key_of pairs c.args.places.now.count c.args.places.now.at are in
    let is = count_is c.in_ok-count.count (count_upto c.args.key.now (map key_of pairs)) (c.in_ok-count.ensures (map key_of pairs) found rising) in
    let few = c.if-count-lt1.false in
    let here = c.in_ok-here.here.now in
    let no : is_at (byte_cmp c.args.key.now) here ≡ false = let t = c.if-not-is_same.true in let e = c.is_same.ensures in cc in
    sym (value_counted c.args.key.now pairs c.in_ok-count.count (here, c.in_ok-here.value.now) rising is (omega (arith, few)) (c.in_ok-here.ensures.pair pairs are) ∙ ap (λ (b : Bool). cond b (Some c.in_ok-here.value.now) None) no)

pub returns-clause-value : goal.returns-clause-value
returns-clause-value c = λ pairs are rising.
    let found = keys_found (entry_from pair_at c.args.bytes.now) key_of pairs c.args.places.now.count c.args.places.now.at are in
    let is = count_is c.in_ok-count.count (count_upto c.args.key.now (map key_of pairs)) (c.in_ok-count.ensures (map key_of pairs) found rising) in
    let few = c.if-count-lt1.false in
    let here = c.in_ok-here.here.now in
    let yes : is_at (byte_cmp c.args.key.now) here ≡ true = let t = c.if-not-is_same.false in let e = c.is_same.ensures in cc in
    sym (value_counted c.args.key.now pairs c.in_ok-count.count (here, c.in_ok-here.value.now) rising is (omega (arith, few)) (c.in_ok-here.ensures.pair pairs are) ∙ ap (λ (b : Bool). cond b (Some c.in_ok-here.value.now) None) yes)
