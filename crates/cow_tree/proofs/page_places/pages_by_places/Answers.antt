use Rattle.std.proofs.Common.{map, arith}
use Rattle.page_store.specs.Pages.{child_key, child_at}
use Rattle.cow_tree.specs.KeptPlaces.{entry_from, count_upto}
use Rattle.cow_tree.proofs.PlacesFound.{keys_found}
use Rattle.cow_tree.proofs.SearchedByHalves.{count_is, some_upto, page_there, around_counted}
use Rattle.cow_tree.proofs.page_places.pages_by_places.Goals as goal

pub returns-then-count-lt1 : goal.returns-then-count-lt1
returns-then-count-lt1 c = λ children are rising starts.
    let found = keys_found (entry_from child_at c.args.bytes.now) child_key children c.args.places.now.count c.args.places.now.at are in
    let is = count_is c.in_ok-count.count (count_upto c.args.key.now (map child_key children)) (c.in_ok-count.ensures (map child_key children) found rising) in
    let few = c.if-count-lt1.true in
    absurd (some_upto c.args.key.now children starts (omega (arith, is, few)))

pub returns-in_err-page : goal.returns-in_err-page
returns-in_err-page c = λ children are rising starts.
    let found = keys_found (entry_from child_at c.args.bytes.now) child_key children c.args.places.now.count c.args.places.now.at are in
    let is = count_is c.in_ok-count.count (count_upto c.args.key.now (map child_key children)) (c.in_ok-count.ensures (map child_key children) found rising) in
    let few = c.if-count-lt1.false in
    absurd (page_there c.args.key.now children c.in_ok-count.count is (omega (arith, few)) (c.in_err-page.ensures children are))

pub returns : goal.returns
returns c = λ children are rising starts.
    let found = keys_found (entry_from child_at c.args.bytes.now) child_key children c.args.places.now.count c.args.places.now.at are in
    let is = count_is c.in_ok-count.count (count_upto c.args.key.now (map child_key children)) (c.in_ok-count.ensures (map child_key children) found rising) in
    let few = c.if-count-lt1.false in
    around_counted c.args.key.now children c.in_ok-count.count c.in_ok-page.page c.page_by_number-2.result is (omega (arith, few)) (c.in_ok-page.ensures children are) (c.page_by_number-2.ensures children are)
