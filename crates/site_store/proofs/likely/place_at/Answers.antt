use Rattle.std.proofs.Common.{rules, ◌≡◌, sym, ◌∙◌}
use Rattle.std.proofs.lemmas.Slice.Eq.{bytes_eq-Decides}
use Rattle.std.proofs.lemmas.Fn.{always_returns_same}
use Rattle.host_types.specs.Site.{byte_cmp}
use Rattle.site_store.proofs.PairsFound.{searched, found_place, no_place, likely_place}
use Rattle.site_store.proofs.likely.place_at.Goals as goal

pub returns-in-Ok : goal.returns-in-Ok
returns-in-Ok c =
    let pairs = c.args.pairs.now in
    let key = c.args.key.now in
    let by_key = c.binary_search_by.ensures.position (λ p. byte_cmp p.0 key) (always_returns_same _ _ _ (λ a r g called. search rules)) in
    found_place key pairs c.binary_search_by.result c.in-Ok.place c.in-Ok.is c.binary_search_by.ensures.bound (searched key pairs c.binary_search_by.result c.requires c.binary_search_by.ensures.bound by_key)

pub returns-in-Err : goal.returns-in-Err
returns-in-Err c =
    let pairs = c.args.pairs.now in
    let key = c.args.key.now in
    let by_key = c.binary_search_by.ensures.position (λ p. byte_cmp p.0 key) (always_returns_same _ _ _ (λ a r g called. search rules)) in
    no_place key pairs c.binary_search_by.result c.in-Err.field-0 c.in-Err.is (searched key pairs c.binary_search_by.result c.requires c.binary_search_by.ensures.bound by_key)

pub returns-then-are_same : goal.returns-then-are_same
returns-then-are_same c =
    let pair = c.index-pairs-likely.result in
    let same : pair.0 ≡ c.args.key.now = sym c.key.ensures ∙ (bytes_eq-Decides c.key.result.now c.args.key.now).0 (sym c.are_same.ensures ∙ c.if-are_same.true) in
    likely_place c.args.key.now c.args.pairs.now c.args.likely pair c.requires c.if-likely-pairs.true c.index-pairs-likely.is same
