use Rattle.std.proofs.Common.{◌≡◌, None, sym, ◌∙◌}
use Rattle.std.specs.Prelude.{option_copied}
use Rattle.page_store.specs.Content.{place_in}
use Rattle.page_store.specs.Heads.{seen_head}
use Rattle.tree_nodes.specs.PageViews.{bounds_of}
use Rattle.tree_nodes.proofs.LeafWalks.{no_head_between, unformed, elsewhere, not_ended, formed}
use Rattle.tree_nodes.proofs.page_views.leaf_between.Goals as goal

pub returns-in_err-head-clause-pairs : goal.returns-in_err-head-clause-pairs
returns-in_err-head-clause-pairs c =
    let e : c.from_residual.result ≡ None = c.from_residual.ensures in
    rw e (no_head_between (place_in (bounds_of c.args.bounds) 0 c.args.page) c.args.low.now (option_copied c.args.high) c.args.bytes.now c.in_err-head.ensures)

pub returns-in_err-rest-clause-pairs : goal.returns-in_err-rest-clause-pairs
returns-in_err-rest-clause-pairs c =
    let e : c.from_residual-in_err-rest.result ≡ None = c.from_residual-in_err-rest.ensures in
    rw e (unformed (place_in (bounds_of c.args.bounds) 0 c.args.page) c.args.low.now (option_copied c.args.high) c.args.bytes.now (seen_head c.in_ok-head.head, c.in_ok-head.entries.now) c.in_ok-head.ensures c.in_err-rest.ensures)

pub returns-then-not-fits_place-clause-pairs : goal.returns-then-not-fits_place-clause-pairs
returns-then-not-fits_place-clause-pairs c =
    elsewhere (place_in (bounds_of c.args.bounds) 0 c.args.page) c.args.low.now (option_copied c.args.high) c.args.bytes.now (seen_head c.in_ok-head.head, c.in_ok-head.entries.now) c.in_ok-rest.rest.now c.in_ok-head.ensures c.in_ok-rest.ensures (sym c.fits_place.ensures ∙ c.if-not-fits_place.true)

pub returns-then-not-are_zero-clause-pairs : goal.returns-then-not-are_zero-clause-pairs
returns-then-not-are_zero-clause-pairs c =
    not_ended (place_in (bounds_of c.args.bounds) 0 c.args.page) c.args.low.now (option_copied c.args.high) c.args.bytes.now (seen_head c.in_ok-head.head, c.in_ok-head.entries.now) c.in_ok-rest.rest.now c.in_ok-head.ensures c.in_ok-rest.ensures (sym c.are_zero.ensures ∙ c.if-not-are_zero.true)

pub returns-clause-pairs : goal.returns-clause-pairs
returns-clause-pairs c =
    (formed (place_in (bounds_of c.args.bounds) 0 c.args.page) c.args.low.now (option_copied c.args.high) c.args.bytes.now (seen_head c.in_ok-head.head, c.in_ok-head.entries.now) c.in_ok-rest.rest.now c.in_ok-head.ensures c.in_ok-rest.ensures
    (sym c.fits_place.ensures ∙ c.if-not-fits_place.false) (sym c.are_zero.ensures ∙ c.if-not-are_zero.false)).0

pub returns-clause-count : goal.returns-clause-count
returns-clause-count c =
    (formed (place_in (bounds_of c.args.bounds) 0 c.args.page) c.args.low.now (option_copied c.args.high) c.args.bytes.now (seen_head c.in_ok-head.head, c.in_ok-head.entries.now) c.in_ok-rest.rest.now c.in_ok-head.ensures c.in_ok-rest.ensures
    (sym c.fits_place.ensures ∙ c.if-not-fits_place.false) (sym c.are_zero.ensures ∙ c.if-not-are_zero.false)).1
