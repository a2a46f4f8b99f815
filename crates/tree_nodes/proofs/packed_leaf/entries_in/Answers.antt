use Rattle.std.proofs.Common.{◌≡◌, List, ℕ, map, Some, None, sym, ap, ◌∙◌}
use Rattle.page_store.specs.Content.{place_in}
use Rattle.page_store.specs.Keys.{rises}
use Rattle.page_store.specs.Heads.{seen_head}
use Rattle.page_store.specs.Pages.{Pair, Head, key_of, pair_at}
use Rattle.tree_nodes.specs.PageViews.{bounds_of, pairs_in}
use Rattle.tree_nodes.proofs.PageForm.{no_head, no_entries, other_place, more_bytes, entries_formed, no_leaf, leaf_formed, leaf_falls}
use Rattle.tree_nodes.proofs.packed_leaf.entries_in.Goals as goal

pub returns-in_err-head : goal.returns-in_err-head
returns-in_err-head c =
    let e : c.from_residual.result ≡ None = c.from_residual.ensures in
    rw e (no_leaf (place_in (bounds_of c.args.bounds) 0 c.args.page) c.args.bytes.now (no_head pair_at (place_in (bounds_of c.args.bounds) 0 c.args.page) c.args.bytes.now c.in_err-head.ensures))

pub returns-in_err-packed : goal.returns-in_err-packed
returns-in_err-packed c =
    let e : c.from_residual-in_err-packed.result ≡ None = c.from_residual-in_err-packed.ensures in
    rw e (no_leaf (place_in (bounds_of c.args.bounds) 0 c.args.page) c.args.bytes.now (no_entries pair_at (place_in (bounds_of c.args.bounds) 0 c.args.page) c.args.bytes.now (seen_head c.in_ok-head.head, c.in_ok-head.entries.now) c.in_ok-head.ensures c.in_err-packed.ensures.parts))

pub returns-then-not-fits_place : goal.returns-then-not-fits_place
returns-then-not-fits_place c = no_leaf (place_in (bounds_of c.args.bounds) 0 c.args.page) c.args.bytes.now (other_place pair_at (place_in (bounds_of c.args.bounds) 0 c.args.page) c.args.bytes.now (seen_head c.in_ok-head.head, c.in_ok-head.entries.now) c.in_ok-packed.rest.now c.in_ok-head.ensures c.in_ok-packed.ensures.parts (sym c.fits_place.ensures ∙ c.if-not-fits_place.true))

pub returns-then-not-are_zero : goal.returns-then-not-are_zero
returns-then-not-are_zero c = no_leaf (place_in (bounds_of c.args.bounds) 0 c.args.page) c.args.bytes.now (more_bytes pair_at (place_in (bounds_of c.args.bounds) 0 c.args.page) c.args.bytes.now (seen_head c.in_ok-head.head, c.in_ok-head.entries.now) c.in_ok-packed.rest.now c.in_ok-head.ensures c.in_ok-packed.ensures.parts (sym c.are_zero.ensures ∙ c.if-not-are_zero.true))

pub returns-then-not-keys_rise : goal.returns-then-not-keys_rise
returns-then-not-keys_rise c =
    let place = place_in (bounds_of c.args.bounds) 0 c.args.page in
    let head : Head × List ℕ = (seen_head c.in_ok-head.head, c.in_ok-head.entries.now) in
    let formed = entries_formed pair_at place c.args.bytes.now head c.in_ok-packed.rest.now c.in_ok-head.ensures c.in_ok-packed.ensures.parts (sym c.fits_place.ensures ∙ c.if-not-fits_place.false) (sym c.are_zero.ensures ∙ c.if-not-are_zero.false) in
    leaf_falls place c.args.bytes.now (pairs_in head.0.count head.1) formed (sym (ap (λ (ps : List Pair). rises (map key_of ps)) (c.of_entries.ensures ∙ c.in_ok-packed.ensures.pairs)) ∙ sym c.keys_rise.ensures ∙ c.if-not-keys_rise.true)

pub returns : goal.returns
returns c =
    let place = place_in (bounds_of c.args.bounds) 0 c.args.page in
    let head : Head × List ℕ = (seen_head c.in_ok-head.head, c.in_ok-head.entries.now) in
    let formed = entries_formed pair_at place c.args.bytes.now head c.in_ok-packed.rest.now c.in_ok-head.ensures c.in_ok-packed.ensures.parts (sym c.fits_place.ensures ∙ c.if-not-fits_place.false) (sym c.are_zero.ensures ∙ c.if-not-are_zero.false) in
    let rise = sym (ap (λ (ps : List Pair). rises (map key_of ps)) (c.of_entries.ensures ∙ c.in_ok-packed.ensures.pairs)) ∙ sym c.keys_rise.ensures ∙ c.if-not-keys_rise.false in
    (leaf_formed place c.args.bytes.now (pairs_in head.0.count head.1) formed rise ∙ ap (λ (ps : List Pair). Some ps) (sym c.in_ok-packed.ensures.pairs), c.in_ok-packed.ensures.packed)
