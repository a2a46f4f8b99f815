use Rattle.std.proofs.Common.{◌≡◌, None, sym, ◌∙◌}
use Rattle.page_store.specs.Content.{place_in}
use Rattle.page_store.specs.Heads.{seen_head}
use Rattle.page_store.specs.Pages.{child_at}
use Rattle.tree_nodes.specs.PageViews.{bounds_of, children_in}
use Rattle.tree_nodes.proofs.PageForm.{no_head, no_entries, other_place, more_bytes, entries_formed, no_branch, branch_formed, branch_unformed}
use Rattle.tree_nodes.proofs.page_views.branch_in.Goals as goal

pub returns-in_err-head : goal.returns-in_err-head
returns-in_err-head c =
    let e : c.from_residual.result ≡ None = c.from_residual.ensures in
    rw e (no_branch (place_in (bounds_of c.args.bounds) c.args.level c.args.page) c.args.bytes.now (no_head child_at (place_in (bounds_of c.args.bounds) c.args.level c.args.page) c.args.bytes.now c.in_err-head.ensures))

pub returns-in_err-rest : goal.returns-in_err-rest
returns-in_err-rest c =
    let e : c.from_residual-in_err-rest.result ≡ None = c.from_residual-in_err-rest.ensures in
    rw e (no_branch (place_in (bounds_of c.args.bounds) c.args.level c.args.page) c.args.bytes.now (no_entries child_at (place_in (bounds_of c.args.bounds) c.args.level c.args.page) c.args.bytes.now (seen_head c.in_ok-head.head, c.in_ok-head.entries.now) c.in_ok-head.ensures c.in_err-rest.ensures))

pub returns-then-not-fits_place : goal.returns-then-not-fits_place
returns-then-not-fits_place c = no_branch (place_in (bounds_of c.args.bounds) c.args.level c.args.page) c.args.bytes.now (other_place child_at (place_in (bounds_of c.args.bounds) c.args.level c.args.page) c.args.bytes.now (seen_head c.in_ok-head.head, c.in_ok-head.entries.now) c.in_ok-rest.rest.now c.in_ok-head.ensures c.in_ok-rest.ensures (sym c.fits_place.ensures ∙ c.if-not-fits_place.true))

pub returns-then-not-are_zero : goal.returns-then-not-are_zero
returns-then-not-are_zero c = no_branch (place_in (bounds_of c.args.bounds) c.args.level c.args.page) c.args.bytes.now (more_bytes child_at (place_in (bounds_of c.args.bounds) c.args.level c.args.page) c.args.bytes.now (seen_head c.in_ok-head.head, c.in_ok-head.entries.now) c.in_ok-rest.rest.now c.in_ok-head.ensures c.in_ok-rest.ensures (sym c.are_zero.ensures ∙ c.if-not-are_zero.true))

pub returns-then-not-are_children : goal.returns-then-not-are_children
returns-then-not-are_children c = branch_unformed (place_in (bounds_of c.args.bounds) c.args.level c.args.page) c.args.bytes.now (children_in c.in_ok-head.head.count c.in_ok-head.entries.now) (entries_formed child_at (place_in (bounds_of c.args.bounds) c.args.level c.args.page) c.args.bytes.now (seen_head c.in_ok-head.head, c.in_ok-head.entries.now) c.in_ok-rest.rest.now c.in_ok-head.ensures c.in_ok-rest.ensures (sym c.fits_place.ensures ∙ c.if-not-fits_place.false) (sym c.are_zero.ensures ∙ c.if-not-are_zero.false)) (sym c.are_children.ensures ∙ c.if-not-are_children.true)

pub returns : goal.returns
returns c = branch_formed (place_in (bounds_of c.args.bounds) c.args.level c.args.page) c.args.bytes.now (children_in c.in_ok-head.head.count c.in_ok-head.entries.now) (entries_formed child_at (place_in (bounds_of c.args.bounds) c.args.level c.args.page) c.args.bytes.now (seen_head c.in_ok-head.head, c.in_ok-head.entries.now) c.in_ok-rest.rest.now c.in_ok-head.ensures c.in_ok-rest.ensures (sym c.fits_place.ensures ∙ c.if-not-fits_place.false) (sym c.are_zero.ensures ∙ c.if-not-are_zero.false)) (sym c.are_children.ensures ∙ c.if-not-are_children.false)
