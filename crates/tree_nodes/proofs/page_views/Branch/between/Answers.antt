use Rattle.std.proofs.Common.{refl, sym, ◌∙◌}
use Rattle.std.proofs.lemmas.Result.{err_from_is_err_and}
use Rattle.std.specs.Prelude.{option_copied}
use Rattle.page_store.specs.Content.{place_in}
use Rattle.tree_nodes.specs.PageViews.{bounds_of, children_in}
use Rattle.tree_nodes.proofs.BoundedPages.{branch_inside, branch_outside, no_branch_between}
use Rattle.tree_nodes.proofs.page_views.Branch.between.Goals as goal

pub returns-in_err-branch-clause-fault : goal.returns-in_err-branch-clause-fault
returns-in_err-branch-clause-fault c =
    let p = err_from_is_err_and c.from_residual.result c.from_residual.ensures.1 in
    rw (p.1, p.2) (c.in_err-branch.ensures.fault.0, no_branch_between (place_in (bounds_of c.args.bounds) c.args.level c.args.page) c.args.low.now (option_copied c.args.high) c.args.bytes.now c.in_err-branch.ensures.fault.1)

pub returns-then-not-lies_between-clause-fault : goal.returns-then-not-lies_between-clause-fault
returns-then-not-lies_between-clause-fault c = (
  refl,
  branch_outside (place_in (bounds_of c.args.bounds) c.args.level c.args.page) c.args.low.now (option_copied c.args.high) c.args.bytes.now (children_in c.in_ok-branch.branch.count c.in_ok-branch.branch.entries.now) c.in_ok-branch.ensures.children (sym c.lies_between.ensures ∙ c.if-not-lies_between.true),
)

pub returns-clause-children : goal.returns-clause-children
returns-clause-children c =
    branch_inside (place_in (bounds_of c.args.bounds) c.args.level c.args.page) c.args.low.now (option_copied c.args.high) c.args.bytes.now (children_in c.in_ok-branch.branch.count c.in_ok-branch.branch.entries.now) c.in_ok-branch.ensures.children (sym c.lies_between.ensures ∙ c.if-not-lies_between.false)
