use Rattle.std.proofs.Common.{◌≤◌, length, refl, sym, ◌∙◌, arith}
use Rattle.page_store.specs.Pages.{child_at}
use Rattle.tree_nodes.specs.PageViews.{bounds_of, entries_by_head}
use Rattle.cow_tree.proofs.PagesTold.{branch_head_told, children_rise, way_told, around_there, around_is_inside}
use Rattle.cow_tree.proofs.kept_reads.around_kept.Goals as goal

pub returns-in_err-branch_by_head-clause-way : goal.returns-in_err-branch_by_head-clause-way
returns-in_err-branch_by_head-clause-way c = λ view found is are walked.
    let size : length c.args.bytes.now ≤ 4096 = let long = c.told-bytes in omega (arith, long) in
    let both = sym c.in_err-branch_by_head.ensures.fault.1 ∙ branch_head_told view (bounds_of c.args.bounds) c.args.page found c.args.level c.requires walked c.args.key.now c.args.bytes.now is size in
    absurd (cc both)

pub returns-in-Some-clause-way : goal.returns-in-Some-clause-way
returns-in-Some-clause-way c = λ view found is are walked.
    let b = bounds_of c.args.bounds in
    let key = c.args.key.now in
    let bytes = c.args.bytes.now in
    let size : length bytes ≤ 4096 = let long = c.told-bytes in omega (arith, long) in
    let rise = children_rise view b c.args.page found c.args.level c.requires walked key bytes is size in
    let children = entries_by_head child_at bytes in
    way_told view b c.args.page found c.args.level c.requires walked key bytes children is refl c.in-Some.around
    (sym (c.in-Some.ensures children (are.children c.requires) rise.1 rise.0))

pub returns-in_default-clause-way : goal.returns-in_default-clause-way
returns-in_default-clause-way c = λ view found is are walked.
    let b = bounds_of c.args.bounds in
    let key = c.args.key.now in
    let bytes = c.args.bytes.now in
    let size : length bytes ≤ 4096 = let long = c.told-bytes in omega (arith, long) in
    let rise = children_rise view b c.args.page found c.args.level c.requires walked key bytes is size in
    let children = entries_by_head child_at bytes in
    around_is_inside view b c.args.page found c.args.level c.requires walked key bytes is size c.in-Some.around
    (c.in-Some.ensures children (are.children c.requires) rise.1 rise.0) (sym c.are_inside.ensures ∙ c.if-are_inside.false)

pub returns-in_default-2-clause-way : goal.returns-in_default-2-clause-way
returns-in_default-2-clause-way c = λ view found is are walked.
    let b = bounds_of c.args.bounds in
    let key = c.args.key.now in
    let bytes = c.args.bytes.now in
    let size : length bytes ≤ 4096 = let long = c.told-bytes in omega (arith, long) in
    let rise = children_rise view b c.args.page found c.args.level c.requires walked key bytes is size in
    let children = entries_by_head child_at bytes in
    around_there view b c.args.page found c.args.level c.requires walked key bytes children is refl
    (c.in_default.ensures children (are.children c.requires) rise.1 rise.0)
