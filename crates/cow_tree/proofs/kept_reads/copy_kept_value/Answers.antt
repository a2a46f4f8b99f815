use Rattle.std.proofs.Common.{◌≤◌, ℕ, List, Some, length, refl, sym, ap, ◌∙◌, arith}
use Rattle.page_store.specs.Pages.{Pair, pair_at}
use Rattle.page_store.specs.Batch.{value_at}
use Rattle.tree_nodes.specs.PageViews.{bounds_of, entries_by_head}
use Rattle.cow_tree.proofs.PagesTold.{leaf_head_told, pairs_rise, pairs_told}
use Rattle.cow_tree.proofs.kept_reads.copy_kept_value.Goals as goal

pub returns-in_err-leaf_by_head-clause-value : goal.returns-in_err-leaf_by_head-clause-value
returns-in_err-leaf_by_head-clause-value c = λ view found is are walked.
    let size : length c.args.bytes.now ≤ 4096 = let long = c.told-bytes in omega (arith, long) in
    let both = sym c.in_err-leaf_by_head.ensures.fault.1 ∙ leaf_head_told view (bounds_of c.args.bounds) c.args.page found c.args.bytes.now is size walked in
    absurd (cc both)

pub returns-in_default-clause-value : goal.returns-in_default-clause-value
returns-in_default-clause-value c = λ view found is are walked.
    let bytes = c.args.bytes.now in
    c.in_default.ensures.value (entries_by_head pair_at bytes) (are.pairs refl) (pairs_rise view (bounds_of c.args.bounds) c.args.page found bytes is walked)
    ∙ ap (λ (l : List Pair). value_at l c.args.key.now) (pairs_told view (bounds_of c.args.bounds) c.args.page found bytes is walked)

pub returns-clause-value : goal.returns-clause-value
returns-clause-value c = λ view found is are walked.
    let bytes = c.args.bytes.now in
    let there = c.in-Some.ensures.value (entries_by_head pair_at bytes) (are.pairs refl) (pairs_rise view (bounds_of c.args.bounds) c.args.page found bytes is walked)
    ∙ ap (λ (l : List Pair). value_at l c.args.key.now) (pairs_told view (bounds_of c.args.bounds) c.args.page found bytes is walked) in
    ap (λ (v : List ℕ). Some v) c.put_in_front.ensures.front ∙ there
