use Rattle.std.proofs.Common.{◌≡◌, List, Some, refl, subst}
use Rattle.std.specs.Prelude.{IfSome, slice_get}
use Rattle.page_store.specs.Pages.{Pair, pair_at}
use Rattle.tree_nodes.specs.PageViews.{bounds_of, entries_by_head}
use Rattle.cow_tree.proofs.PagesTold.{pairs_told}
use Rattle.cow_tree.proofs.kept_reads.numbered_value.Goals as goal

pub returns-in-Ok-clause-value : goal.returns-in-Ok-clause-value
returns-in-Ok-clause-value c = λ view found is are walked.
    subst (λ (l : List Pair). IfSome c.value_by_number.result (λ v. slice_get l c.args.number ≡ Some (c.args.key.now, v.now)))
    (pairs_told view (bounds_of c.args.bounds) c.args.page found c.args.bytes.now is walked)
    (c.value_by_number.ensures.value (entries_by_head pair_at c.args.bytes.now) (are.pairs refl))
