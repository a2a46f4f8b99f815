use Rattle.std.proofs.Common.{rules}
use Rattle.std.proofs.lemmas.List.Sorted.{IsNonDecreasingBy-from_sort_by_key, IsPermutation-trans}
use Rattle.folder_import.proofs.Newest.{newest_of}
use Rattle.folder_import.proofs.found.newest_first.Goals as goal

pub returns-clause-same : goal.returns-clause-same
returns-clause-same c = IsPermutation-trans _ _ _ c.sort_by.ensures.permutation (IsPermutation-trans _ _ _ c.sort_by_key.ensures.permutation c.reverse.ensures.permutation)

pub returns-clause-newest : goal.returns-clause-newest
returns-clause-newest c = newest_of _ _ c.reverse.ensures.items (IsNonDecreasingBy-from_sort_by_key (λ one. one.time) _ c.in_ok-sort_by_key.ensures.sorted (λ a r q k. search rules))
