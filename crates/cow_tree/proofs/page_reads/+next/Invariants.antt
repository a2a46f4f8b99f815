use Rattle.std.proofs.Common.{◌*◌, ◌+◌}
use Rattle.cow_tree.proofs.page_reads.+next.Given as goal

abbrev pub decreases-leaf_in_sibling : goal.decreases-leaf_in_sibling
decreases-leaf_in_sibling g l = 2 * l.level + 1

abbrev pub decreases-leaf_after : goal.decreases-leaf_after
decreases-leaf_after g l = 2 * l.level
