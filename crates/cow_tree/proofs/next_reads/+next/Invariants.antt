use Rattle.std.proofs.Common.{◌*◌, ◌+◌}
use Rattle.cow_tree.proofs.next_reads.+next.Given as goal

abbrev pub decreases-next_in_sibling : goal.decreases-next_in_sibling
decreases-next_in_sibling g l = 2 * l.level + 1

abbrev pub decreases-next_under : goal.decreases-next_under
decreases-next_under g l = 2 * l.level
