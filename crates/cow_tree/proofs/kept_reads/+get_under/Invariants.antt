use Rattle.cow_tree.proofs.kept_reads.+get_under.Given as goal

abbrev pub decreases-get_under : goal.decreases-get_under
decreases-get_under g l = l.level
