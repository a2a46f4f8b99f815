use Rattle.node_tests.proofs.store.+pairs_under.Given as goal

abbrev pub decreases-pairs_under : goal.decreases-pairs_under
decreases-pairs_under l = l.level
