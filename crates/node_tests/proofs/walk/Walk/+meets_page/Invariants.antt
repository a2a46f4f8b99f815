use Rattle.node_tests.proofs.walk.Walk.+meets_page.Given as goal

abbrev pub decreases-meets_page : goal.decreases-meets_page
decreases-meets_page l = l.level
