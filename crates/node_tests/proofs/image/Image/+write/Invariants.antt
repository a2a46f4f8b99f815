use Rattle.node_tests.proofs.image.Image.+write.Given as goal

abbrev pub decreases-write : goal.decreases-write
decreases-write l = l.level
