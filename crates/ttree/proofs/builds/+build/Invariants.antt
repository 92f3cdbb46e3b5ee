use Rattle.ttree.proofs.builds.+build.Given as goal

abbrev pub decreases-build : goal.decreases-build
decreases-build l = l.nodes
