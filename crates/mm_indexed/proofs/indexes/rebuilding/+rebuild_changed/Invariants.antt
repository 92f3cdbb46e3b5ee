use Rattle.std.proofs.Common.{length}
use Rattle.mm_indexed.proofs.indexes.rebuilding.+rebuild_changed.Given as goal

abbrev pub decreases-rebuild_changed : goal.decreases-rebuild_changed
decreases-rebuild_changed l = length l.indexes.now
