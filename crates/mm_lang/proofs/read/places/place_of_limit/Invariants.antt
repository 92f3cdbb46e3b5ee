use Rattle.std.proofs.Common.{length}
use Rattle.mm_lang.proofs.read.places.place_of_limit.Given as goal

abbrev pub decreases-loop-token : goal.decreases-loop-token
decreases-loop-token l = length l.rest
