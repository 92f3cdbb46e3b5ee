use Rattle.std.proofs.Common.{◌-◌, length}
use Rattle.mm_lang.proofs.Texts.{Within}
use Rattle.mm_lang.proofs.read.token.split_text.Given as goal

abbrev pub invariant-loop-len : goal.invariant-loop-len
invariant-loop-len l = Within l.bytes l.end

abbrev pub decreases-loop-len : goal.decreases-loop-len
decreases-loop-len l = length l.bytes - l.end
