use Rattle.std.proofs.Common.{length}
use Rattle.mm_lang.proofs.Lists.{InItems}
use Rattle.mm_lang.proofs.read.phrase.read_list.Given as goal

abbrev pub invariant-loop-reader : goal.invariant-loop-reader
invariant-loop-reader g l = InItems l.separator g.P.Phrase.reading g.P.Phrase.literals l.initial.reader l.reader l.initial.items.items l.items.items

abbrev pub decreases-loop-reader : goal.decreases-loop-reader
decreases-loop-reader g l = length l.reader.rest
