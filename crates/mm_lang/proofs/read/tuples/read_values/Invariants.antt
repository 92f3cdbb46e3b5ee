use Rattle.std.proofs.Common.{length}
use Rattle.mm_lang.specs.declared.read.phrase.Separator.TheVariants.{Comma}
use Rattle.mm_lang.specs.Grammar.{literal_of}
use Rattle.mm_lang.specs.Phrases.{one}
use Rattle.mm_lang.specs.steps.Parsing.{only_literal}
use Rattle.mm_lang.proofs.Lists.{InItems}
use Rattle.mm_lang.proofs.read.tuples.read_values.Given as goal

abbrev pub invariant-loop-reader : goal.invariant-loop-reader
invariant-loop-reader l = InItems Comma (one literal_of) only_literal l.initial.reader l.reader l.initial.tuple l.tuple

abbrev pub decreases-loop-reader : goal.decreases-loop-reader
decreases-loop-reader l = length l.reader.rest
