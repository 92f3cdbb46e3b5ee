use Rattle.mm_relevance.proofs.Adding.{adds_nothing}
use Rattle.mm_relevance.proofs.law.cyclic_rows_add_nothing.Goals as goal

pub returns : goal.returns
returns c = adds_nothing
