use Rattle.mm_standing.proofs.ReadExamples.{triples}
use Rattle.mm_standing.proofs.read_laws.triples_of_equal_numbers_read_27.Goals as goal

pub returns : goal.returns
returns c = triples
