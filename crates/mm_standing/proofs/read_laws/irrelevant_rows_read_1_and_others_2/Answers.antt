use Rattle.mm_standing.proofs.ReadExamples.{below_is_cyclic, irrelevant, relevant}
use Rattle.mm_standing.proofs.ReadSamples.{added_beside_four}
use Rattle.mm_standing.proofs.read_laws.irrelevant_rows_read_1_and_others_2.Goals as goal

pub returns-clause-cyclic : goal.returns-clause-cyclic
returns-clause-cyclic c = below_is_cyclic

pub returns-clause-irrelevant : goal.returns-clause-irrelevant
returns-clause-irrelevant c = irrelevant

pub returns-clause-relevant : goal.returns-clause-relevant
returns-clause-relevant c = relevant

pub returns-clause-there_are : goal.returns-clause-there_are
returns-clause-there_are c = added_beside_four
