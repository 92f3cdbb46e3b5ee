use Rattle.mm_standing.proofs.ReadExamples.{along_index, without_index}
use Rattle.mm_standing.proofs.ReadSamples.{third_five_added}
use Rattle.mm_standing.proofs.read_laws.pairs_of_equal_numbers_read_6_or_8.Goals as goal

pub returns-clause-along_index : goal.returns-clause-along_index
returns-clause-along_index c = along_index

pub returns-clause-without_index : goal.returns-clause-without_index
returns-clause-without_index c = without_index

pub returns-clause-there_are : goal.returns-clause-there_are
returns-clause-there_are c = third_five_added
