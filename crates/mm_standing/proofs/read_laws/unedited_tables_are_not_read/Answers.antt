use Rattle.mm_standing.proofs.ReadExamples.{unedited}
use Rattle.mm_standing.proofs.read_laws.unedited_tables_are_not_read.Goals as goal

pub returns : goal.returns
returns c = unedited
