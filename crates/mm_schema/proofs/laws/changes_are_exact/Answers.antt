use Rattle.mm_schema.proofs.ChangedRows.{row_stays, row_comes, no_other_row}
use Rattle.mm_schema.proofs.laws.changes_are_exact.Goals as goal

pub returns-clause-stays : goal.returns-clause-stays
returns-clause-stays c = row_stays

pub returns-clause-comes : goal.returns-clause-comes
returns-clause-comes c = row_comes

pub returns-clause-no_other : goal.returns-clause-no_other
returns-clause-no_other c = no_other_row
