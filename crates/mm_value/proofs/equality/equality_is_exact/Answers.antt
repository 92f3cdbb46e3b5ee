-- Equality of values and of rows is exact.
use Rattle.mm_value.proofs.SameRows.{values_exact, rows_exact}
use Rattle.mm_value.proofs.equality.equality_is_exact.Goals as goal

pub returns-clause-values : goal.returns-clause-values
returns-clause-values c = values_exact

pub returns-clause-rows : goal.returns-clause-rows
returns-clause-rows c = rows_exact
