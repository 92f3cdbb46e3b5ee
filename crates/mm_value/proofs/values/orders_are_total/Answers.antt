-- The two orders are total, and only equal values tie.
use Rattle.mm_value.proofs.Orders.{value_cmp_total, value_cmp_exact, row_cmp_total, row_cmp_exact}
use Rattle.mm_value.proofs.values.orders_are_total.Goals as goal

pub returns-clause-values : goal.returns-clause-values
returns-clause-values c = value_cmp_total

pub returns-clause-values_exact : goal.returns-clause-values_exact
returns-clause-values_exact c = value_cmp_exact

pub returns-clause-rows : goal.returns-clause-rows
returns-clause-rows c = row_cmp_total

pub returns-clause-rows_exact : goal.returns-clause-rows_exact
returns-clause-rows_exact c = row_cmp_exact
