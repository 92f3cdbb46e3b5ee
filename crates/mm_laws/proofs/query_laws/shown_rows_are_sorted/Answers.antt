use Rattle.mm_laws.proofs.QueryLaws.{shown_exact, shown_permutation, shown_sorted, shown_total}
use Rattle.mm_laws.proofs.SortedRows.{shown_of_permutation, shown_once_is_dedup, shown_once_of_permutation}
use Rattle.mm_laws.proofs.query_laws.shown_rows_are_sorted.Goals as goal

pub returns-clause-permutation : goal.returns-clause-permutation
returns-clause-permutation c = shown_permutation

pub returns-clause-sorted : goal.returns-clause-sorted
returns-clause-sorted c = shown_sorted

pub returns-clause-total : goal.returns-clause-total
returns-clause-total c = shown_total

pub returns-clause-exact : goal.returns-clause-exact
returns-clause-exact c = shown_exact

pub returns-clause-unique : goal.returns-clause-unique
returns-clause-unique c = shown_of_permutation

pub returns-clause-unique_once : goal.returns-clause-unique_once
returns-clause-unique_once c = shown_once_of_permutation

pub returns-clause-neighbours : goal.returns-clause-neighbours
returns-clause-neighbours c = shown_once_is_dedup
