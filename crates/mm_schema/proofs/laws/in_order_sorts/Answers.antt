use Rattle.mm_schema.proofs.InOrder.{IsPermutation-in_order, IsSorted-in_order}
use Rattle.mm_schema.proofs.laws.in_order_sorts.Goals as goal

pub returns-clause-permutation : goal.returns-clause-permutation
returns-clause-permutation g c = IsPermutation-in_order

pub returns-clause-sorted : goal.returns-clause-sorted
returns-clause-sorted g c = λ cmp total xs. IsSorted-in_order total xs
