use Rattle.mm_laws.proofs.QueryLaws.{bag_counted, combinations_counted}
use Rattle.mm_laws.proofs.query_laws.combinations_are_counted.Goals as goal

pub returns-clause-product : goal.returns-clause-product
returns-clause-product T c = combinations_counted

pub returns-clause-bag : goal.returns-clause-bag
returns-clause-bag T c = bag_counted
