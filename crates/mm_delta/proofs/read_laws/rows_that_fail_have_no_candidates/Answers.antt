use Rattle.std.proofs.Common.{refl}
use Rattle.mm_delta.proofs.ReadLaws.{none_where_one_fails, those_of_one_place}
use Rattle.mm_delta.proofs.read_laws.rows_that_fail_have_no_candidates.Goals as goal

pub returns-clause-fails : goal.returns-clause-fails
returns-clause-fails c = none_where_one_fails

pub returns-clause-complete : goal.returns-clause-complete
returns-clause-complete c indexed atoms before rows m = refl

pub returns-clause-one_place : goal.returns-clause-one_place
returns-clause-one_place c = those_of_one_place
