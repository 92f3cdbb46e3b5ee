use Rattle.std.proofs.Common.{refl}
use Rattle.mm_plan.proofs.read_laws.joins_of_three_rows_and_four_read_10_to_18.Goals as goal

pub returns-clause-nested_loops : goal.returns-clause-nested_loops
returns-clause-nested_loops c = refl

pub returns-clause-tree : goal.returns-clause-tree
returns-clause-tree c = λ index. refl

pub returns-clause-hash : goal.returns-clause-hash
returns-clause-hash c = λ index. refl

pub returns-clause-merge : goal.returns-clause-merge
returns-clause-merge c = λ outer inner. refl

pub returns-clause-built_hash : goal.returns-clause-built_hash
returns-clause-built_hash c = refl
