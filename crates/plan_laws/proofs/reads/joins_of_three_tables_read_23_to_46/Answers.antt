use Rattle.std.proofs.Common.{refl}
use Rattle.plan_laws.proofs.reads.joins_of_three_tables_read_23_to_46.Goals as goal

pub returns-clause-tree : goal.returns-clause-tree
returns-clause-tree c = λ index other. refl

pub returns-clause-hash : goal.returns-clause-hash
returns-clause-hash c = λ index other. refl

pub returns-clause-built_hash : goal.returns-clause-built_hash
returns-clause-built_hash c = λ index. refl

pub returns-clause-nested_loops : goal.returns-clause-nested_loops
returns-clause-nested_loops c = λ index. refl

pub returns-clause-all_nested : goal.returns-clause-all_nested
returns-clause-all_nested c = refl
