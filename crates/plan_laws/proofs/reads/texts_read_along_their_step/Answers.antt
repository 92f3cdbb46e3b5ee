use Rattle.std.proofs.Common.{refl}
use Rattle.plan_laws.proofs.reads.texts_read_along_their_step.Goals as goal

pub returns-clause-look_up : goal.returns-clause-look_up
returns-clause-look_up c = λ index. refl

pub returns-clause-up_to : goal.returns-clause-up_to
returns-clause-up_to c = λ index. refl

pub returns-clause-from : goal.returns-clause-from
returns-clause-from c = λ index. refl

pub returns-clause-tree : goal.returns-clause-tree
returns-clause-tree c = λ index. refl

pub returns-clause-hash : goal.returns-clause-hash
returns-clause-hash c = λ index. refl

pub returns-clause-built_hash : goal.returns-clause-built_hash
returns-clause-built_hash c = refl

pub returns-clause-merge : goal.returns-clause-merge
returns-clause-merge c = λ outer inner. refl

pub returns-clause-nested_loops : goal.returns-clause-nested_loops
returns-clause-nested_loops c = refl
