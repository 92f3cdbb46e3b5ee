use Rattle.mm_schema.proofs.References.{targets_added, targets_indexed, targets_left, targets_unindexed}
use Rattle.mm_schema.proofs.laws.references_have_targets.Goals as goal

pub returns-clause-table : goal.returns-clause-table
returns-clause-table c = targets_added

pub returns-clause-no_table : goal.returns-clause-no_table
returns-clause-no_table c = targets_left

pub returns-clause-index : goal.returns-clause-index
returns-clause-index c = targets_indexed

pub returns-clause-no_index : goal.returns-clause-no_index
returns-clause-no_index c = targets_unindexed

pub returns-clause-standing : goal.returns-clause-standing
returns-clause-standing c = λ query schema whole. whole

pub returns-clause-no_standing : goal.returns-clause-no_standing
returns-clause-no_standing c = λ name schema whole. whole
