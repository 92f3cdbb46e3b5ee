use Rattle.mm_schema.proofs.AllReferences.{others_added, others_indexed, others_left, others_unindexed}
use Rattle.mm_schema.proofs.laws.tables_refer_to_others.Goals as goal

pub returns-clause-table : goal.returns-clause-table
returns-clause-table c = others_added

pub returns-clause-no_table : goal.returns-clause-no_table
returns-clause-no_table c = others_left

pub returns-clause-index : goal.returns-clause-index
returns-clause-index c = others_indexed

pub returns-clause-no_index : goal.returns-clause-no_index
returns-clause-no_index c = others_unindexed

pub returns-clause-standing : goal.returns-clause-standing
returns-clause-standing c = λ query schema whole. whole

pub returns-clause-no_standing : goal.returns-clause-no_standing
returns-clause-no_standing c = λ name schema whole. whole
