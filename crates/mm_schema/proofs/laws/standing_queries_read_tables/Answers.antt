use Rattle.mm_schema.proofs.StandingLemmas.{reads_added, reads_among, reads_behind, reads_indexed, reads_left, reads_unindexed}
use Rattle.mm_schema.proofs.laws.standing_queries_read_tables.Goals as goal

pub returns-clause-table : goal.returns-clause-table
returns-clause-table c = reads_added

pub returns-clause-no_table : goal.returns-clause-no_table
returns-clause-no_table c = reads_left

pub returns-clause-index : goal.returns-clause-index
returns-clause-index c = reads_indexed

pub returns-clause-no_index : goal.returns-clause-no_index
returns-clause-no_index c = reads_unindexed

pub returns-clause-standing : goal.returns-clause-standing
returns-clause-standing c = reads_behind

pub returns-clause-no_standing : goal.returns-clause-no_standing
returns-clause-no_standing c = reads_among
