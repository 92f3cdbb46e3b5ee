use Rattle.mmdb_c.proofs.ReadExamples.{read_none, read_one, read_past, read_two}
use Rattle.mmdb_c.proofs.calls_laws.whole_rows_are_read.Goals as goal

pub returns-clause-two : goal.returns-clause-two
returns-clause-two c = read_two

pub returns-clause-one : goal.returns-clause-one
returns-clause-one c = read_one

pub returns-clause-none : goal.returns-clause-none
returns-clause-none c = read_none

pub returns-clause-past : goal.returns-clause-past
returns-clause-past c = read_past
