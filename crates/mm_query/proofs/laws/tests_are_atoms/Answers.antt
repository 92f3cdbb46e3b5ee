use Rattle.mm_query.proofs.Binds.{holds_at_first, meets_at_first}
use Rattle.mm_query.proofs.laws.tests_are_atoms.Goals as goal

pub returns-clause-one : goal.returns-clause-one
returns-clause-one c = λ test row. holds_at_first row test

pub returns-clause-all : goal.returns-clause-all
returns-clause-all c = λ tests row. meets_at_first tests row
