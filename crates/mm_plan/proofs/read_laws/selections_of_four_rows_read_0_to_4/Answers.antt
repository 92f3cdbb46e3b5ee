use Rattle.std.proofs.Common.{refl}
use Rattle.mm_plan.proofs.read_laws.selections_of_four_rows_read_0_to_4.Goals as goal

pub returns-clause-scan : goal.returns-clause-scan
returns-clause-scan c = refl

pub returns-clause-look_up : goal.returns-clause-look_up
returns-clause-look_up c = λ index. refl

pub returns-clause-absent : goal.returns-clause-absent
returns-clause-absent c = λ index. refl

pub returns-clause-from : goal.returns-clause-from
returns-clause-from c = λ index. refl

pub returns-clause-up_to : goal.returns-clause-up_to
returns-clause-up_to c = λ index. refl

pub returns-clause-between : goal.returns-clause-between
returns-clause-between c = λ index. refl
