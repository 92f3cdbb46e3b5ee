use Rattle.std.proofs.Common.{refl}
use Rattle.plan_laws.proofs.reads.foreign_keys_of_three_tables_read_30.Goals as goal

pub returns : goal.returns
returns c = refl
