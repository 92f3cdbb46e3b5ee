use Rattle.std.proofs.Common.{refl}
use Rattle.mm_plan.proofs.read_laws.foreign_keys_of_four_rows_read_12.Goals as goal

pub returns : goal.returns
returns c = refl
