use Rattle.std.proofs.Common.{refl}
use Rattle.mm_statement.specs.Texts.{filled_bytes}
use Rattle.mm_statement.proofs.text_law.texts_stand_in_written_order.Goals as goal

pub returns-clause-line : goal.returns-clause-line
unfolding filled_bytes
returns-clause-line c = refl
