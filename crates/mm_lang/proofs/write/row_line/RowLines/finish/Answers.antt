use Rattle.std.proofs.Common.{refl}
use Rattle.mm_value.proofs.Writing.{Writes-then}
use Rattle.mm_lang.proofs.write.row_line.RowLines.finish.Goals as goal

pub returns : goal.returns
returns g c = Writes-then refl c.in_ok-write_out.ensures.written c.write_row_count.ensures
