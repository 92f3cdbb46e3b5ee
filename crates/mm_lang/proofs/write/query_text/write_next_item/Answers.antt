use Rattle.std.proofs.Common.{refl}
use Rattle.mm_value.proofs.Writing.{Writes-then}
use Rattle.mm_lang.proofs.write.query_text.write_next_item.Goals as goal

pub returns : goal.returns
returns g c = Writes-then refl c.in_ok-put_all.ensures c.write_item.ensures
