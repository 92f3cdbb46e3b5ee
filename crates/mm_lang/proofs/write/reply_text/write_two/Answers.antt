use Rattle.std.proofs.Common.{refl}
use Rattle.mm_value.proofs.Writing.{Writes-then}
use Rattle.mm_lang.proofs.write.reply_text.write_two.Goals as goal

pub returns : goal.returns
returns g c = Writes-then refl c.in_ok-put_all.ensures c.put_all-2.ensures
