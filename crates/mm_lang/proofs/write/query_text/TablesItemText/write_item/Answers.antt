use Rattle.std.proofs.Common.{◌∷◌, ◌++◌, sym}
use Rattle.mm_value.proofs.Writing.{Writes-then}
use Rattle.mm_lang.proofs.write.query_text.TablesItemText.write_item.Goals as goal

pub returns : goal.returns
returns g c =
    Writes-then (λ i. sym c.bytes.ensures.value i ++ 32 ∷ sym c.bytes-2.ensures.value i) c.in_ok-put_all.ensures c.write_after_space.ensures
