use Rattle.std.proofs.Common.{◌++◌, sym, ap, ◌∙◌}
use Rattle.mm_value.specs.Views.{value_of}
use Rattle.mm_value.specs.Written.{value_text}
use Rattle.mm_value.proofs.Writing.{Writes-then}
use Rattle.mm_lang.proofs.write.row_line.write_literal.Goals as goal

pub returns : goal.returns
returns g c =
    let line = c.in_ok-put_value.ensures in
    Writes-then
    (ap value_text (sym c.as_ref.ensures) ∙ sym (line.kept ∙ ap (λ l. l ++ value_text (value_of c.as_ref.result)) c.new-line.ensures))
    line.written c.write_out.ensures.written
