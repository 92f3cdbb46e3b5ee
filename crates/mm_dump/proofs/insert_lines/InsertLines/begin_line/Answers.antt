use Rattle.std.proofs.Common.{[], ◌∷◌, ◌++◌, Err, refl, sym, ap, ◌∙◌, append-nil}
use Rattle.std.proofs.lemmas.Result.{err_from_is_err_and}
use Rattle.mm_value.proofs.Writing.{Writes-stops, Writes-then}
use Rattle.mm_dump.specs.Inserts.{line_end, used_bytes}
use Rattle.mm_dump.specs.Texts.{insert_text}
use Rattle.mm_dump.proofs.insert_lines.InsertLines.begin_line.Goals as goal

pub returns-in_err-write_insert-clause-written : goal.returns-in_err-write_insert-clause-written
returns-in_err-write_insert-clause-written g c =
    let p = err_from_is_err_and c.from_residual-in_err-write_insert.result c.from_residual-in_err-write_insert.ensures.1 in
    let row = g.R.AsRow.row c.args.row.now in
    let end = line_end (used_bytes c.args.self.now) in
    Writes-stops []
    (ap (λ table. end ++ insert_text table (row ∷ [])) (sym c.bytes.ensures.value)
    ∙ sym (append-nil (end ++ insert_text c.bytes.result.now (row ∷ []))))
    p.1
    (Writes-then {result = Err c.in_err-write_insert.field-0.0} refl c.in_ok-write_line_end.ensures c.in_err-write_insert.ensures)
