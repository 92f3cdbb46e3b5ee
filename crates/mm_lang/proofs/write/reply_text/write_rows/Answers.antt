use Rattle.std.proofs.Common.{◌≡◌, Err, [], ◌+◌, ◌++◌, get_or, length, refl, subst, sym, ap, take, ◌∙◌}
use Rattle.std.specs.List.{flat_map}
use Rattle.std.proofs.lemmas.Result.{err_from_is_err_and}
use Rattle.mm_value.proofs.Writing.{Writes-nil, Writes-then, Writes-stops}
use Rattle.mm_lang.proofs.BufferedLines.{buffered_end, buffered_front, buffered_more}
use Rattle.mm_lang.proofs.ReplyLemmas.{count_line, row_line, row_lines_more, text_behind, rows_text_at, rows_text_all}
use Rattle.mm_lang.proofs.write.reply_text.write_rows.Goals as goal

pub loop-row-init : goal.loop-row-init
loop-row-init g c = ([], Writes-nil tt c.requires, c.new-lines.ensures)

pub loop-row-preserved : goal.loop-row-preserved
loop-row-preserved g c =
    let rows = c.args.rows.now in
    let i = c.loop-row.row-index in
    let was = c.loop-row.invariant in
    let line_buffered = c.in_ok-add_values.ensures in
    let line = row_line c.values.result.now in (
      was.0 ++ line_buffered.done,
      Writes-then refl was.1 line_buffered.written,
      buffered_more was.0 c.loop-row.lines line_buffered.done c.add_values.new.self line (flat_map row_line (take i rows)) was.2 line_buffered.kept
          ∙ sym (row_lines_more rows i c.values.result.now c.loop-row-test.true
          (subst (λ values. values ≡ get_or rows i values) (sym c.values.ensures) c.row-item.is)),
    )

pub returns-in_err-add_values : goal.returns-in_err-add_values
returns-in_err-add_values g c =
    let p = err_from_is_err_and c.from_residual.result c.from_residual.ensures.1 in
    let rows = c.args.rows.now in
    let i = c.loop-row.row-index in
    let was = c.loop-row.invariant in
    let line_buffered = c.in_err-add_values.ensures in
    let line = row_line c.values.result.now in
    let lines = row_lines_more rows i c.values.result.now c.loop-row-test.true
    (subst (λ values. values ≡ get_or rows i values) (sym c.values.ensures) c.row-item.is)
    ∙ sym (buffered_front was.0 c.loop-row.lines line_buffered.done line (flat_map row_line (take i rows)) was.2 line_buffered.kept) in
    Writes-stops (text_behind (i + 1) rows) (rows_text_at rows (i + 1) ∙ ap (λ l. l ++ text_behind (i + 1) rows) lines) p.1
    (Writes-then {result = Err c.in_err-add_values.field-0.0} refl was.1 line_buffered.written)

pub returns : goal.returns
returns g c =
    let rows = c.args.rows.now in
    let i = c.loop-row.row-index in
    let was = c.loop-row.invariant in
    Writes-then
    (rows_text_all rows i c.loop-row-test.false
    ∙ buffered_end was.0 c.loop-row.lines (count_line (length rows)) (flat_map row_line (take i rows)) was.2) was.1 c.finish.ensures
