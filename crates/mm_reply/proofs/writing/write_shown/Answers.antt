use Rattle.std.proofs.Common.{◌≡◌, Err, [], ◌+◌, ◌<◌, ◌≤◌, ◌++◌, get_or, map, take, refl, sym, ap, subst, ◌∙◌}
use Rattle.std.specs.List.{flat_map}
use Rattle.std.proofs.lemmas.Option.{get_or_from_slice_get}
use Rattle.std.proofs.lemmas.Result.{err_from_is_err_and}
use Rattle.mm_lang.proofs.BufferedLines.{buffered_end, buffered_front, buffered_more}
use Rattle.mm_lang.proofs.ReplyLemmas.{count_line, row_line, row_lines_more, rows_text_all, rows_text_at, text_behind}
use Rattle.mm_value.proofs.Writing.{Writes-nil, Writes-then, Writes-stops}
use Rattle.mm_value.specs.Views.{value_of}
use Rattle.mm_reply.proofs.writing.write_shown.Goals as goal

pub loop-i-init : goal.loop-i-init
loop-i-init g c = ([], Writes-nil tt c.requires, c.new-lines.ensures)

pub returns-in_err-add_tuple : goal.returns-in_err-add_tuple
returns-in_err-add_tuple g c =
    let p = err_from_is_err_and c.from_residual.result c.from_residual.ensures.1 in
    let rows = c.args.rows.now in
    let i = c.loop-i.i in
    let row = map value_of c.row.result.now in
    let within = subst (λ n. i < n) c.len-i-end.ensures c.loop-i-test.true in
    let at : row ≡ get_or rows i row = sym (get_or_from_slice_get rows i row row c.row.ensures) in
    let was = c.loop-i.invariant in
    let line_buffered = c.in_err-add_tuple.ensures in
    let lines = row_lines_more rows i row within at ∙ sym (buffered_front was.0 c.loop-i.lines line_buffered.done (row_line row)
    (flat_map row_line (take i rows)) was.2 line_buffered.kept) in
    Writes-stops (text_behind (i + 1) rows) (rows_text_at rows (i + 1) ∙ ap (λ l. l ++ text_behind (i + 1) rows) lines) p.1
    (Writes-then {result = Err c.in_err-add_tuple.field-0.0} refl was.1 line_buffered.written)

pub loop-i-preserved : goal.loop-i-preserved
loop-i-preserved g c =
    let rows = c.args.rows.now in
    let i = c.loop-i.i in
    let row = map value_of c.row.result.now in
    let within = subst (λ n. i < n) c.len-i-end.ensures c.loop-i-test.true in
    let at : row ≡ get_or rows i row = sym (get_or_from_slice_get rows i row row c.row.ensures) in
    let was = c.loop-i.invariant in
    let line_buffered = c.in_ok-add_tuple.ensures in (
      was.0 ++ line_buffered.done,
      Writes-then refl was.1 line_buffered.written,
      buffered_more was.0 c.loop-i.lines line_buffered.done c.add_tuple.new.self (row_line row) (flat_map row_line (take i rows)) was.2
          line_buffered.kept
          ∙ sym (row_lines_more rows i row within at),
    )

pub returns : goal.returns
returns g c =
    let rows = c.args.rows.now in
    let i = c.loop-i.i in
    let past = subst (λ n. n ≤ i) c.len-i-end.ensures c.loop-i-test.false in
    let was = c.loop-i.invariant in
    Writes-then
    (rows_text_all rows i past ∙ ap (λ n. flat_map row_line (take i rows) ++ count_line n) (sym c.len.ensures)
    ∙ buffered_end was.0 c.loop-i.lines (count_line c.len.result) (flat_map row_line (take i rows)) was.2) was.1 c.finish.ensures
