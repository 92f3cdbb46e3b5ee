use Rattle.std.proofs.Common.{◌++◌, [], ◌∷◌, Err, length, refl, sym, ap, ◌∙◌, append_assoc, arith}
use Rattle.std.proofs.lemmas.Result.{err_from_is_err_and}
use Rattle.mm_lang.proofs.BufferedLines.{buffered_end, buffered_front, buffered_more}
use Rattle.mm_lang.proofs.ReplyLemmas.{count_line, row_line}
use Rattle.mm_value.proofs.Writing.{Writes-nil, Writes-then, Writes-stops}
use Rattle.mm_reply.proofs.Walks.{behind, first_of, lines, lines_more, text_all, text_at}
use Rattle.mm_reply.proofs.writing.write_stored.Goals as goal

pub loop-row-init : goal.loop-row-init
loop-row-init g c = ([], refl, ([], Writes-nil tt c.requires.unfailed, c.new-lines.ensures))

pub loop-row-smaller : goal.loop-row-smaller
loop-row-smaller g c = omega (arith, ap length c.in-Some.ensures)

pub returns-in_err-add_row : goal.returns-in_err-add_row
returns-in_err-add_row g c =
    let p = err_from_is_err_and c.from_residual.result c.from_residual.ensures.1 in
    let rows = c.args.rows in
    let row = first_of c.in-Some.ensures in
    let rest = c.next.new.self in
    let read = c.loop-row.invariant.0 in
    let was = c.loop-row.invariant.2 in
    let line_buffered = c.in_err-add_row.ensures in
    let text = text_at rows read rest row (c.loop-row.invariant.1 ∙ ap (λ r. read ++ r) c.in-Some.ensures) in
    let written = sym (buffered_front was.0 c.loop-row.lines line_buffered.done (row_line row) (lines read) was.2 line_buffered.kept) in
    Writes-stops (behind rest (length rows)) (text ∙ ap (λ l. l ++ behind rest (length rows)) written) p.1
    (Writes-then {result = Err c.in_err-add_row.field-0.0} refl was.1 line_buffered.written)

pub loop-row-preserved : goal.loop-row-preserved
loop-row-preserved g c =
    let row = first_of c.in-Some.ensures in
    let rest = c.next.new.self in
    let read = c.loop-row.invariant.0 in
    let was = c.loop-row.invariant.2 in
    let line_buffered = c.in_ok-add_row.ensures in (
      read ++ row ∷ [],
      c.loop-row.invariant.1 ∙ ap (λ r. read ++ r) c.in-Some.ensures ∙ sym (append_assoc read (row ∷ []) rest),
      (
        was.0 ++ line_buffered.done,
        Writes-then refl was.1 line_buffered.written,
        buffered_more was.0 c.loop-row.lines line_buffered.done c.add_row.new.self (row_line row) (lines read) was.2 line_buffered.kept
            ∙ sym (lines_more read row),
      ),
    )

pub returns : goal.returns
returns g c =
    let rows = c.args.rows in
    let read = c.loop-row.invariant.0 in
    let was = c.loop-row.invariant.2 in
    Writes-then (text_all rows read c.loop-row.rows c.args.count c.loop-row.invariant.1 c.in_default.ensures c.requires.counted
    ∙ buffered_end was.0 c.loop-row.lines (count_line c.args.count) (lines read) was.2) was.1 c.finish.ensures
