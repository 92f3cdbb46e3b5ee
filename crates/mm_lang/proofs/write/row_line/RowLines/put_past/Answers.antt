use Rattle.std.proofs.Common.{◌∙◌}
use Rattle.std.proofs.lemmas.Result.{err_from_is_err_and}
use Rattle.mm_lang.proofs.BufferedPieces.{buffered_past, buffered_unwritten, unless_ok}
use Rattle.mm_lang.proofs.write.row_line.RowLines.put_past.Goals as goal

pub returns-in_err-write_out : goal.returns-in_err-write_out
returns-in_err-write_out g c =
    let p = err_from_is_err_and c.from_residual.result c.from_residual.ensures.1 in
    buffered_unwritten p.1 c.in_err-write_out.ensures.written

pub returns : goal.returns
returns g c =
    let stays = unless_ok c.try_extend_from_slice.result c.if-is_ok.ensures.value c.try_extend_from_slice.ensures.err in
    buffered_past c.in_ok-write_out.ensures.written c.put_all.ensures ((λ i. (stays i).items) ∙ c.self.view_is ∙ c.in_ok-write_out.ensures.empty)
