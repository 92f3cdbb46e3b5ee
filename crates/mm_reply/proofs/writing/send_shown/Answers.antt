use Rattle.std.proofs.Common.{◌≡◌, false, ap, subst, sym, ◌∙◌}
use Rattle.std.proofs.lemmas.Result.{err_from_is_err_and}
use Rattle.std.specs.Prelude.{IfOk, is_err}
use Rattle.mm_lang.specs.ReplyText.{rows_text}
use Rattle.mm_reply.proofs.Flushed.{writes_flushed}
use Rattle.mm_reply.proofs.writing.send_shown.Goals as goal

pub returns-in_err-flush : goal.returns-in_err-flush
returns-in_err-flush g c =
    let p = err_from_is_err_and c.from_residual-in_err-flush.result c.from_residual-in_err-flush.ensures.1 in
    record {
      writes = writes_flushed c.from_residual-in_err-flush.result (rows_text c.args.rows.now) c.in_ok-write_shown.ensures c.flush.ensures.kept
          (c.in_err-flush.ensures.failed ∙ sym (ap is_err p.1));
      refused = subst (λ r. IfOk r (λ is_refused. is_refused ≡ false)) (sym p.1) tt;
    }
