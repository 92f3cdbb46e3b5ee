use Rattle.std.proofs.Common.{Ok, Err, ap, subst, ◌∙◌}
use Rattle.std.proofs.lemmas.Result.{err_from_is_err_and}
use Rattle.mm_session.specs.Session.{SessionState}
use Rattle.mm_value.specs.Watched.{inner_of}
use Rattle.mmdb_core.specs.steps.Respond.{GoesOn}
use Rattle.mmdb_core.specs.Run.{BrokeOff}
use Rattle.mmdb_core.specs.declared.run_error.RunError.{RunError}
use Rattle.mmdb_core.proofs.Inputs.{at-fault}
use Rattle.mmdb_core.proofs.Runs.{broke_off, none_answered, passed_nearer, reached_end, read_at_fault, running_first, running_more, taken_at_end}
use Rattle.mmdb_core.proofs.Runs.{taken_at_fault, write_at_end, write_at_fault}
use Rattle.mmdb_core.proofs.run_script.run.Goals as goal

pub loop-session-init : goal.loop-session-init
loop-session-init g c =
    running_first g.R.Read.remaining g.W.Write.contents c.args.limits c.args.reader.now c.args.writer.now c.new-input.result c.new-session.result.state
    c.requires.writer
    c.new-input.ensures.window c.new-input.ensures.still c.new-input.ensures.bound c.new-input.ensures.going
    (ap (λ (s : SessionState). s.state) c.new-session.ensures)

pub loop-session-smaller : goal.loop-session-smaller
loop-session-smaller g c =
    let goes_on = GoesOn g.R.Read.remaining g.W.Write.contents c.loop-session.reader c.answer_next.new.reader c.loop-session.input c.answer_next.new.input
    c.loop-session.session.state c.answer_next.new.session.state c.loop-session.writer
    c.answer_next.new.writer in
    passed_nearer (subst (λ answered. goes_on (Ok answered)) c.in-Some.is c.in_ok-is_refused.ensures)

pub loop-session-preserved : goal.loop-session-preserved
loop-session-preserved g c =
    let goes_on = GoesOn g.R.Read.remaining g.W.Write.contents c.loop-session.reader c.answer_next.new.reader c.loop-session.input c.answer_next.new.input
    c.loop-session.session.state c.answer_next.new.session.state c.loop-session.writer
    c.answer_next.new.writer in
    running_more c.loop-session.invariant c.answer_next.new.reader c.answer_next.new.input c.answer_next.new.session.state
    c.answer_next.new.writer c.from.result
    c.in-Some.is_refused c.from.ensures
    (subst (λ answered. goes_on (Ok answered)) c.in-Some.is c.in_ok-is_refused.ensures)

pub returns-in_err-is_refused-clause-taken : goal.returns-in_err-is_refused-clause-taken
returns-in_err-is_refused-clause-taken g c =
    let p = err_from_is_err_and c.from_residual.result c.from_residual.ensures.1 in
    taken_at_fault c.loop-session.invariant c.answer_next.new.reader c.answer_next.new.input c.answer_next.new.session.state c.answer_next.new.writer
    c.from_residual.result c.in_err-is_refused.field-0.0
    (p.1 ∙ ap (λ (f : RunError). Err f) p.2) c.in_err-is_refused.ensures

pub returns-in_err-is_refused-clause-read : goal.returns-in_err-is_refused-clause-read
returns-in_err-is_refused-clause-read g c =
    let p = err_from_is_err_and c.from_residual.result c.from_residual.ensures.1 in
    read_at_fault c.loop-session.invariant c.answer_next.new.reader c.answer_next.new.input c.answer_next.new.session.state c.answer_next.new.writer
    c.from_residual.result c.in_err-is_refused.field-0.0
    (p.1 ∙ ap (λ (f : RunError). Err f) p.2) c.in_err-is_refused.ensures

pub returns-in_err-is_refused-clause-write : goal.returns-in_err-is_refused-clause-write
returns-in_err-is_refused-clause-write g c =
    let p = err_from_is_err_and c.from_residual.result c.from_residual.ensures.1 in
    write_at_fault c.loop-session.invariant c.answer_next.new.reader c.answer_next.new.input c.answer_next.new.session.state c.answer_next.new.writer
    c.from_residual.result c.in_err-is_refused.field-0.0
    (p.1 ∙ ap (λ (f : RunError). Err f) p.2) c.in_err-is_refused.ensures

pub returns-in_err-is_refused-clause-broke_off : goal.returns-in_err-is_refused-clause-broke_off
returns-in_err-is_refused-clause-broke_off g c =
    let p = err_from_is_err_and c.from_residual.result c.from_residual.ensures.1 in
    at-fault
    (BrokeOff g.R.Read.remaining c.args.reader.now c.answer_next.new.reader c.args.limits (g.W.Write.contents (inner_of c.args.writer.now))
    (g.W.Write.contents (inner_of c.answer_next.new.writer)))
    c.from_residual.result c.in_err-is_refused.field-0.0 p.0 p.1 p.2
    (broke_off c.loop-session.invariant c.answer_next.new.reader c.answer_next.new.input c.answer_next.new.session.state c.answer_next.new.writer
    c.in_err-is_refused.field-0.0 c.in_err-is_refused.ensures)

pub returns-clause-answers : goal.returns-clause-answers
returns-clause-answers g c =
    let goes_on = GoesOn g.R.Read.remaining g.W.Write.contents c.loop-session.reader c.answer_next.new.reader c.loop-session.input c.answer_next.new.input
    c.loop-session.session.state c.answer_next.new.session.state c.loop-session.writer
    c.answer_next.new.writer in
    let ended = none_answered c.in_ok-is_refused.field-0 c.in_default.not-Some in
    reached_end c.loop-session.invariant c.answer_next.new.reader c.answer_next.new.input c.answer_next.new.session.state c.answer_next.new.writer
    (subst (λ answered. goes_on (Ok answered)) ended c.in_ok-is_refused.ensures)

pub returns-clause-taken : goal.returns-clause-taken
returns-clause-taken g c =
    let goes_on = GoesOn g.R.Read.remaining g.W.Write.contents c.loop-session.reader c.answer_next.new.reader c.loop-session.input c.answer_next.new.input
    c.loop-session.session.state c.answer_next.new.session.state c.loop-session.writer
    c.answer_next.new.writer in
    let ended = none_answered c.in_ok-is_refused.field-0 c.in_default.not-Some in
    taken_at_end c.loop-session.invariant c.answer_next.new.reader c.answer_next.new.input c.answer_next.new.session.state c.answer_next.new.writer
    (subst (λ answered. goes_on (Ok answered)) ended c.in_ok-is_refused.ensures)

pub returns-clause-write : goal.returns-clause-write
returns-clause-write g c =
    let goes_on = GoesOn g.R.Read.remaining g.W.Write.contents c.loop-session.reader c.answer_next.new.reader c.loop-session.input c.answer_next.new.input
    c.loop-session.session.state c.answer_next.new.session.state c.loop-session.writer
    c.answer_next.new.writer in
    let ended = none_answered c.in_ok-is_refused.field-0 c.in_default.not-Some in
    write_at_end c.loop-session.invariant c.answer_next.new.reader c.answer_next.new.input c.answer_next.new.session.state c.answer_next.new.writer
    (subst (λ answered. goes_on (Ok answered)) ended c.in_ok-is_refused.ensures)
