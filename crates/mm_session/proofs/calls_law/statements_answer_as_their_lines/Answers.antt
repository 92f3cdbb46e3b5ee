use Rattle.mm_session.proofs.StatementLines.{run_answers}
use Rattle.mm_session.proofs.calls_law.statements_answer_as_their_lines.Goals as goal

pub returns : goal.returns
returns c = run_answers
