use Rattle.mm_session.proofs.AppendedRows.{append_answers}
use Rattle.mm_session.proofs.calls_law.appends_answer_as_their_lines.Goals as goal

pub returns : goal.returns
returns c = append_answers
