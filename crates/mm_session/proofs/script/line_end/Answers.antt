use Rattle.mm_session.proofs.LineEnds.{line_end_is}
use Rattle.mm_session.proofs.script.line_end.Goals as goal

pub returns : goal.returns
returns c = line_end_is c.args.script.now c.find_byte.result c.find_byte.ensures
