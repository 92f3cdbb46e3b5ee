use Rattle.std.proofs.Common.{false, ◌∙◌, arith}
use Rattle.mm_template.proofs.KeptBytes.{at_byte}
use Rattle.mm_template.proofs.piece.is_kept_byte.Goals as goal

pub returns : goal.returns
returns c = c.is_marked.ensures ∙ at_byte c.args.byte false (omega arith)
