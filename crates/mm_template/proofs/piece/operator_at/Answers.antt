use Rattle.mm_template.proofs.Pieces.{comma_operator, equal_operator, open_operator, plus_operator}
use Rattle.mm_template.proofs.piece.operator_at.Goals as goal

pub returns-in-61 : goal.returns-in-61
returns-in-61 c = equal_operator c.args.bytes.now c.requires c.in-61.is

pub returns-in-43 : goal.returns-in-43
returns-in-43 c = plus_operator c.args.bytes.now c.requires c.in-43.is

pub returns-in-44 : goal.returns-in-44
returns-in-44 c = comma_operator c.args.bytes.now c.requires c.in-44.is

pub returns-in-40 : goal.returns-in-40
returns-in-40 c = open_operator c.args.bytes.now c.requires c.in-40.is
