use Rattle.mm_statement.proofs.Fills.{atom_filled}
use Rattle.mm_statement.proofs.parts.AtomFill.fill.Goals as goal

pub returns : goal.returns
returns g c = atom_filled c.args.filler.now c.fill_operand.new.filler c.args.self c.in_ok-filled.filled c.in_ok-filled.ensures
