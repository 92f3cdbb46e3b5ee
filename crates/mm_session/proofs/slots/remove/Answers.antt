use Rattle.std.proofs.Common.{is_some, sym, ap, ◌∙◌, arith}
use Rattle.mm_session.proofs.SlotLemmas.{stands_there}
use Rattle.mm_session.proofs.slots.remove.Goals as goal

pub returns-clause-stands : goal.returns-clause-stands
returns-clause-stands c =
    stands_there c.args.statements.now.items c.args.number c.index.result.now (omega arith) (ap is_some (sym c.index.ensures) ∙ c.if-is_none.ensures)
