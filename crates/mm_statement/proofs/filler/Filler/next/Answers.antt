use Rattle.mm_statement.proofs.Fillers.{replaced_none}
use Rattle.mm_statement.proofs.filler.Filler.next.Goals as goal

pub returns-in_default : goal.returns-in_default
returns-in_default c =
    replaced_none c.args.self.now c.take.new.self c.args.literal.now c.in_default.ensures.taken c.in_default.ensures.fault c.is_storable.ensures
