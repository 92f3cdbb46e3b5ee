use Rattle.mm_statement.proofs.Fillers.{position_by}
use Rattle.mm_statement.proofs.filler.Filler.keeps_position.Goals as goal

pub returns : goal.returns
returns c =
    position_by c.is_position.result c.args.self.now c.take.new.self c.args.position c.in-Some.value c.in-Some.ensures.taken c.in-Some.ensures.fault
    c.is_position.ensures
