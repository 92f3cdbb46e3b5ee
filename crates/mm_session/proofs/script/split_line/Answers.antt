use Rattle.mm_session.proofs.LineEnds.{first_split, only_split}
use Rattle.mm_session.proofs.script.split_line.Goals as goal

pub returns-in-Some-clause-some : goal.returns-in-Some-clause-some
returns-in-Some-clause-some c = first_split c.args.script.now c.without_return.result.now c.in-Some.end c.in-Some.ensures c.without_return.ensures

pub returns-in-None-2-clause-some : goal.returns-in-None-2-clause-some
returns-in-None-2-clause-some c =
    only_split c.args.script.now c.without_return-in-None-2.result.now c.if-is_empty.ensures c.in-None.ensures c.without_return-in-None-2.ensures
