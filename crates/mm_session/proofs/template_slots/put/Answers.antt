use Rattle.std.proofs.Common.{Some, arith}
use Rattle.std.proofs.lemmas.List.Elements.{All-set}
use Rattle.mm_session.proofs.SlotLemmas.{line_of_statement, put_there}
use Rattle.mm_session.specs.steps.Forms.{IsReady}
use Rattle.mm_session.proofs.template_slots.put.Goals as goal

pub returns-clause-ready : goal.returns-clause-ready
returns-clause-ready c schema all ready =
    All-set (IsReady schema) c.make_slots.new.slots.items c.args.number (Some c.args.statement) ready (c.make_slots.ensures schema all)

pub returns-clause-there : goal.returns-clause-there
returns-clause-there c =
    line_of_statement _ c.args.number c.args.statement (put_there c.make_slots.new.slots.items c.args.number (Some c.args.statement) (omega arith))
