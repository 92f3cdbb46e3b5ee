use Rattle.mm_statement.proofs.FilledCommands.{change_filled, define_filled, explain_filled, select_filled}
use Rattle.mm_statement.proofs.filling.fill_command.Goals as goal

pub returns-in_ok-definition-in-Define : goal.returns-in_ok-definition-in-Define
returns-in_ok-definition-in-Define c =
    rw c.in-Define.is
    (define_filled c.args.filler.now c.fill_definition.new.filler c.in-Define.definition c.in_ok-definition-in-Define.definition
    c.in_ok-definition-in-Define.ensures)

pub returns-in_ok-mutation-in-Change : goal.returns-in_ok-mutation-in-Change
returns-in_ok-mutation-in-Change c =
    rw c.in-Change.is
    (change_filled c.args.filler.now c.fill_mutation.new.filler c.in-Change.mutation c.in_ok-mutation-in-Change.mutation
    c.in_ok-mutation-in-Change.ensures)

pub returns-in_ok-selected-in-Select : goal.returns-in_ok-selected-in-Select
returns-in_ok-selected-in-Select c =
    rw c.in-Select.is
    (select_filled c.args.filler.now c.fill_query.new.filler c.in-Select.query c.in_ok-selected-in-Select.selected c.in_ok-selected-in-Select.ensures)

pub returns-in_ok-explained-in-Explain : goal.returns-in_ok-explained-in-Explain
returns-in_ok-explained-in-Explain c =
    rw c.in-Explain.is
    (explain_filled c.args.filler.now c.fill_query-in-Explain.new.filler c.in-Explain.query c.in_ok-explained-in-Explain.explained
    c.in_ok-explained-in-Explain.ensures)
