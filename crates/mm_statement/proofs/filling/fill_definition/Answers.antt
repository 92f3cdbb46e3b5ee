use Rattle.mm_statement.proofs.FilledCommands.{watch_filled}
use Rattle.mm_statement.proofs.filling.fill_definition.Goals as goal

pub returns-in_ok-query-in-Watch : goal.returns-in_ok-query-in-Watch
returns-in_ok-query-in-Watch c =
    rw c.in-Watch.is
    (watch_filled c.args.filler.now c.fill_query.new.filler c.in-Watch.field-0.name c.in-Watch.field-0.query c.in_ok-query-in-Watch.query
    c.in_ok-query-in-Watch.ensures)
