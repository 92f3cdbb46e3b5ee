use Rattle.mm_reply.proofs.Delivered.{delivers_as}
use Rattle.mm_session.proofs.AppendedRows.{appends_read, insert_defines}
use Rattle.mm_session.proofs.appending.append_rows.Goals as goal

pub returns-clause-ok : goal.returns-clause-ok
returns-clause-ok g c =
    delivers_as
    (λ outcome. appends_read c.args.table.now c.args.columns.now c.read_insert-read.result c.read_insert-read.ensures c.args.database.now outcome)
    c.respond.ensures.delivers

pub returns-clause-schema : goal.returns-clause-schema
returns-clause-schema g c =
    c.respond.ensures.schema (insert_defines c.args.table.now c.args.columns.now c.read_insert-read.result c.read_insert-read.ensures)
