use Rattle.std.proofs.Common.{ap, length, sym, ◌∙◌}
use Rattle.mm_txn.specs.Sources.{rows_to_read}
use Rattle.mm_reply.proofs.Flushed.{writes_as}
use Rattle.mm_reply.proofs.writing.write_rows.Goals as goal

pub write_stored-requires-clause-counted : goal.write_stored-requires-clause-counted
write_stored-requires-clause-counted g c = c.len.ensures ∙ ap length (sym (sym (ap rows_to_read c.in-Stored.is) ∙ c.reader.ensures))

pub returns-in-Stored : goal.returns-in-Stored
returns-in-Stored g c = writes_as (sym (ap rows_to_read c.in-Stored.is) ∙ c.reader.ensures) c.write_stored.ensures

pub returns-in-Shown : goal.returns-in-Shown
returns-in-Shown g c = writes_as (sym (ap rows_to_read c.in-Shown.is) ∙ c.reader.ensures) c.write_shown.ensures
