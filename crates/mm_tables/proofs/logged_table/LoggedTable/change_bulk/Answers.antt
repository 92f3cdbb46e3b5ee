use Rattle.mm_tables.specs.Tables.{slots_of}
use Rattle.mm_tables.proofs.Commands.{FitsForth-command}
use Rattle.mm_tables.proofs.logged_table.LoggedTable.change_bulk.Goals as goal

pub delete_all-requires-clause-fits : goal.delete_all-requires-clause-fits
delete_all-requires-clause-fits c =
    FitsForth-command c.args.self.now.rows.key c.args.edits.now (slots_of c.args.self.now) c.requires.command
