use Rattle.mm_dump.proofs.Lines.{entry_reads}
use Rattle.mm_dump.proofs.laws.entries_read_as_commands.Goals as goal

pub returns : goal.returns
returns c =
    let listed = c.definitions_are_listed_as_written.ensures in
    entry_reads listed.table listed.index
