use Rattle.mm_statement.proofs.TextCommands.{filled_read}
use Rattle.mm_statement.proofs.TextLines.{line_reads}
use Rattle.mm_statement.proofs.TextQueries.{read_filled}
use Rattle.mm_statement.proofs.text_law.texts_read_as_values.Goals as goal

pub returns-clause-filled : goal.returns-clause-filled
returns-clause-filled c = filled_read

pub returns-clause-only : goal.returns-clause-only
returns-clause-only c = read_filled

pub returns-clause-lines : goal.returns-clause-lines
returns-clause-lines c line written texts values command result some read stand enough short is =
    line_reads line written texts values command some read stand enough short is result
