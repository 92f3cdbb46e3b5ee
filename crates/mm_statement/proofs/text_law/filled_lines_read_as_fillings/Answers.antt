use Rattle.mm_statement.proofs.TextFilled.{filled_line_only, filled_line_reads, turned_line_refused}
use Rattle.mm_statement.proofs.TextPieces.{text_token}
use Rattle.mm_statement.proofs.text_law.filled_lines_read_as_fillings.Goals as goal

pub returns-clause-reads : goal.returns-clause-reads
returns-clause-reads c = filled_line_reads

pub returns-clause-only : goal.returns-clause-only
returns-clause-only c = filled_line_only

pub returns-clause-refused : goal.returns-clause-refused
returns-clause-refused c = turned_line_refused

pub returns-clause-tokens : goal.returns-clause-tokens
returns-clause-tokens c = text_token
