use Rattle.mm_dump.proofs.Readings.{line_writable, template_writable}
use Rattle.mm_dump.proofs.laws.lines_read_as_writable_commands.Goals as goal

pub returns-clause-lines : goal.returns-clause-lines
returns-clause-lines c = line_writable

pub returns-clause-templates : goal.returns-clause-templates
returns-clause-templates c = template_writable
