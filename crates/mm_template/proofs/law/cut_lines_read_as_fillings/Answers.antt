use Rattle.mm_template.proofs.Readings.{cut_reads, cut_takes}
use Rattle.mm_template.proofs.law.cut_lines_read_as_fillings.Goals as goal

pub returns-clause-reads : goal.returns-clause-reads
returns-clause-reads c = cut_reads

pub returns-clause-memory : goal.returns-clause-memory
returns-clause-memory c = cut_takes
