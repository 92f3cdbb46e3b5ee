use Rattle.std.proofs.Common.{[]}
use Rattle.std.proofs.lemmas.List.Elements.{All-head}
use Rattle.mm_dump.specs.Entries.{IsPrintableRow}
use Rattle.mm_dump.proofs.Fitting.{index_fits, row_fits, table_fits}
use Rattle.mm_dump.proofs.QueryFitting.{watch_fits_line}
use Rattle.mm_dump.proofs.laws.entries_fit_lines.Goals as goal

pub returns-clause-tables : goal.returns-clause-tables
returns-clause-tables c = λ definition printable few. table_fits definition printable.0 few

pub returns-clause-indexes : goal.returns-clause-indexes
returns-clause-indexes c = index_fits

pub returns-clause-rows : goal.returns-clause-rows
returns-clause-rows c = λ table row printable few. row_fits table row printable.0 (All-head IsPrintableRow row [] printable.2).1 few

pub returns-clause-queries : goal.returns-clause-queries
returns-clause-queries c = λ name query printable limits short. watch_fits_line name query printable.0 printable.1 limits short
