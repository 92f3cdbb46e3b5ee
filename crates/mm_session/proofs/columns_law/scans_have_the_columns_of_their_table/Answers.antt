use Rattle.mm_session.proofs.ScanColumns.{scan_columns, scan_index_columns}
use Rattle.mm_session.proofs.columns_law.scans_have_the_columns_of_their_table.Goals as goal

pub returns-clause-table : goal.returns-clause-table
returns-clause-table c = scan_columns

pub returns-clause-index : goal.returns-clause-index
returns-clause-index c = scan_index_columns
