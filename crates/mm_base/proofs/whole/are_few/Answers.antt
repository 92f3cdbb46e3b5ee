use Rattle.std.proofs.Common.{◌≤◌, length, subst}
use Rattle.mm_indexed.specs.Kept.{StoredRows}
use Rattle.mm_schema.specs.Rows.{most_rows}
use Rattle.mm_base.proofs.whole.are_few.Goals as goal

pub returns : goal.returns
returns c d = subst (λ (rows : StoredRows). length rows.refs ≤ most_rows) (c.lawful_rows.ensures.table d) c.lawful_rows.ensures.few
