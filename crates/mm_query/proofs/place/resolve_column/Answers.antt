use Rattle.std.proofs.Common.{sym}
use Rattle.mm_query.proofs.Within.{no_type, type_at}
use Rattle.mm_query.proofs.place.resolve_column.Goals as goal

pub returns-in_default-clause-col_type : goal.returns-in_default-clause-col_type
returns-in_default-clause-col_type c = no_type c.args.columns.now c.args.name.now (sym c.in_default.ensures)

pub returns-clause-col_type : goal.returns-clause-col_type
returns-clause-col_type c =
    type_at c.args.columns.now c.args.name.now c.as_slice.result.now c.in-Some.place c.index-as_slice-place.result c.as_slice.ensures.value
    (sym c.in-Some.ensures)
