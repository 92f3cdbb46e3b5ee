use Rattle.std.proofs.Common.{rules}
use Rattle.mm_session.proofs.ColumnArrays.{text_value}
use Rattle.mm_session.proofs.column_array.ColumnArray.value.Goals as goal

pub returns-clause-ok : goal.returns-clause-ok
returns-clause-ok c =
    let column = c.args.self.now in
    text_value column.numbers.now column.offsets.now column.bytes.now c.args.at c.in_ok-new.field-0 (search rules) (search rules) (search rules) (search rules)
