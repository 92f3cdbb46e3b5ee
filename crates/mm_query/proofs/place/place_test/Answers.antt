use Rattle.std.proofs.Common.{false, ◌||◌, ◌∙◌}
use Rattle.mm_query.specs.Faults.{noted}
use Rattle.mm_query.specs.Placing.{differ, lacks_column, operand_lacks_column, operand_type, shifts_text, type_named}
use Rattle.mm_query.proofs.Noted.{noted_twice}
use Rattle.mm_query.proofs.place.place_test.Goals as goal

pub returns-clause-faults : goal.returns-clause-faults
returns-clause-faults c =
    let columns = c.args.columns.now in
    let left = c.args.test.left in
    let right = c.args.test.right in
    c.place_operand-right.ensures.faults
    ∙ ((λ i. noted (operand_lacks_column columns right) false
    (differ (c.resolve_column-left.ensures.col_type i) (operand_type (type_named columns) right) || shifts_text (type_named columns) right)
    (c.resolve_column-left.ensures.faults i))
    ∙ noted_twice (lacks_column columns left) false false (operand_lacks_column columns right) false
    (differ (type_named columns left) (operand_type (type_named columns) right) || shifts_text (type_named columns) right) c.args.faults.now)
