use Rattle.std.proofs.Common.{false, ◌||◌, ◌∙◌}
use Rattle.mm_query.specs.Faults.{noted}
use Rattle.mm_query.specs.Placing.{differ, lacks_column, operand_lacks_column, operand_type, shifts_text, type_named}
use Rattle.mm_query.proofs.Noted.{noted_twice}
use Rattle.mm_query.proofs.place.place_assignment.Goals as goal

pub returns-clause-faults : goal.returns-clause-faults
returns-clause-faults c =
    let columns = c.args.columns.now in
    let column = c.args.assignment.column in
    let source = c.args.assignment.source in
    c.place_operand.ensures.faults
    ∙ ((λ i. noted (operand_lacks_column columns source) false
    (differ (c.resolve_column-column.ensures.col_type i) (operand_type (type_named columns) source) || shifts_text (type_named columns) source)
    (c.resolve_column-column.ensures.faults i))
    ∙ noted_twice (lacks_column columns column) false false (operand_lacks_column columns source) false
    (differ (type_named columns column) (operand_type (type_named columns) source) || shifts_text (type_named columns) source) c.args.faults.now)
