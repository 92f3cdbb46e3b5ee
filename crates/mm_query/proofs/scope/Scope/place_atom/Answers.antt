use Rattle.std.proofs.Common.{false, ◌||◌, ◌∙◌}
use Rattle.std.specs.Option.{option_map_or}
use Rattle.mm_query.specs.Faults.{noted}
use Rattle.mm_query.specs.Placing.{differ, operand_type, shifts_text}
use Rattle.mm_query.specs.Resolving.{column_of, field_lacks_column, field_type, lacks_alias}
use Rattle.mm_query.proofs.Noted.{noted_twice}
use Rattle.mm_query.proofs.scope.Scope.place_atom.Goals as goal

pub returns-clause-faults : goal.returns-clause-faults
returns-clause-faults c =
    let schema = c.args.self.now.catalog.now in
    let from = c.args.self.now.from in
    let left = c.args.atom.left in
    let right = c.args.atom.right in
    let column = option_map_or (field_lacks_column schema from) (column_of right) false in
    let alias = option_map_or (lacks_alias from) (column_of right) false in
    c.place_operand.ensures.faults
    ∙ ((λ i. noted column alias
    (differ (c.resolve-left.ensures.col_type i) (operand_type (field_type schema from) right) || shifts_text (field_type schema from) right)
    (c.resolve-left.ensures.faults i))
    ∙ noted_twice (field_lacks_column schema from left) (lacks_alias from left) false column alias
    (differ (field_type schema from left) (operand_type (field_type schema from) right) || shifts_text (field_type schema from) right) c.args.faults.now)
