use Rattle.std.proofs.Common.{◌++◌, [], sym, ◌∙◌}
use Rattle.std.specs.List.{cons_option}
use Rattle.mm_session.specs.Columns.{column_of_field}
use Rattle.mm_session.proofs.FoundColumns.{next_found}
use Rattle.mm_session.proofs.columns.query_columns.Goals as goal

pub loop-field-preserved : goal.loop-field-preserved
loop-field-preserved c =
    let h = column_of_field c.args.catalog.now c.as_slice-from.result.now in
    c.in_ok-push_found.ensures
    ∙ ((λ k. c.loop-field.invariant k ++ cons_option (c.column_of_field.ensures k) [])
    ∙ sym (next_found h c.as_slice-field-items.result.now c.loop-field.field-index c.field-item.result c.field-item.result c.loop-field-test.true
    c.field-item.is))
