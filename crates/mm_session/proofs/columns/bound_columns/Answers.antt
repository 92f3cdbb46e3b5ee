use Rattle.std.proofs.Common.{◌++◌, [], get_or, refl, sym, ◌∙◌}
use Rattle.std.specs.List.{cons_option}
use Rattle.mm_query.specs.declared.bound_query.FieldPlace.{FieldPlace}
use Rattle.mm_session.specs.Columns.{column_at_place}
use Rattle.mm_session.proofs.FoundColumns.{next_found}
use Rattle.mm_session.proofs.columns.bound_columns.Goals as goal

pub loop-place-preserved : goal.loop-place-preserved
loop-place-preserved c =
    let h = column_at_place c.args.catalog.now c.as_slice-from.result.now in
    let none : FieldPlace = record { place = 0; column = 0 } in
    let items = c.as_slice-place-items.result.now in
    let i = c.loop-place.place-index in
    c.in_ok-push_found.ensures
    ∙ ((λ k. c.loop-place.invariant k ++ cons_option (c.column_at_place.ensures k) [])
    ∙ sym (next_found h items i (get_or items i none) none c.loop-place-test.true refl))
