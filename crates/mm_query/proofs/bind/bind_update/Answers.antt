-- The errors in the columns of the table at the name's position decide.
use Rattle.std.proofs.Common.{Some, None, inl, refl, sym, ◌∙◌}
use Rattle.mm_query.proofs.PlacedColumns.{bound_update, due_by_columns, due_of_update, none_missing, refused_nowhere}
use Rattle.mm_query.proofs.bind.bind_update.Goals as goal

pub returns-in_default-clause-due : goal.returns-in_default-clause-due
returns-in_default-clause-due c = inl (refused_nowhere c.args.name.now c.args.catalog.now c.args.assignments c.args.tests (sym c.in_default.ensures.place))

pub returns-in-Some-refusal-clause-due : goal.returns-in-Some-refusal-clause-due
returns-in-Some-refusal-clause-due c =
    let columns = c.table_at.result.now.definition.columns in
    let due =
    due_of_update columns c.args.tests c.as_slice-2.result.now c.as_slice-2.ensures c.args.assignments c.as_slice.result.now c.as_slice.ensures
    c.form_faults-faults.result c.place_assignments.new.faults c.place_tests.new.faults c.form_faults-faults.ensures c.in_ok-assignments.ensures.faults
    c.in_ok-tests.ensures.faults in
    inl
    (due_by_columns c.args.name.now c.args.catalog.now c.in-Some.table c.table_at.result.now (sym c.in-Some.ensures.place) c.table_at.ensures columns refl
    c.args.assignments c.args.tests (Some c.in-Some-refusal.refusal) (c.in-Some-refusal.ensures ∙ due))

pub returns-in-None-clause-due : goal.returns-in-None-clause-due
returns-in-None-clause-due c =
    let columns = c.table_at.result.now.definition.columns in
    let due =
    due_of_update columns c.args.tests c.as_slice-2.result.now c.as_slice-2.ensures c.args.assignments c.as_slice.result.now c.as_slice.ensures
    c.form_faults-faults.result c.place_assignments.new.faults c.place_tests.new.faults c.form_faults-faults.ensures c.in_ok-assignments.ensures.faults
    c.in_ok-tests.ensures.faults in
    due_by_columns c.args.name.now c.args.catalog.now c.in-Some.table c.table_at.result.now (sym c.in-Some.ensures.place) c.table_at.ensures columns refl
    c.args.assignments c.args.tests None (c.in-None.ensures ∙ due)

pub returns-in-None-clause-ok : goal.returns-in-None-clause-ok
returns-in-None-clause-ok c =
    let columns = c.table_at.result.now.definition.columns in
    let due =
    due_of_update columns c.args.tests c.as_slice-2.result.now c.as_slice-2.ensures c.args.assignments c.as_slice.result.now c.as_slice.ensures
    c.form_faults-faults.result c.place_assignments.new.faults c.place_tests.new.faults c.form_faults-faults.ensures c.in_ok-assignments.ensures.faults
    c.in_ok-tests.ensures.faults in
    let there = none_missing columns c.args.assignments c.args.tests (c.in-None.ensures ∙ due) in
    bound_update c.args.name.now c.args.catalog.now c.in-Some.table c.table_at.result.now (sym c.in-Some.ensures.place) c.table_at.ensures columns refl
    c.args.tests there.1 c.in_ok-tests.tests c.in_ok-tests.ensures.ok c.args.assignments c.in_ok-assignments.assignments there.0
    c.in_ok-assignments.ensures.ok
