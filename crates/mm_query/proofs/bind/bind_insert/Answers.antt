-- The tuples were checked against the columns of the table at the name's position.
use Rattle.std.proofs.Common.{◌≡◌, true, false, sym, subst, ◌∙◌}
use Rattle.std.specs.List.{list_any}
use Rattle.mm_query.specs.Binding.{has_other_length}
use Rattle.mm_query.proofs.Tuples.{due_length, due_mismatch, none_due}
use Rattle.mm_query.proofs.bind.bind_insert.Goals as goal

pub returns-then-have_type_mismatch-clause-due : goal.returns-then-have_type_mismatch-clause-due
returns-then-have_type_mismatch-clause-due c =
    due_mismatch c.args.name.now c.args.catalog.now c.args.tuples c.in-Some.place c.table_at.result.now (sym c.in-Some.ensures.place) c.table_at.ensures
    c.as_slice-columns.result.now c.as_slice.result.now c.as_slice-columns.ensures.value c.as_slice.ensures c.if-have_type_mismatch.ensures

pub returns-then-have_other_length-clause-due : goal.returns-then-have_other_length-clause-due
returns-then-have_other_length-clause-due c =
    due_length c.args.name.now c.args.catalog.now c.args.tuples c.in-Some.place c.table_at.result.now (sym c.in-Some.ensures.place) c.table_at.ensures
    c.as_slice-columns.result.now c.as_slice.result.now c.as_slice-columns.ensures.value c.as_slice.ensures c.if-have_type_mismatch.ensures
    (subst (λ ts. true ≡ list_any (has_other_length c.as_slice-columns.result.now) ts) (c.as_slice-2.ensures ∙ sym c.as_slice.ensures)
    c.if-have_other_length.ensures)

pub returns-clause-due : goal.returns-clause-due
returns-clause-due c =
    none_due c.args.name.now c.args.catalog.now c.args.tuples c.in-Some.place c.table_at.result.now (sym c.in-Some.ensures.place) c.table_at.ensures
    c.as_slice-columns.result.now c.as_slice.result.now c.as_slice-columns.ensures.value c.as_slice.ensures c.if-have_type_mismatch.ensures
    (subst (λ ts. false ≡ list_any (has_other_length c.as_slice-columns.result.now) ts) (c.as_slice-2.ensures ∙ sym c.as_slice.ensures)
    c.if-have_other_length.ensures)
