use Rattle.std.proofs.Common.{◌≡◌, List, None, Some, sym, ap, ◌∙◌}
use Rattle.std.specs.Prelude.{not, slice_get}
use Rattle.mm_indexed.specs.RowLists.{rows_of}
use Rattle.mm_partition.specs.Places.{slot_at}
use Rattle.mm_row_order.specs.Refs.{row_at}
use Rattle.mm_schema.specs.References.{lacks_target_row}
use Rattle.mm_value.specs.Views.{value_of}
use Rattle.mm_value.specs.declared.values.Value.{Value}
use Rattle.mm_link.specs.Links.{HasTargetRow}
use Rattle.mm_link.proofs.Referring.{found_row, no_row, on_false_from, target_from_lacks, turned}
use Rattle.mm_link.proofs.link.Link.lacks_target.Goals as goal

pub returns-in-Some-clause-rows : goal.returns-in-Some-clause-rows
returns-in-Some-clause-rows c =
    let column = c.args.self.now.reference.column in
    let to = c.args.to.now in
    let row = row_at (slot_at c.args.from.now.places) c.args.at in
    let value = value_of c.in-Some.value in
    let has : slice_get row column ≡ Some value = ap (λ (r : List Value). slice_get r column) (sym c.row_in.ensures) ∙ sym c.in-Some.ensures in
    turned c.is_none.result _ _ c.is_none.ensures (found_row column to.key row to.places.types (slot_at to.places) to.refs to.indexes
    c.is_kept.ensures value has c.find.result c.find.ensures.held c.find.ensures.fits c.find.ensures.none)

pub returns-in-Some-clause-found : goal.returns-in-Some-clause-found
returns-in-Some-clause-found c =
    let column = c.args.self.now.reference.column in
    let to = c.args.to.now in
    let row = row_at (slot_at c.args.from.now.places) c.args.at in
    let value = value_of c.in-Some.value in
    let has : slice_get row column ≡ Some value = ap (λ (r : List Value). slice_get r column) (sym c.row_in.ensures) ∙ sym c.in-Some.ensures in
    let is : c.is_none.result ≡ lacks_target_row column to.key (rows_of to) row =
    turned c.is_none.result _ _ c.is_none.ensures (found_row column to.key row to.places.types (slot_at to.places) to.refs to.indexes
    c.is_kept.ensures value has c.find.result c.find.ensures.held c.find.ensures.fits c.find.ensures.none) in
    on_false_from (HasTargetRow column to.key (slot_at to.places) row) c.is_none.result
    (λ no. target_from_lacks column to.key row to.places.types (slot_at to.places) to.refs to.indexes c.is_kept.ensures (sym is ∙ no))

pub returns-in-None-clause-rows : goal.returns-in-None-clause-rows
returns-in-None-clause-rows c =
    let column = c.args.self.now.reference.column in
    let to = c.args.to.now in
    let row = row_at (slot_at c.args.from.now.places) c.args.at in
    let none : slice_get row column ≡ None = ap (λ (r : List Value). slice_get r column) (sym c.row_in.ensures) ∙ sym c.in-None.ensures in
    sym (ap not (no_row column to.key row to.places.types (slot_at to.places) to.refs to.indexes c.is_kept.ensures none))
