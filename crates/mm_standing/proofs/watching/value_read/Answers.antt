-- The value is that of the row, and 0 if there is none.
use Rattle.std.proofs.Common.{◌≡◌, List, Option, Some, length, pos, refl, sym, ap, subst, ◌∙◌}
use Rattle.std.specs.Option.{option_map, unwrap_or}
use Rattle.std.proofs.lemmas.Bool.{ltb-false}
use Rattle.std.proofs.lemmas.Option.{get_or_from_slice_get, slice_get_read, slice_get_within}
use Rattle.mm_partition.specs.Places.{IsLive, row_in}
use Rattle.mm_partition.specs.Views.{viewed}
use Rattle.mm_query.specs.Atoms.{value_in}
use Rattle.mm_indexed.specs.Kept.{StoredRows}
use Rattle.mm_select.proofs.Fits.{row_here}
use Rattle.mm_store.specs.Tables.{IsAt}
use Rattle.mm_store.proofs.Joining.{one_relation}
use Rattle.mm_templist.specs.Combos.{row_of}
use Rattle.mm_templist.proofs.Fields.{read_in}
use Rattle.mm_value.specs.Views.{value_of}
use Rattle.mm_value.specs.declared.row_ref.RowRef.{RowRef}
use Rattle.mm_value.specs.declared.values.Value.{Value}
use Rattle.mm_value.specs.declared.values.Value.TheVariants.{Int}
use Rattle.mm_standing.proofs.Found.{IsRead, none_read, read_from}
use Rattle.mm_standing.proofs.watching.value_read.Goals as goal
use Rattle.mm_standing.proofs.watching.value_read.Goals.{In-Some}

pub returns-in_default-clause-value : goal.returns-in_default-clause-value
returns-in_default-clause-value c =
    sym (ap (λ (row : Option (List Value)). unwrap_or (option_map (value_in c.args.field.column) row) (Int (pos 0)))
    (none_read c.args.view.now.store c.args.tables.now c.args.combo.now c.args.field.place c.requires
    (ltb-false c.args.field.place (length c.args.tables.now) (sym c.in_default.ensures.lookup.0))))

found : (c : In-Some) → IsRead c.args.view.now.store c.args.tables.now c.args.combo.now c.args.field.place c.in-Some.table.now
found c =
    let tables = c.args.tables.now in
    let place = c.args.field.place in
    read_from c.args.view.now.store tables c.args.combo.now place c.in-Some.table.now c.requires
    (slice_get_read tables (length tables) place c.in-Some.table.now refl c.in-Some.ensures.lookup.3.0 c.in-Some.ensures.lookup.1)

pub bounds-combo-field : goal.bounds-combo-field
bounds-combo-field c =
    let read = found (goal.at.bounds-combo-field c).In-Some in slice_get_within c.args.combo.now c.args.field.place read.at read.named

pub row-row-requires-clause-there : goal.row-row-requires-clause-there
row-row-requires-clause-there c =
    let read = found (goal.at.row-row-requires-clause-there c).In-Some in
    slice_get_within c.args.view.now.store.tables c.in-Some.table.now read.stored read.there

pub row-row-requires-clause-live : goal.row-row-requires-clause-live
row-row-requires-clause-live c = λ stored there.
    let read = found (goal.at.row-row-requires-clause-live c).In-Some in
    subst (λ (at : RowRef). IsLive stored.places at) (sym (get_or_from_slice_get c.args.combo.now c.args.field.place read.at _ read.named))
    (subst (λ (s : StoredRows). IsLive s.places read.at) (one_relation read.stored stored (sym read.there ∙ there)) read.live)

pub returns-clause-value : goal.returns-clause-value
returns-clause-value c =
    let store = c.args.view.now.store in
    let table = c.in-Some.table.now in
    let read = found (goal.at.returns-clause-value c).In-Some in
    let row : List Value = viewed c.row-row.result in
    let at = get_or_from_slice_get c.args.combo.now c.args.field.place read.at _ read.named in
    let same : row_of store table read.at ≡ row =
    ap (row_of store table) (sym at) ∙ (row_here store table read.stored read.there _ ∙ ap row_in (c.row-row.ensures.row read.stored read.there)) in
    ap value_of c.unwrap_or.ensures
    ∙ (read_in row c.args.field.column c.get-2.result c.get-2.ensures
    ∙ sym (ap (λ (o : Option (List Value)). unwrap_or (option_map (value_in c.args.field.column) o) (Int (pos 0))) (read.row ∙ ap Some same)))
