use Rattle.std.proofs.Common.{◌<◌, Some, arith, get_or, length, sym, ap, ◌∙◌, subst}
use Rattle.std.specs.Option.{option_map}
use Rattle.std.specs.Prelude.{slice_get}
use Rattle.std.proofs.lemmas.Option.{IfSome_then, slice_get_within}
use Rattle.mm_partition.specs.Places.{IsLive}
use Rattle.mm_query.specs.Atoms.{value_in}
use Rattle.mm_indexed.specs.Kept.{StoredRows}
use Rattle.mm_select.proofs.Fits.{row_here}
use Rattle.mm_store.proofs.Joining.{one_relation}
use Rattle.mm_value.specs.Prefix.{order_prefix}
use Rattle.mm_value.specs.declared.row_ref.RowRef.{RowRef}
use Rattle.mm_join.proofs.Prefixed.{one_read, prefix_read}
use Rattle.mm_join.proofs.Progress.{live_length}
use Rattle.mm_join.proofs.RowOfKey.{live_at, row_there}
use Rattle.mm_join.proofs.look_up.prefix_of_field.Goals as goal

pub bounds-outer-field-2 : goal.bounds-outer-field-2
bounds-outer-field-2 c =
    omega (arith, live_length c.args.view.now.store c.args.outer.tables.now c.args.outer.refs.now c.requires, c.if-field-outer.false)

pub prefix_of-requires-clause-there : goal.prefix_of-requires-clause-there
prefix_of-requires-clause-there c =
    let store = c.args.view.now.store in
    let (stored, here, live) = live_at store c.args.outer.tables.now c.args.outer.refs.now c.requires c.args.field.place (record { slot = 0 })
    c.if-field-outer.false in
    slice_get_within store.tables (get_or c.args.outer.tables.now c.args.field.place 0) stored here

pub prefix_of-requires-clause-live : goal.prefix_of-requires-clause-live
prefix_of-requires-clause-live c = λ stored here.
    let d : RowRef = record { slot = 0 } in
    let (found, there, live) = live_at c.args.view.now.store c.args.outer.tables.now c.args.outer.refs.now c.requires c.args.field.place d
    c.if-field-outer.false in
    subst (λ (s : StoredRows). IsLive s.places (get_or c.args.outer.refs.now c.args.field.place d)) (one_relation found stored (sym there ∙ here)) live

pub returns-clause-prefix : goal.returns-clause-prefix
returns-clause-prefix c =
    let store = c.args.view.now.store in
    let tables = c.args.outer.tables.now in
    let outer = c.args.outer.refs.now in
    let field = c.args.field in
    let d : RowRef = record { slot = 0 } in
    let within : field.place < length tables = c.if-field-outer.false in
    let (stored, here, live) = live_at store tables outer c.requires field.place d within in
    let row = row_here store (get_or tables field.place 0) stored here (get_or outer field.place d) in
    IfSome_then c.prefix_of.result (c.prefix_of.ensures.prefix stored here)
    (λ prefix is.
    ap (λ o. option_map order_prefix (option_map (value_in field.column) o)) (row_there store tables outer c.requires field.place d within)
    ∙ ap Some (prefix_read _ field.column prefix (ap (λ r. option_map order_prefix (slice_get r field.column)) row ∙ is)))

pub returns-clause-reads : goal.returns-clause-reads
returns-clause-reads c = one_read _ c.prefix_of.result c.args.view.now.reads c.prefix_of.new.self.reads c.prefix_of.ensures.counted
